-- The clamp, and the light that inks leave: document 01, "Numbers and colours". Each operation is rounded once.
use Rattle.std.specs.Prelude.{Bool, ◌&&◌, ◌||◌, cond, Float}
use Rattle.std.specs.Float.{binary64}
use Rattle.std.specs.Float.Ieee.{add, sub, lt, le, is_nan}
use Rattle.decode.specs.Floats.{float0, float1}

-- Rust's f64::clamp(0.0, 1.0): NaN and -0.0 stay
abbrev pub clamp_of : Float → Float
clamp_of x = cond (lt x float0) float0 (cond (lt float1 x) float1 x)

-- Rust's x.min(1.0): min of NaN and 1 is 1
abbrev pub lesser_of : Float → Float
lesser_of x = cond (lt x float1) x float1

-- 1 - min(ink + black, 1)
abbrev pub light_of : Float → Float → Float
light_of ink black = sub binary64 float1 (lesser_of (add binary64 ink black))

-- NaN, or within 0..1: -0.0 counts, as it equals 0.0
abbrev pub within : Float → Bool
within x = is_nan x || (le float0 x && le x float1)
