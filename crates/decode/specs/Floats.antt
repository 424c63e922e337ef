-- The two floats that document 01 names. A float in the logic is a NaN, an infinity, or a sign, a whole number and a power of two.
use Rattle.std.specs.Prelude.{false, pos, Float}
use Rattle.std.specs.Float.{fin}

-- 0.0
abbrev pub float0 : Float
float0 = fin false 0 (pos 0)

-- 1.0
abbrev pub float1 : Float
float1 = fin false 1 (pos 0)
