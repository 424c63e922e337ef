-- `colour_of` by the list's length, as the code tests it. Assumes nothing.
use mathlib.Core.Path.{◌≡◌, refl}
use mathlib.Core.List.{List, [], ◌∷◌}
use Prim.Native.Nat.{ℕ, ◌≤◌, ◌<◌}
use native.Mathlib.Omega.{arith}
use lib.ListN.{length, get_or}
use lib.Ieee.{Float, nan}
use Rattle.decode.specs.Floats.{float0}
use Rattle.colour.specs.Light.{clamp_of}
use Rattle.colour.specs.Colour.{gray_of, rgb_of, cmyk_of, colour_of}

-- the component at i, clamped
abbrev part : List Float → ℕ → Float
part l i = clamp_of (get_or l i nan)

pub gray : (l : List Float) → length l ≡ 1 → colour_of l ≡ gray_of (part l 0)
unfolding colour_of
gray [] h = absurd (omega arith)
gray (a ∷ []) h = refl
gray (a ∷ (b ∷ l)) h = absurd (omega arith)

pub few : (l : List Float) → (length l ≡ 1 → ⊥) → length l < 3 → colour_of l ≡ gray_of float0
unfolding colour_of
few [] n h = refl
few (a ∷ []) n h = absurd (n refl)
few (a ∷ (b ∷ [])) n h = refl
few (a ∷ (b ∷ (c ∷ l))) n h = absurd (omega arith)

pub four : (l : List Float) → length l ≡ 4 → colour_of l ≡ cmyk_of (part l 0) (part l 1) (part l 2) (part l 3)
unfolding colour_of
four [] h = absurd (omega arith)
four (a ∷ []) h = absurd (omega arith)
four (a ∷ (b ∷ [])) h = absurd (omega arith)
four (a ∷ (b ∷ (c ∷ []))) h = absurd (omega arith)
four (a ∷ (b ∷ (c ∷ (d ∷ [])))) h = refl
four (a ∷ (b ∷ (c ∷ (d ∷ (e ∷ l))))) h = absurd (omega arith)

pub more : (l : List Float) → 3 ≤ length l → (length l ≡ 4 → ⊥) → colour_of l ≡ rgb_of (part l 0) (part l 1) (part l 2)
unfolding colour_of
more [] h n = absurd (omega arith)
more (a ∷ []) h n = absurd (omega arith)
more (a ∷ (b ∷ [])) h n = absurd (omega arith)
more (a ∷ (b ∷ (c ∷ []))) h n = refl
more (a ∷ (b ∷ (c ∷ (d ∷ [])))) h n = absurd (n refl)
more (a ∷ (b ∷ (c ∷ (d ∷ (e ∷ l))))) h n = refl
