-- Signed numbers as differences of natural ones, in 64 bits. Assumes nothing.
use Prim.Native.Nat.{ℕ, zero, suc, ◌-◌, ◌^◌, ◌<◌}
use mathlib.Core.Path.{◌≡◌, ◌∙◌}
use mathlib.Core.Bool.{Bool, true, false, cond}
use native.Mathlib.Nat.{add-zero}
use native.Mathlib.Omega.{arith}
use lib.Dec.{ltb}
use lib.IntN.{ℤ, pos, negsuc, ◌-ℤ◌}
use lib.Signed.{mag}
use mir.Syntax.{w64}
use mir.Val.{SFits, to_z, of_z}
use mir.Facts.{to_z-of_z}

-- a signed number is kept as its bits, and read back from them
pub told : {z y : ℤ} → mag z < 2 ^ 63 → z ≡ y → to_z w64 (of_z w64 z) ≡ y
told h e = to_z-of_z {w = w64} (record { sfits = h }) ∙ e

-- either way round, a difference is no larger than the two numbers
mag_either : (b : Bool) (m k n : ℕ) → m < n → k < n → mag (cond b (negsuc (suc k - suc m)) (pos (m - suc k))) < n
mag_either true m k n p q = omega arith
mag_either false m k n p q = omega arith

mag_difference : (m k n : ℕ) → m < n → k < n → mag (pos m -ℤ pos k) < n
mag_difference m zero n p q = rw add-zero p
mag_difference m (suc k) n p q = mag_either (ltb m (suc k)) m k n p (omega arith)

pub difference_fits : (m k : ℕ) → m < 2 ^ 63 → k < 2 ^ 63 → SFits w64 (pos m -ℤ pos k)
difference_fits m k p q = record { sfits = mag_difference m k (2 ^ 63) p q }
