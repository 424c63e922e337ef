-- The indices of `write_along`, in the border and in what is written: each is inside and fits. Assumes nothing.
use Prim.Native.Nat.{ℕ, ◌+◌, ◌*◌, ◌^◌, ◌≤◌, ◌<◌}
use native.Mathlib.Omega.{arith}
use borrow.Author.Rules.{scaled_Fits}
use lib.Dec.{T, leb, leb→le}
use mir.Syntax.{w64}
use mir.Val.{Fits}

-- a number of the border, the first of an axis or k further
module _ {axis : ℕ} (h : axis ≤ 1) where
  pub corner_in : axis < 24
  corner_in = omega arith

  pub corner_scaled : (size : ℕ) → 24 * size < 2 ^ 63 → Fits w64 (axis * size)
  corner_scaled size s = scaled_Fits axis 24 size corner_in s

module _ {axis : ℕ} (k : ℕ) (h : axis ≤ 1) (t : T (leb k 22)) where
  pub border_in : axis + k < 24
  border_in = omega (arith, leb→le k 22 t)

  pub border_fits : Fits w64 (axis + k)
  border_fits = record { fits = omega (arith, leb→le k 22 t) }

  pub border_scaled : (size : ℕ) → 24 * size < 2 ^ 63 → Fits w64 ((axis + k) * size)
  border_scaled size s = scaled_Fits (axis + k) 24 size border_in s

-- a list has the place 6 after `at`, and takes less than half the memory
pub record Room (at long : ℕ) : Type 0 where
  pub inside : at + 6 < long
  pub small : long * 8 < 2 ^ 63

module _ {at long : ℕ} (r : Room at long) where
  pub first_in : at < long
  first_in = omega arith

  pub first_scaled : Fits w64 (at * 8)
  first_scaled = scaled_Fits at long 8 first_in r.small

  module _ (k : ℕ) (t : T (leb k 6)) where
    pub place_in : at + k < long
    place_in = omega (arith, leb→le k 6 t)

    pub place_fits : Fits w64 (at + k)
    place_fits = record { fits = omega (arith, leb→le k 6 t) }

    pub place_scaled : Fits w64 ((at + k) * 8)
    place_scaled = scaled_Fits (at + k) long 8 place_in r.small
