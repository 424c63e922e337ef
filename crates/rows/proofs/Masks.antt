-- What the two masks leave of a flag: of 32 bits all, and the two low ones. Assumes nothing.
use Prim.Native.Nat.{ℕ, ◌%◌, ◌^◌, ◌<◌}
use mathlib.Core.Path.{◌≡◌, ◌∙◌}
use mathlib.Core.Bool.{true, false}
use native.Mathlib.Nat.{mod-eq_of_lt}
use native.Mathlib.Omega.{arith}
use lib.Bits.{and_mask}
use lib.Ieee.{Float, nan, inf, fin, to_unsigned}
use Rattle.decode.specs.Decode.{flag_of}
use Rattle.rows.specs.Inner.Sources.{masked}

pub whole_masked : (x : ℕ) → x < 2 ^ 32 → masked 4294967295 x ≡ x
whole_masked x h = and_mask x 32 ∙ mod-eq_of_lt h

pub low_masked : (x : ℕ) → masked 3 x ≡ x % 4
low_masked x = and_mask x 2

-- the flag of a number of a list has 32 bits
pub flag_below : (x : Float) → flag_of x < 2 ^ 32
unfolding to_unsigned
flag_below nan = omega arith
flag_below (inf true) = omega arith
flag_below (inf false) = omega arith
flag_below (fin true m e) = omega arith
flag_below (fin false m e) = omega arith
