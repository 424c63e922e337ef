-- The list of the ranges of all kinds, as a loop fills it; and what it holds are Decode's ranges. Assumes nothing.
use Prim.Native.Nat.{ℕ, ◌<◌}
use mathlib.Core.Path.{◌≡◌, refl}
use mathlib.Core.List.{List}
use lib.Ieee.{Float}
use Rattle.lists.proofs.Pieces.{get_d_singles}
use Rattle.decode.specs.declared.Range.{Range}
use Rattle.decode.specs.Decode.{ranges}
use Rattle.rows.specs.declared.Source.{Source}
use Rattle.rows.specs.declared.Source.TheVariants.{Bits, List as Listed}
use Rattle.rows.specs.Inner.Sources.{numbers_of, range_list, held_ranges, filled_ranges}

pub held_ranges_lem : (dec : List Float) (coord comp k : ℕ) → k < 34 → held_ranges (range_list dec coord comp) k ≡ ranges dec coord comp k
unfolding range_list
held_ranges_lem dec coord comp k h = get_d_singles (ranges dec coord comp) _ 34 k h

-- what a list makes needs no ranges; so once they are filled, what is made of them is what Decode's ranges make
pub filled_alike : (S : Source) (filled before : List Range) → numbers_of S (held_ranges (filled_ranges S filled before)) ≡ numbers_of S (held_ranges filled)
unfolding numbers_of
filled_alike (Bits s) filled before = refl
filled_alike (Listed vs) filled before = refl
