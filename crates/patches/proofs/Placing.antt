-- Points and colours that stand in a mesh are there whole: so they are read and placed. Assumes nothing.
use Prim.Native.Nat.{ℕ, ◌+◌, ◌*◌, ◌≤◌}
use mathlib.Core.Path.{◌≡◌}
use mathlib.Core.List.{List}
use native.Mathlib.Omega.{arith}
use lib.ListN.{length}
use lib.Ieee.{Float}
use Rattle.lists.specs.Writing.{Written, Placed}
use Rattle.decode.specs.Decode.{Ranges}
use Rattle.colour.specs.Inner.Places.{points_at, colours_at}
use Rattle.rows.specs.Inner.Sources.{numbers_of}
use Rattle.rows.specs.Inner.Placing.{points_fit, colours_fit}
use Rattle.rows.proofs.Callers.{points_written, colours_written}
use Rattle.patches.specs.declared.finding.Records.{Records}
use Rattle.patches.specs.Inner.Records.{points_from, colours_from}

module _ (m : Records) (R : Ranges) {l o : List Float} {at next : ℕ} (k p : ℕ) where
  pub points_placed : Placed (points_fit m.input k p at (length l)) l o at (points_at (numbers_of m.input.source R) m.input.layout.coord k p) next
      → k ≤ 16 → p + k * (2 * m.input.layout.coord) ≤ m.limit → at + 2 * k ≤ length l
      → (next ≡ at + 2 * k) × Written l o at (points_from m R k p) next
  unfolding points_from
  points_placed w few there room = points_written m.input _ k p w few (omega (arith, m.all_places)) room

  pub colours_placed : Placed (colours_fit m.input k p at (length l)) l o at
      (colours_at (numbers_of m.input.source R) m.input.layout.comp m.input.layout.n k p) next
      → k ≤ 4 → p + k * (m.input.layout.n * m.input.layout.comp) ≤ m.limit → at + k * (8 + m.input.layout.n) ≤ length l
      → (next ≡ at + k * (8 + m.input.layout.n)) × Written l o at (colours_from m R k p) next
  unfolding colours_from
  colours_placed w few there room = colours_written m.input _ k p w few (omega (arith, m.all_places)) room
