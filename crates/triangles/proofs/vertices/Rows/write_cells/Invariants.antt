-- `triangles::Rows::write_cells` meets its contract: after c turns c cells stand in `out`, and the next finds its rows among them. Assumes nothing.
use Prim.Native.Nat.{ℕ}
use mathlib.Core.List.{List}
use lib.Ieee.{Float}
use Rattle.rows.specs.Inner.Sources.{held_ranges}
use Rattle.triangles.specs.declared.vertices.Rows.{Rows}
use Rattle.triangles.specs.Inner.Vertices.{row_size, row_in}
use Rattle.triangles.proofs.Rows.{length_in}
use Rattle.triangles.proofs.Cells.{Cells}
use Rattle.triangles.proofs.vertices.Rows.write_cells.Given as goal

-- so many cells of the row
abbrev pub Wrote : Rows → List Float → List Float → ℕ → ℕ → ℕ → ℕ → ℕ → Type 0
Wrote r = let v = r.vertices.now in Cells (row_in r) (row_size v) (length_in v (held_ranges r.ranges.now))

abbrev pub invariant-loop-c : goal.invariant-loop-c
invariant-loop-c l = Wrote l.self l.initial.out l.out l.at l.p l.row l.first l.c
