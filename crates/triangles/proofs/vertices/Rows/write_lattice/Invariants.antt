-- `triangles::Rows::write_lattice` meets its contract: after r turns the cells of r rows stand in `out`. Assumes nothing.
use Prim.Native.Nat.{ℕ}
use mathlib.Core.List.{List}
use lib.Ieee.{Float}
use Rattle.rows.specs.Inner.Sources.{held_ranges}
use Rattle.triangles.specs.declared.vertices.Rows.{Rows}
use Rattle.triangles.specs.Inner.Vertices.{row_size, row_in}
use Rattle.triangles.proofs.Rows.{length_in}
use Rattle.triangles.proofs.Cells.{Bands}
use Rattle.triangles.proofs.vertices.Rows.write_lattice.Given as goal

-- so many rows of cells
abbrev pub Wrote : Rows → List Float → List Float → ℕ → ℕ → ℕ → Type 0
Wrote r = let v = r.vertices.now in Bands (row_in r) (row_size v) (length_in v (held_ranges r.ranges.now))

abbrev pub invariant-loop-r : goal.invariant-loop-r
invariant-loop-r l = Wrote l.self l.initial.out l.out l.p l.row l.r
