-- `triangles::Rows::write_triangles` meets its contract: the walk over the flags: what is written is the triangles so far, and the rows of the kept three
-- stand where the locals say. Assumes nothing.
use Prim.Native.Nat.{ℕ, ◌-◌}
use mathlib.Core.List.{List}
use lib.Ieee.{Float}
use Rattle.rows.specs.Inner.Sources.{held_ranges}
use Rattle.triangles.specs.declared.free_form.Rule.{Rule}
use Rattle.triangles.specs.declared.vertices.Rows.{Rows}
use Rattle.triangles.specs.Inner.Vertices.{row_size, flag_of_vertex, row_in}
use Rattle.triangles.proofs.Rows.{length_in}
use Rattle.triangles.proofs.Writing.{Writing}
use Rattle.triangles.proofs.vertices.Rows.write_triangles.Given as goal

-- the rows of the triangles so far
abbrev pub Wrote : Rows → Rule → List Float → List Float → ℕ → ℕ → ℕ → Type 0
Wrote r rule =
    let v = r.vertices.now in
    Writing (row_in r) (row_size v) (length_in v (held_ranges r.ranges.now)) rule (flag_of_vertex v) v.total

abbrev pub invariant-loop-i : goal.invariant-loop-i
invariant-loop-i l = Wrote l.self l.rule l.initial.out l.out l.p l.i l.first

abbrev pub decreases-loop-i : goal.decreases-loop-i
decreases-loop-i l = l.total - l.i
