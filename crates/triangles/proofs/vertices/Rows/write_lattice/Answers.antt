-- `triangles::Rows::write_lattice` meets its contract: after r turns the cells of r rows stand in `out`. Assumes nothing.
use Rattle.std.proofs.Common.{arith, ◌≡◌, ◌+◌, ◌-◌, ◌≤◌}
use native.Mathlib.Nat.{mul-le-mul_right}
use Rattle.triangles.proofs.Cells.{bands_start, bands_room, bands_more, bands_above}
use Rattle.triangles.proofs.vertices.Rows.write_lattice.Goals as goal

pub loop-r-init : goal.loop-r-init
loop-r-init c = bands_start _ _ _ _ _

pub write_cells-p-requires-clause-there : goal.write_cells-p-requires-clause-there
write_cells-p-requires-clause-there c =
    let next : c.loop-r.r + 2 ≤ c.args.rows = omega arith in
    omega (arith, mul-le-mul_right c.args.row next, c.requires.there)

pub write_cells-p-requires-clause-room : goal.write_cells-p-requires-clause-room
write_cells-p-requires-clause-room c = bands_room _ _ _ c.loop-r.invariant c.args.rows (omega arith) c.requires.room

pub write_cells-p-requires-clause-above : goal.write_cells-p-requires-clause-above
write_cells-p-requires-clause-above c = λ some. bands_above _ _ _ _ some c.loop-r.invariant

pub loop-r-preserved : goal.loop-r-preserved
loop-r-preserved c = bands_more _ _ _ c.loop-r.invariant c.write_cells-p.ensures.written

pub returns : goal.returns
returns c =
    let e : c.loop-r.r ≡ c.args.rows - 1 = omega arith in
    rw e at c.loop-r.invariant.written
