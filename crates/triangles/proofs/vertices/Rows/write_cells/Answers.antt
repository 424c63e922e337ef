-- `triangles::Rows::write_cells` meets its contract: after c turns c cells stand in `out`, and the next finds its rows among them. Assumes nothing.
use Rattle.std.proofs.Common.{arith}
use borrow.Author.Tests.{ltb-true}
use Rattle.triangles.proofs.Cells.{cells_start, cells_enough, cells_room, cells_more, cells_done, known_if, stands_above, stands_left, stands_below}
use Rattle.triangles.proofs.vertices.Rows.write_cells.Goals as goal

pub loop-c-init : goal.loop-c-init
loop-c-init c = cells_start _ _ _ _ _ _ _ (omega arith)

pub back_from-requires : goal.back_from-requires
back_from-requires c = λ e. omega (arith, cells_enough _ _ _ c.loop-c.invariant (ltb-true _ _ e))

pub back_from-requires-in-loop-c-2 : goal.back_from-requires-in-loop-c-2
back_from-requires-in-loop-c-2 c = λ e. omega (arith, cells_enough _ _ _ c.loop-c.invariant (ltb-true _ _ e))

pub write_cell-p-requires-clause-room : goal.write_cell-p-requires-clause-room
write_cell-p-requires-clause-room c = cells_room _ _ _ c.loop-c.invariant (omega arith) c.requires.room

pub write_cell-p-requires-clause-left : goal.write_cell-p-requires-clause-left
write_cell-p-requires-clause-left c = known_if _ _ c.back_from.ensures (λ e. stands_left _ _ _ _ (ltb-true _ _ e) c.loop-c.invariant)

pub write_cell-p-requires-clause-above : goal.write_cell-p-requires-clause-above
write_cell-p-requires-clause-above c =
    known_if _ _ c.back_from-in-loop-c.ensures (λ e. stands_above _ _ _ c.loop-c.invariant (omega arith) (c.requires.above (ltb-true _ _ e)))

pub write_cell-p-requires-clause-below : goal.write_cell-p-requires-clause-below
write_cell-p-requires-clause-below c = known_if _ _ c.back_from-in-loop-c-2.ensures (λ e. stands_below _ _ _ _ (ltb-true _ _ e) c.loop-c.invariant)

pub loop-c-preserved : goal.loop-c-preserved
loop-c-preserved c = cells_more _ _ _ c.loop-c.invariant c.write_cell-p.ensures.written

pub returns-clause-value : goal.returns-clause-value
returns-clause-value c = (cells_done _ _ _ c.loop-c.invariant (omega arith) (omega arith)).0

pub returns-clause-written : goal.returns-clause-written
returns-clause-written c = (cells_done _ _ _ c.loop-c.invariant (omega arith) (omega arith)).1
