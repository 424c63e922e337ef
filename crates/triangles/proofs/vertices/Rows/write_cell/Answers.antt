-- `triangles::Rows::write_cell` meets its contract: six rows, of which one at least is placed. Assumes nothing.
use Rattle.rows.specs.Inner.Sources.{held_ranges}
use Rattle.triangles.specs.Inner.Vertices.{row_size, row_in}
use Rattle.triangles.proofs.Rows.{length_in}
use Rattle.triangles.proofs.Cells.{known_on, cell_written}
use Rattle.triangles.proofs.vertices.Rows.write_cell.Goals as goal

pub write_row-q-requires-clause-known : goal.write_row-q-requires-clause-known
write_row-q-requires-clause-known c = known_on c.args.cell.above _ _ c.requires.above c.write_row-p.ensures.written

pub write_row-s-requires-clause-known : goal.write_row-s-requires-clause-known
write_row-s-requires-clause-known c =
    known_on c.args.cell.below _ _ (known_on c.args.cell.below _ _ c.requires.below c.write_row-p.ensures.written) c.write_row-q.ensures.written

pub returns-clause-written : goal.returns-clause-written
returns-clause-written c =
    let r = c.args.self in
    let v = r.vertices.now in
    cell_written (row_in r) (row_size v) (length_in v (held_ranges r.ranges.now)) c.args.cell.row c.args.cell.i c.write_row-p.ensures.written c.write_row-q.ensures.written
    c.write_row-s.ensures.written c.copy-t.ensures.written c.write-u.ensures.written c.copy.ensures.written
