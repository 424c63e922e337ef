-- `rows::writing::write_corner` meets its contract: ten numbers beside the components, and before them two rows or none. Assumes nothing.
use Rattle.rows.proofs.Corners.{corner_alone, corner_joined}
use Rattle.rows.proofs.writing.write_corner.Goals as goal

pub returns-then-side-at-clause-written : goal.returns-then-side-at-clause-written
returns-then-side-at-clause-written c =
    let taken = c.if-side-at.true in
    let a = c.args in
    corner_joined a.vertex a.n a.side a.at (rw c.row_index.ensures at c.write_vertex.ensures.written) c.requires.room taken (c.requires.before taken) c.copy_row-p.ensures.written
    c.copy_row.ensures.written

pub returns-else-side-at-clause-written : goal.returns-else-side-at-clause-written
returns-else-side-at-clause-written c =
    let a = c.args in
    corner_alone a.vertex a.n a.side a.at (rw c.row_index.ensures at c.write_vertex.ensures.written) c.requires.room c.if-side-at.false
