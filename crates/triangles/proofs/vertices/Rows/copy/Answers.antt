-- `triangles::Rows::copy` meets its contract: the row is copied inside `out`. Assumes nothing.
use Rattle.rows.proofs.Callers.{copy_written}
use Rattle.triangles.specs.Inner.Vertices.{row_size}
use Rattle.triangles.proofs.vertices.Rows.copy.Goals as goal

pub returns-clause-value : goal.returns-clause-value
returns-clause-value c = (copy_written (row_size c.args.self.vertices.now) c.args.from c.copy_row.ensures c.requires.before c.requires.room).0

pub returns-clause-written : goal.returns-clause-written
returns-clause-written c = (copy_written (row_size c.args.self.vertices.now) c.args.from c.copy_row.ensures c.requires.before c.requires.room).1
