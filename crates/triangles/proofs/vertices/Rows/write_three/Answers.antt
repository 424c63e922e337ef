-- `triangles::Rows::write_three` meets its contract: three rows, one after the other. Assumes nothing.
use Rattle.lists.proofs.Writing.{written_then}
use Rattle.rules.specs.Triangles.{corners}
use Rattle.triangles.proofs.vertices.Rows.write_three.Goals as goal

pub returns-clause-written : goal.returns-clause-written
unfolding corners
returns-clause-written c = written_then c.write-p.ensures.written (written_then c.write-q.ensures.written c.write.ensures.written)
