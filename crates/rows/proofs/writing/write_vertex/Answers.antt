-- `rows::writing::write_vertex` meets its contract: the point, then the colour's eight numbers. Assumes nothing.
use Rattle.lists.proofs.Writing.{written_then}
use Rattle.rows.proofs.writing.write_vertex.Goals as goal

pub returns-clause-written : goal.returns-clause-written
returns-clause-written c = written_then c.write_two-p.ensures.written c.write_eight.ensures.written
