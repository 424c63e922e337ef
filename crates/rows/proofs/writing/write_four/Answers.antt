-- `rows::writing::write_four` meets its contract: two and two. Assumes nothing.
use Rattle.lists.proofs.Writing.{written_then}
use Rattle.rows.proofs.writing.write_four.Goals as goal

pub returns-clause-written : goal.returns-clause-written
returns-clause-written c = written_then c.write_two-p.ensures.written c.write_two.ensures.written
