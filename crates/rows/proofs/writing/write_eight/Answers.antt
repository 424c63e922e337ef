-- `rows::writing::write_eight` meets its contract: four and four. Assumes nothing.
use lib.Ieee.{of_bits}
use Rattle.lists.proofs.Writing.{written_then}
use Rattle.rows.proofs.writing.write_eight.Goals as goal
use Rattle.rows.proofs.writing.write_eight.Goals.{in-Some, in-None}

pub returns-clause-written : goal.returns-clause-written
unfolding of_bits
returns-clause-written c =
    let all = written_then c.write_four-p.ensures.written c.write_four.ensures.written in
    elim c.match-colour.branch [
      | in-Some w ↦ rw w.in-Some.is (rw w.mark-is at all)
      | in-None w ↦ rw w.in-None.is (rw w.mark-is at all)
    ]
