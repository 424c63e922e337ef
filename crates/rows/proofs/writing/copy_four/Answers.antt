-- `rows::writing::copy_four` meets its contract: three parts side by side. Assumes nothing.
use native.Mathlib.Omega.{arith}
use lib.Ieee.{nan}
use Rattle.lists.proofs.Writing.{copied_then}
use Rattle.rows.proofs.writing.copy_four.Goals as goal

pub returns-clause-written : goal.returns-clause-written
returns-clause-written c =
    let three = copied_then nan _ 2 1 c.copy_part-p.ensures.written c.copy_part-q.ensures.written (omega arith) in
    copied_then nan _ 3 1 three c.copy_part.ensures.written (omega arith)
