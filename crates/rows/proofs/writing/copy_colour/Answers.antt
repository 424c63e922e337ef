-- `rows::writing::copy_colour` meets its contract: three parts side by side. Assumes nothing.
use native.Mathlib.Omega.{arith}
use lib.Ieee.{nan}
use Rattle.lists.proofs.Writing.{copied_then}
use Rattle.rows.proofs.writing.copy_colour.Goals as goal

pub returns-clause-written : goal.returns-clause-written
returns-clause-written c =
    let eight = copied_then nan _ 4 4 c.copy_four-p.ensures.written c.copy_four-q.ensures.written (omega arith) in
    copied_then nan _ 8 _ eight c.copy_part.ensures.written (omega arith)
