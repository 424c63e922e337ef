-- `rows::writing::copy_row` meets its contract: a point and a colour side by side. Assumes nothing.
use Prim.Native.Nat.{◌+◌}
use mathlib.Core.Path.{◌≡◌}
use native.Mathlib.Omega.{arith}
use lib.Ieee.{nan}
use Rattle.lists.proofs.Writing.{copied_then}
use Rattle.rows.proofs.writing.copy_row.Goals as goal

pub returns-clause-written : goal.returns-clause-written
returns-clause-written c =
    let a = c.args in
    let e : 2 + (8 + a.n) ≡ 10 + a.n = omega arith in
    rw e at (copied_then nan a.from 2 (8 + a.n) c.copy_part-p.ensures.written c.copy_colour.ensures.written (omega arith))
