-- `rows::writing::copy_part` meets its contract: after each turn two numbers more stand in `out` from `at`; what is read stands before that, as it was.
-- Of an odd count the last is left. Assumes nothing.
use Rattle.std.proofs.Common.{arith, ◌≡◌, ◌+◌}
use Rattle.std.specs.Float.{nan}
use Rattle.lists.proofs.Writing.{copy_none, copy_within, copy_two_within}
use Rattle.rows.proofs.writing.copy_part.Goals as goal
use Rattle.rows.proofs.writing.copy_part.Goals.{then-j-n, else-j-n}

pub loop-j-init : goal.loop-j-init
loop-j-init c = record { inside = omega arith; written = copy_none _ _ _ _ _ (omega arith) }

pub loop-j-preserved : goal.loop-j-preserved
loop-j-preserved c =
    let l = c.loop-j in
    record { inside = omega arith; written = copy_two_within nan c.args.from l.j (omega arith) (omega arith) l.invariant.written }

pub returns-clause-written : goal.returns-clause-written
returns-clause-written c =
    let l = c.loop-j in
    let n = c.args.n in
    elim c.if-j-n.branch [
      | then-j-n w ↦
          let e : l.j + 1 ≡ n = omega arith in
          rw (w.out-is, ← e) (copy_within nan c.args.from l.j (omega arith) (omega arith) l.invariant.written)
      | else-j-n w ↦
          let e : l.j ≡ n = omega arith in
          rw (w.out-is, ← e) l.invariant.written
    ]
