-- `rows::writing::write_part` meets its contract: after each turn two numbers more stand in `out` from `at`. Of an odd count the last is left.
-- Assumes nothing.
use Rattle.std.proofs.Common.{arith, ◌≡◌, ◌+◌, zero-add, length}
use Rattle.lists.proofs.Pieces.{part_all}
use Rattle.lists.proofs.Writing.{copy_none, copy_more, copy_two}
use Rattle.rows.proofs.writing.write_part.Goals as goal
use Rattle.rows.proofs.writing.write_part.Goals.{then-j-n, else-j-n}

pub loop-j-init : goal.loop-j-init
loop-j-init c = record { inside = omega arith; written = copy_none _ _ _ _ _ (omega arith) }

pub loop-j-preserved : goal.loop-j-preserved
loop-j-preserved c =
    let l = c.loop-j in
    record { inside = omega arith; written = rw zero-add at (copy_two _ c.args.values.now 0 l.j (omega arith) l.invariant.written) }

pub returns-clause-written : goal.returns-clause-written
returns-clause-written c =
    let l = c.loop-j in
    let vs = c.args.values.now in
    elim c.if-j-n.branch [
      | then-j-n w ↦
          let e : l.j + 1 ≡ length vs = omega arith in
          rw w.out-is (rw (zero-add, e, part_all) at (copy_more _ vs 0 l.j (omega arith) l.invariant.written))
      | else-j-n w ↦
          let e : l.j ≡ length vs = omega arith in
          rw w.out-is (rw (e, part_all) at l.invariant.written)
    ]
