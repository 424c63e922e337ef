-- `copy_point` meets its contract: two numbers that stand before are copied. Assumes nothing.
use Prim.Native.Nat.{◌+◌, ◌*◌}
use native.Mathlib.Omega.{arith}
use Rattle.rows.proofs.Callers.{copy_written}
use Rattle.patches.specs.Inner.Records.{point_in}
use Rattle.patches.proofs.writing.copy_point.Goals as goal

pub returns-clause-value : goal.returns-clause-value
returns-clause-value c =
    let a = c.args in
    (copy_written 2 (a.start + a.i * 2) c.copy_point.ensures (omega arith) (omega arith)).0

pub returns-clause-written : goal.returns-clause-written
unfolding point_in
returns-clause-written c =
    let a = c.args in
    (copy_written 2 (a.start + a.i * 2) c.copy_point.ensures (omega arith) (omega arith)).1
