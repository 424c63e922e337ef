-- `copy_colour` meets its contract: a colour's row that stands before is copied. Assumes nothing.
use Prim.Native.Nat.{◌+◌, ◌*◌}
use native.Mathlib.Nat.{mul-le-mul_right}
use native.Mathlib.Omega.{arith}
use Rattle.rows.proofs.Callers.{copy_written}
use Rattle.patches.specs.Inner.Records.{colour_in}
use Rattle.patches.proofs.writing.copy_colour.Goals as goal

pub returns-clause-value : goal.returns-clause-value
returns-clause-value c =
    let a = c.args in
    let n = a.layout.n in
    (copy_written (8 + n) (a.start + a.i * (8 + n)) c.copy_colour.ensures (omega (arith, mul-le-mul_right (8 + n) c.requires.few)) (omega arith)).0

pub returns-clause-written : goal.returns-clause-written
unfolding colour_in
returns-clause-written c =
    let a = c.args in
    let n = a.layout.n in
    (copy_written (8 + n) (a.start + a.i * (8 + n)) c.copy_colour.ensures (omega (arith, mul-le-mul_right (8 + n) c.requires.few)) (omega arith)).1
