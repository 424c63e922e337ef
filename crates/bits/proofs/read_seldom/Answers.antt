-- `bits::read_seldom` meets its contract: each `return` is one case of the answer.
-- Assumes nothing.
use Prim.Native.Nat.{◌+◌, ◌*◌, ◌%◌}
use mathlib.Core.Path.{◌≡◌}
use lib.ListN.{length}
use Prim.Native.Nat.{◌<◌, ◌/◌}
use native.Mathlib.Omega.{arith}
use Rattle.bits.proofs.Streams.{field_from}
use Rattle.bits.proofs.Answers.{answer_none, answer_wide, answer_short, answer_unplaced, answer_number}
use Rattle.bits.proofs.read_seldom.Goals as goal

pub returns-then-n-eq0 : goal.returns-then-n-eq0
returns-then-n-eq0 c =
    let a = c.args in
    answer_none a.data.now a.at.0 a.n c.if-n-eq0.true

pub returns-then-n-gt32 : goal.returns-then-n-gt32
returns-then-n-gt32 c =
    let a = c.args in
    answer_wide a.data.now a.at.0 a.n (omega arith)

pub returns-in_err-end : goal.returns-in_err-end
returns-in_err-end c =
    let a = c.args in
    rw c.from_residual.ensures (answer_unplaced a.data.now a.at.0 a.n (omega arith) (omega (arith, c.in_err-end.ensures)))

pub returns-in_err-rest : goal.returns-in_err-rest
returns-in_err-rest c =
    let a = c.args in
    let past : length a.data.now < a.at.0 / 8 = grind (arith, c.byte_of-byte.ensures) in
    rw c.from_residual-in_err-rest.ensures (answer_short a.data.now a.at.0 a.n (omega arith) (omega arith))

pub returns-then-rest-div_ceil : goal.returns-then-rest-div_ceil
returns-then-rest-div_ceil c =
    let a = c.args in
    let size = c.in_ok-rest.ensures.lookup.0.3 in
    answer_short a.data.now a.at.0 a.n (omega arith) (omega (arith, c.byte_of-byte.ensures, c.div_ceil.ensures))

pub returns : goal.returns
returns c =
    let a = c.args in
    let i = c.byte_of-byte.result.0 in
    let size = c.in_ok-rest.ensures.lookup.0.3 in
    let e : 8 * i + a.at.0 % 8 ≡ a.at.0 = omega arith in
    let end : c.in_ok-end.end ≡ a.at.0 + a.n = omega (arith, c.in_ok-end.ensures) in
    rw (end, c.field.ensures, c.in_ok-rest.ensures.lookup.0.2, field_from a.data.now i (a.at.0 % 8) a.n, e)
    (answer_number a.data.now a.at.0 a.n (omega arith) (omega arith) (omega (arith, c.div_ceil.ensures)) (omega arith))
