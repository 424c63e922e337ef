-- `bits::read` meets its contract: eight bytes at the place hold all bits, and a window of them is the number.
-- Assumes nothing.
use Prim.Native.Nat.{◌+◌, ◌*◌, ◌%◌}
use mathlib.Core.Path.{◌≡◌, sym, ◌∙◌}
use native.Mathlib.Omega.{arith}
use Rattle.bits.proofs.Widths.{width_readable}
use Rattle.bits.proofs.Gathering.{gathers_window}
use Rattle.bits.proofs.Answers.{answer_number}
use Rattle.bits.proofs.read.Goals as goal

pub returns-then-counted : goal.returns-then-counted
returns-then-counted c =
    let a = c.args in
    let w = width_readable a.n (sym c.width_is_readable.ensures ∙ c.if-width_is_readable.true) in
    let e : 8 * c.byte_of-place.result.0 + a.at.0 % 8 ≡ a.at.0 = omega arith in
    rw (c.window-number.ensures, ← gathers_window (a.at.0 % 8) a.n c.eight_bytes.ensures (omega arith) (omega arith), e)
    (answer_number a.data.now a.at.0 a.n (omega arith) (omega arith) (omega arith) (omega arith))
