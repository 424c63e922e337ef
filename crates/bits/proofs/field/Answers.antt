-- `bits::field` meets its contract: `padded_window` of proofs/Gathering.antt.
-- Assumes nothing.
use mathlib.Core.Path.{sym, ◌∙◌}
use native.Mathlib.Omega.{arith}
use Rattle.bits.proofs.Gathering.{padded_window}
use Rattle.bits.proofs.field.Goals as goal

pub returns : goal.returns
returns c =
    let a = c.args in
    c.window.ensures ∙ sym (padded_window a.data.now a.offset a.n c.first_eight.ensures (omega arith) (omega arith))
