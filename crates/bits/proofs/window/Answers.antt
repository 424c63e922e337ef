-- `bits::window` meets its contract: `shifted` of proofs/Gathering.antt.
-- Assumes nothing.
use native.Mathlib.Omega.{arith}
use Rattle.bits.proofs.Gathering.{shifted, shifted_fits}
use Rattle.bits.proofs.window.Goals as goal

pub overflow_cast-result : goal.overflow_cast-result
overflow_cast-result c =
    let a = c.args in
    record { fits = shifted_fits a.accum a.offset a.n (omega arith) (omega arith) }

pub returns : goal.returns
returns c =
    let a = c.args in
    shifted a.accum a.offset a.n (omega arith)
