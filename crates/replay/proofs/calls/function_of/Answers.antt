-- `replay::calls::function_of` meets its contract: a type's number picks its function. Assumes nothing.
use Rattle.std.proofs.Common.{◌∙◌}
use Rattle.std.specs.Prelude.{Some, None}
use Rattle.replay.proofs.Numbered.{reader_numbered, builder_numbered}
use Rattle.replay.proofs.calls.function_of.Goals as goal

pub returns-in_err-ok : goal.returns-in_err-ok
returns-in_err-ok c =
    c.from_residual.ensures ∙ reader_numbered _ None c.if-number-lt10.true (rw c.try_from.ensures at c.in_err-ok.ensures.value)

pub returns-in_err-ok-2 : goal.returns-in_err-ok-2
returns-in_err-ok-2 c =
    c.from_residual-in_err-ok-2.ensures
    ∙ builder_numbered _ None c.if-number-lt10.false (rw c.try_from-else-number-lt10.ensures at c.in_err-ok-2.ensures.value)

pub returns-in_ok-ok : goal.returns-in_ok-ok
returns-in_ok-ok c =
    reader_numbered _ (Some c.in_ok-ok.field-0) c.if-number-lt10.true (rw c.try_from.ensures at c.in_ok-ok.ensures.value)

pub returns-in_ok-ok-2 : goal.returns-in_ok-ok-2
returns-in_ok-ok-2 c =
    builder_numbered _ (Some c.in_ok-ok-2.field-0) c.if-number-lt10.false (rw c.try_from-else-number-lt10.ensures at c.in_ok-ok-2.ensures.value)
