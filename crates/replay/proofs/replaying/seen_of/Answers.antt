-- `replay::replaying::seen_of` meets its contract: the sums are those of what the outcome leaves. Assumes nothing.
use Rattle.std.proofs.Common.{◌∙◌}
use Rattle.replay.specs.Cases.{seen_of}
use Rattle.replay.proofs.replaying.seen_of.Goals as goal

pub returns : goal.returns
unfolding seen_of
returns c =
    let d = c.answer.ensures in
    rw (c.from-told.ensures ∙ d.answered, c.sum_up.ensures, d.held)
