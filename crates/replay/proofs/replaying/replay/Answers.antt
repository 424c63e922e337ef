-- `replay::replaying::replay` meets its contract: a whole case agrees where what is seen is what is stored. Assumes nothing.
use Rattle.replay.specs.Cases.{is_same, wrong_of, replayed}
use Rattle.replay.proofs.replaying.replay.Goals as goal

pub returns-in_err-case-clause-value : goal.returns-in_err-case-clause-value
unfolding replayed
returns-in_err-case-clause-value c = rw (← c.in_err-case.ensures.value) c.from_residual.ensures

pub returns-clause-value : goal.returns-clause-value
unfolding is_same wrong_of replayed
returns-clause-value c = rw (c.then_some.ensures, c.ne.ensures, ← c.in_ok-case.ensures.value, ← c.seen-seen.ensures)
