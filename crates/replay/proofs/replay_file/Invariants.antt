-- `replay::replay_file` meets its contract: each case moves on and is counted, and there are no more cases than bytes. Assumes nothing.
use Rattle.std.proofs.Common.{length}
use Rattle.replay.proofs.Tallying.{Counting}
use Rattle.replay.proofs.replay_file.Given as goal

abbrev pub invariant-loop-rest : goal.invariant-loop-rest
invariant-loop-rest g l = Counting l.file l.rest (record { agree = l.agree; disagree = l.disagree })

abbrev pub decreases-loop-rest : goal.decreases-loop-rest
decreases-loop-rest g l = length l.rest
