-- `replay::digests::Sums::with` meets its contract: the number's bits go into both sums. Assumes nothing.
use Rattle.replay.specs.Digest.{more}
use Rattle.replay.proofs.digests.Sums.with.Goals as goal

pub returns : goal.returns
unfolding more
returns c = rw c.pattern.ensures
