-- `replay::digests::sum_up` meets its contract: the sums so far, with the numbers that are left, are those of all. Assumes nothing.
use Rattle.std.proofs.Common.{◌≡◌, drop}
use Rattle.replay.specs.Digest.{sums_from, digest}
use Rattle.replay.proofs.digests.sum_up.Given as goal

abbrev pub invariant-loop-x : goal.invariant-loop-x
invariant-loop-x l = sums_from l.sums (drop l.x-index l.numbers) ≡ digest l.numbers
