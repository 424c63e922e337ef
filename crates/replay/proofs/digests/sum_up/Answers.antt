-- `replay::digests::sum_up` meets its contract: one number more goes into both sums, and at the end none is left. Assumes nothing.
use Rattle.std.proofs.Common.{◌≡◌, length, arith}
use Rattle.replay.specs.Digest.{digest}
use Rattle.replay.proofs.Sums.{sums_more, sums_end}
use Rattle.replay.proofs.digests.sum_up.Goals as goal

pub loop-x-preserved : goal.loop-x-preserved
loop-x-preserved c =
    let l = c.loop-x in
    let xs = c.args.numbers.now in
    rw c.with-sums.ensures (sums_more l.sums xs l.x-index (digest xs) (omega arith) l.invariant)

pub returns : goal.returns
returns c =
    let l = c.loop-x in
    let e : l.x-index ≡ length c.args.numbers.now = omega arith in
    rw (e, sums_end) at l.invariant
