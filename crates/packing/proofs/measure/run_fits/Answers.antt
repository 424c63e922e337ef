-- `packing::measure::run_fits` meets its contract: the or of the numbers passed fits exactly when each does. Assumes nothing.
use Rattle.std.proofs.Common.{arith}
use Rattle.packing.proofs.Runs.{or_none, or_more}
use Rattle.packing.proofs.measure.run_fits.Goals as goal

pub loop-x-init : goal.loop-x-init
loop-x-init c = or_none _

pub loop-x-preserved : goal.loop-x-preserved
loop-x-preserved c =
    let l = c.loop-x in
    or_more c.args.w l.all c.args.run.now l.x-index (omega arith) l.invariant
