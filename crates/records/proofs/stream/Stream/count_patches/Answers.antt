-- `Stream::count_patches` meets its contract: what is counted, with what the records from the place on have, is all. Assumes nothing.
use Rattle.records.proofs.Walks.{count_start, count_end, count_step}
use Rattle.records.proofs.stream.Stream.count_patches.Goals as goal

pub loop-record-init : goal.loop-record-init
loop-record-init c = count_start _ _

pub returns : goal.returns
returns c = count_end c.loop-record.invariant c.in_default.ensures

pub loop-record-preserved : goal.loop-record-preserved
loop-record-preserved c =
    let r = c.in-Some.record in
    count_step c.loop-record.invariant r.rest.coords_few r.rest.comps_few c.in-Some.ensures
