-- `Stream::write_rest` meets its contract: two runs, one right after the other. Assumes nothing.
use Rattle.std.proofs.Common.{add_assoc}
use Rattle.records.proofs.Runs.{rest_written}
use Rattle.records.proofs.stream.Stream.write_rest.Goals as goal

pub returns-clause-written : goal.returns-clause-written
returns-clause-written c =
    let a = c.args in
    let f = c.write_run-middle.ensures in
    let g = c.write_run.ensures in
    rw (← add_assoc) (rest_written a.self.mesh _ _ a.rest.coords a.rest.comps f.written (rw f.after at g.written))
