-- `Stream::write_vertex` meets its contract: each turn writes the vertex's next number, whose bits are all there. Assumes nothing.
use Rattle.std.proofs.Common.{arith}
use Rattle.records.specs.Format.{sum}
use Rattle.records.proofs.Finding.{sum-after}
use Rattle.records.proofs.Runs.{upto_start, upto_end, upto_goes_on, upto_step, record_there}
use Rattle.records.proofs.stream.Stream.write_vertex.Goals as goal

pub loop-k-init : goal.loop-k-init
loop-k-init c =
    let a = c.args in
    upto_start _ _ (record_there a.self.mesh _ a.coords _ a.self.short c.requires.there) c.requires.room

pub unreachable-requires : goal.unreachable-requires
unreachable-requires c = upto_goes_on c.loop-k.invariant c.loop-k-test.true c.width_at-width.ensures c.in_default.ensures

pub loop-k-preserved : goal.loop-k-preserved
loop-k-preserved c = upto_step c.loop-k.invariant c.loop-k-test.true c.width_at-width.ensures c.in-Some.value c.in-Some.next c.in-Some.ensures

pub returns-clause-after : goal.returns-clause-after
unfolding sum
returns-clause-after c =
    let a = c.args in
    let e = upto_end c.loop-k.invariant c.loop-k-test.false in
    (omega (arith, e.0, sum-after a.self.mesh a.coords a.self.mesh.n))
