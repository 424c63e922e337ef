-- `Stream::write_run` meets its contract: each turn writes the next number of the run, whose bits are all there. Assumes nothing.
use Rattle.std.proofs.Common.{sym}
use lib.ListN.{get_or-replicate}
use Rattle.records.proofs.Readings.{sum-replicate}
use Rattle.records.proofs.Runs.{upto_start, upto_end, upto_goes_on, upto_step, run_there}
use Rattle.records.proofs.stream.Stream.write_run.Goals as goal

pub loop-k-init : goal.loop-k-init
loop-k-init c = upto_start _ _ (run_there c.requires.there c.args.self.short) c.requires.room

pub unreachable-requires : goal.unreachable-requires
unreachable-requires c = upto_goes_on c.loop-k.invariant c.loop-k-test.true (sym (get_or-replicate _ _ _ 0 c.loop-k-test.true)) c.in_default.ensures

pub loop-k-preserved : goal.loop-k-preserved
loop-k-preserved c = upto_step c.loop-k.invariant c.loop-k-test.true (sym (get_or-replicate _ _ _ 0 c.loop-k-test.true)) c.in-Some.value c.in-Some.next c.in-Some.ensures

pub returns-clause-after : goal.returns-clause-after
returns-clause-after c = let e = upto_end c.loop-k.invariant c.loop-k-test.false in rw sum-replicate at e.0
