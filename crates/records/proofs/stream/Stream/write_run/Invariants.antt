-- `Stream::write_run` meets its contract: each turn writes the next number of the run, whose bits are all there. Assumes nothing.
use Rattle.std.proofs.Common.{replicate}
use Rattle.records.proofs.Runs.{Upto}
use Rattle.records.proofs.stream.Stream.write_run.Given as goal

abbrev pub invariant-loop-k : goal.invariant-loop-k
invariant-loop-k l = Upto l.self.bytes.now l.initial.at.0 (replicate l.count l.width) l.count l.initial.out l.out l.p l.k l.at.0
