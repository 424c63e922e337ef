-- `Stream::write_vertices` meets its contract: while numbers are left the next vertex is whole, and a turn writes it. Assumes nothing.
use Rattle.std.proofs.Common.{◌-◌, Bool}
use Rattle.records.proofs.Filling.{Filling}
use Rattle.records.proofs.stream.Stream.write_vertices.Given as goal

abbrev pub invariant-loop-p : goal.invariant-loop-p
invariant-loop-p l = (started : Bool) × Filling l.self.mesh l.self.bytes.now l.initial.out l.out l.count l.p l.at.0 started

abbrev pub decreases-loop-p : goal.decreases-loop-p
decreases-loop-p l = l.count - l.p
