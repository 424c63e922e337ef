-- `Stream::write_patches` meets its contract: while numbers are left the next patch is whole, and its flag, read back, has its shape.
-- Assumes nothing.
use Rattle.std.proofs.Common.{◌-◌}
use Rattle.records.proofs.Filling.{Filling}
use Rattle.records.proofs.stream.Stream.write_patches.Given as goal

abbrev pub invariant-loop-p : goal.invariant-loop-p
invariant-loop-p l = Filling l.self.mesh l.self.bytes.now l.initial.out l.out l.count l.p l.at.0 l.started

abbrev pub decreases-loop-p : goal.decreases-loop-p
decreases-loop-p l = l.count - l.p
