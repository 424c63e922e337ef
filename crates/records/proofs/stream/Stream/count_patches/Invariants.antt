-- `Stream::count_patches` meets its contract: what is counted, with what the records from the place on have, is all. Assumes nothing.
use Rattle.std.proofs.Common.{◌*◌, ◌-◌, length}
use Rattle.records.proofs.Walks.{Counting}
use Rattle.records.proofs.stream.Stream.count_patches.Given as goal

abbrev pub invariant-loop-record : goal.invariant-loop-record
invariant-loop-record l = Counting l.self.mesh l.self.bytes.now l.count l.at.0 l.started

abbrev pub decreases-loop-record : goal.decreases-loop-record
decreases-loop-record l = 8 * length l.self.bytes.now - l.at.0
