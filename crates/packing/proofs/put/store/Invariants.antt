-- `packing::put::store` meets its contract: after k turns the high k of the bytes are stored. Assumes nothing.
use Rattle.std.proofs.Common.{◌-◌, ◌*◌, ◌/◌, ◌^◌}
use Rattle.packing.specs.Inner.Passes.{Stored}
use Rattle.packing.proofs.put.store.Given as goal

abbrev pub invariant-loop-k : goal.invariant-loop-k
invariant-loop-k l = Stored l.initial.out l.out l.at l.k (l.number / 2 ^ (8 * (l.count - l.k)))
