-- `bits::first_eight` meets its contract: the loop accumulates the number of the first k, by `gathers_padded` of proofs/Gathering.antt.
-- Assumes nothing.
use Rattle.std.proofs.Common.{◌++◌, replicate}
use Rattle.bits.specs.Inner.Gathering.{Gathers}
use Rattle.bits.proofs.first_eight.Given as goal

abbrev pub invariant-loop-k : goal.invariant-loop-k
invariant-loop-k l = Gathers (l.data ++ replicate 8 0) 0 l.k l.accum
