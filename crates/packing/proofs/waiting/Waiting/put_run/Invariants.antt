-- `Waiting::put_run` meets its contract: the numbers passed are put. Assumes nothing.
use Rattle.std.proofs.Common.{take}
use Rattle.packing.specs.Inner.Passes.{run_bits, Put}
use Rattle.packing.proofs.waiting.Waiting.put_run.Given as goal

abbrev pub invariant-loop-x : goal.invariant-loop-x
invariant-loop-x l = Put l.initial.waiting l.waiting l.initial.out l.out (run_bits l.w (take l.x-index l.run))
