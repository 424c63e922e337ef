-- `packing::measure::run_fits` meets its contract: the or of the numbers passed fits exactly when each does. Assumes nothing.
use Rattle.std.proofs.Common.{◌≡◌, ◌^◌, take}
use lib.Dec.{ltb}
use Rattle.packing.specs.Inner.Passes.{fits}
use Rattle.packing.proofs.measure.run_fits.Given as goal

abbrev pub invariant-loop-x : goal.invariant-loop-x
invariant-loop-x l = ltb l.all (2 ^ l.w) ≡ fits l.w (take l.x-index l.run)
