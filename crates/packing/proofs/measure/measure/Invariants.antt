-- `packing::measure::measure` meets its contract: the records passed are whole, and `total` is how many bits they take.
-- Assumes nothing.
use Prim.Native.Nat.{ℕ, ◌-◌, ◌*◌, ◌≤◌}
use mathlib.Core.Path.{◌≡◌}
use mathlib.Core.List.{List}
use lib.ListN.{length}
use Rattle.packing.proofs.Passing.{Reached}
use Rattle.packing.proofs.measure.measure.Given as goal

abbrev pub invariant-loop-i : goal.invariant-loop-i
invariant-loop-i l = record {
  within : l.i ≤ length l.numbers;
  few : l.total ≤ 32 * l.i;
  bits : List ℕ;
  reached : Reached l.mesh l.numbers l.i bits;
  counted : length bits ≡ l.total;
}

abbrev pub decreases-loop-i : goal.decreases-loop-i
decreases-loop-i l = length l.numbers - l.i
