-- `packing::write::fill` meets its contract: the records passed are put, and each next one fits and has room.
-- Assumes nothing.
use Prim.Native.Nat.{ℕ, ◌-◌, ◌≤◌}
use mathlib.Core.List.{List}
use lib.ListN.{length}
use Rattle.packing.specs.Inner.Passes.{Put}
use Rattle.packing.proofs.Passing.{Reached}
use Rattle.packing.proofs.write.fill.Given as goal

abbrev pub invariant-loop-i : goal.invariant-loop-i
invariant-loop-i l = record {
  within : l.i ≤ length l.numbers;
  bits : List ℕ;
  reached : Reached l.mesh l.numbers l.i bits;
  are_put : Put l.initial.waiting l.waiting l.initial.out l.out bits;
}

abbrev pub decreases-loop-i : goal.decreases-loop-i
decreases-loop-i l = length l.numbers - l.i
