-- `tensor::raw::count_patches` meets its contract. Assumes nothing.
use Prim.Native.Nat.{◌-◌, ◌≤◌}
use mathlib.Core.Path.{◌≡◌}
use mathlib.Core.List.{List}
use mathlib.Core.Option.{Option}
use lib.ListN.{length, drop}
use Rattle.tensor.specs.Inner.Standing.{Raw}
use Rattle.tensor.proofs.Walk.{Walk}
use Rattle.tensor.proofs.raw.count_patches.Given as goal

abbrev pub invariant-loop-i : goal.invariant-loop-i
invariant-loop-i l =
    (l.i ≤ length l.numbers)
    × (l.count ≤ l.i)
    × ((b : Option Raw) × ((done : List Raw) × (Walk l.n l.numbers b (drop l.i l.numbers) done × (length done ≡ l.count))))

abbrev pub decreases-loop-i : goal.decreases-loop-i
decreases-loop-i l = length l.numbers - l.i
