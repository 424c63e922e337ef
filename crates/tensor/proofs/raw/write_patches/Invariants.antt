-- `tensor::raw::write_patches` meets its contract. Assumes nothing.
use Prim.Native.Nat.{◌+◌, ◌-◌, ◌*◌}
use mathlib.Core.Path.{◌≡◌}
use lib.ListN.{length, drop}
use Rattle.tensor.proofs.Passing.{Pass}
use Rattle.tensor.proofs.raw.write_patches.Given as goal

abbrev pub invariant-loop-i : goal.invariant-loop-i
invariant-loop-i l =
    record {
      size_is : l.size ≡ 32 + 4 * l.n;
      long : length l.out ≡ length l.initial.out;
      pass : Pass l.n l.numbers l.initial.out l.out l.before l.at (drop l.i l.numbers);
    }

abbrev pub decreases-loop-i : goal.decreases-loop-i
decreases-loop-i l = length l.numbers - l.i
