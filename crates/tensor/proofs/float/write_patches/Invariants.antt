-- `tensor::float::write_patches` meets its contract. Assumes nothing.
use Prim.Native.Nat.{◌+◌}
use mathlib.Core.Path.{◌≡◌}
use lib.ListN.{length}
use Rattle.std.specs.Slice.Iter.{chunks_exact_rest, chunks_exact_size}
use Rattle.tensor.specs.Outcomes.{coons_size}
use Rattle.tensor.proofs.FloatRows.{Pass}
use Rattle.tensor.proofs.float.write_patches.Given as goal

abbrev pub invariant-loop-patch : goal.invariant-loop-patch
invariant-loop-patch l =
    record {
      can_next : (goal.iterator-loop-patch).can_next l.patch-iterator;
      is_finite : (goal.iterator-loop-patch).is_finite l.patch-iterator;
      row_is : l.row ≡ coons_size l.n + 8;
      chunk_is : chunks_exact_size l.patch-iterator ≡ coons_size l.n;
      long : length l.out ≡ length l.initial.out;
      pass : Pass l.n l.values l.initial.out l.out l.at (chunks_exact_rest l.patch-iterator);
    }
