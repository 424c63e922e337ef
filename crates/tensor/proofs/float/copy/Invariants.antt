-- `tensor::float::copy` meets its contract: after k turns the first k numbers stand. Assumes nothing.
use Prim.Native.Nat.{ℕ}
use mathlib.Core.List.{[], ◌∷◌}
use lib.Ieee.{nan}
use lib.ListN.{get_or}
use Rattle.lists.specs.Lists.{joined}
use Rattle.lists.specs.Writing.{Written}
use Rattle.tensor.proofs.float.copy.Given as goal

abbrev pub invariant-loop-k : goal.invariant-loop-k
invariant-loop-k l = Written l.initial.out l.out 0 (joined l.k (λ (j : ℕ). get_or l.values j nan ∷ [])) l.k
