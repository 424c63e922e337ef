-- A loop that writes a piece each turn: how it begins, goes on and ends. Assumes nothing.
use Prim.Native.Nat.{ℕ, ◌+◌, ◌≤◌}
use mathlib.Core.Path.{◌≡◌}
use mathlib.Core.List.{List}
use lib.ListN.{length}
use Rattle.lists.specs.Lists.{joined}
use Rattle.lists.specs.Writing.{Written}
use Rattle.lists.proofs.Writing.{written_start, written_more}

module _ {A : Type 0} {l : List A} {at : ℕ} (g : ℕ → List A) where
  pub loop_begins : {p : ℕ} → at ≤ length l → p ≡ at → Written l l at (joined 0 g) p
  loop_begins h e = rw e (written_start l at g h)

  pub loop_goes_on : (i : ℕ) {o o' : List A} {p q r : ℕ} → Written l o at (joined i g) p → Written o o' p (g i) q → r ≡ q → Written l o' at (joined (i + 1) g) r
  loop_goes_on i w v e = rw e (written_more i g w v)

  pub loop_ends : {i k : ℕ} {o : List A} {p q : ℕ} → Written l o at (joined i g) p → k ≡ i → q ≡ p → Written l o at (joined k g) q
  loop_ends w e f = rw (e, f) w
