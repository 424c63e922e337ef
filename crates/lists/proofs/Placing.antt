-- What is placed where all is there, and only there: it is written, and no other content or index would do. Assumes nothing.
use Prim.Native.Nat.{ℕ, ◌+◌, ◌≤◌}
use mathlib.Core.Path.{◌≡◌, sym, ◌∙◌}
use mathlib.Core.Bool.{Bool, true, false}
use mathlib.Core.List.{List}
use native.Mathlib.Omega.{arith}
use lib.ListN.{length}
use Rattle.lists.specs.Writing.{Written, Placed}

module _ {A : Type 0} {ok : Bool} {entry exit : List A} {at next : ℕ} {xs : List A} where
  pub placed_written : Placed ok entry exit at xs next → ok ≡ true → at + length xs ≤ length entry → Written entry exit at xs next
  placed_written p e h = record { held = rw e at p.held; room = h; after = rw e at p.after }

  -- where the count of the elements is known
  pub placed_sized : (size : ℕ) → Placed ok entry exit at xs next → ok ≡ true → length xs ≡ size → at + size ≤ length entry
      → (next ≡ at + size) × Written entry exit at xs next
  placed_sized size p e n h =
      let w = placed_written p e (omega arith) in
      (omega (arith, w.after), w)

  -- from the answer r of a test
  pub written_placed : {r : Bool} → Written entry exit at xs next → r ≡ ok → r ≡ true → Placed ok entry exit at xs next
  written_placed w e t = record { held = rw (← e, t) w.held; after = rw (← e, t) w.after }

  -- one content and one index
  pub one_placed : {exit' : List A} {next' : ℕ} → Placed ok entry exit at xs next → Placed ok entry exit' at xs next' → (exit ≡ exit') × (next ≡ next')
  one_placed p q = (p.held ∙ sym q.held, p.after ∙ sym q.after)

pub none_placed : {A : Type 0} {ok r : Bool} (entry : List A) (at : ℕ) (xs : List A) → r ≡ ok → r ≡ false → Placed ok entry entry at xs at
none_placed entry at xs e t = record { held = rw (← e, t); after = rw (← e, t) }
