-- How a call that writes ends: refused, without room, or with its output written; and what it has passed by then. Assumes nothing.
use Prim.Native.Nat.{ℕ, ◌*◌, ◌<◌}
use mathlib.Core.Path.{◌≡◌, refl, sym, ap, ◌∙◌}
use mathlib.Core.Bool.{Bool, true, false}
use mathlib.Core.List.{List}
use native.Mathlib.Nat.{zero-add}
use native.Mathlib.Omega.{arith}
use borrow.Author.Tests.{lt-ltb, le-ltb}
use lib.ListN.{length}
use Rattle.answers.specs.declared.Refusal.{Refusal}
use Rattle.answers.specs.declared.Refusal.TheVariants.{Room}
use Rattle.std.specs.Prelude.{Ok, Err}
use Rattle.lists.specs.Writing.{Written}
use Rattle.answers.specs.declared.Told.{Told}
use Rattle.answers.specs.Outcome.{Outcome, Tells, Done, refused, wrote, refuse_if, fitted}
use Rattle.lists.proofs.Writing.{written_front}

module _ {A : Type 0} where
  -- a call that wrote has passed each test
  pub passed : (t : Bool) (r : Refusal) (o : Outcome A) {count : ℕ} {xs : List A} → refuse_if t r o ≡ wrote count xs
      → (t ≡ false) × (o ≡ wrote count xs)
  passed true r o {count} {xs} e = absurd (let z : ◌≡◌ {A = ℕ} 0 1 = cc in omega arith)
  passed false r o e = (refl, e)

  pub was_refused : {r : Refusal} {entry : List A} → Done (refused r) entry (Err r) entry
  was_refused = record { answered = refl; held = refl }

  pub no_room : (count : ℕ) (xs : List A) {size : ℕ} {entry : List A} → length xs ≡ size → length entry < size
      → Done (fitted count xs (length entry)) entry (Err (Room size)) entry
  unfolding fitted
  no_room count xs e h = rw e (simp (lt-ltb _ _ h) was_refused)

  -- as many things as were counted, each of a size
  pub no_room_for : (count : ℕ) (xs : List A) (size : ℕ) {c : ℕ} {entry : List A} → length xs ≡ count * size → c ≡ count → length entry < c * size
      → Done (fitted count xs (length entry)) entry (Err (Room (c * size))) entry
  no_room_for count xs size e f = no_room count xs (e ∙ ap (λ (k : ℕ). k * size) (sym f))

  pub all_written : {count c : ℕ} {xs entry exit : List A} {p : ℕ} → c ≡ count → Written entry exit 0 xs p
      → Done (fitted count xs (length entry)) entry (Ok c) exit
  unfolding fitted
  all_written e w = simp (le-ltb _ _ (rw zero-add at w.room), e) (record { answered = refl; held = written_front w })

  -- numbers that are an answer's tell what it tells
  pub tells_same : {o : Outcome A} {entry exit : List A} {t u : Told} → t ≡ u → Tells o entry u exit → Tells o entry t exit
  tells_same e d = record { answered = e ∙ d.answered; held = d.held }
