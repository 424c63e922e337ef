-- ROOM's number says how much to lend: a caller asks with any output, none as well, lends exactly so many places, and the same call writes them all.
-- Assumes nothing.
use Prim.Native.Nat.{ℕ, ◌≤◌, ◌<◌}
use mathlib.Core.Path.{◌≡◌, refl, sym, ap, subst, ◌∙◌}
use mathlib.Core.Bool.{Bool, true, false}
use mathlib.Core.List.{List, [], ◌∷◌, ◌++◌, append-nil}
use native.Mathlib.Omega.{arith}
use borrow.Author.Tests.{lt-ltb, le-ltb}
use lib.Dec.{ltb}
use lib.ListN.{length, drop}
use lib.Seq.{drop_at}
use Rattle.answers.specs.declared.Refusal.{Refusal}
use Rattle.answers.specs.declared.Refusal.TheVariants.{Room}
use Rattle.answers.specs.declared.Told.{Told}
use Rattle.answers.specs.Outcome.{number_of, Outcome, refused, wrote, refuse_if, fitted, tells, Tells}
use Rattle.answers.proofs.OneOutcome.{not_zero}

module _ {A : Type 0} where
  -- The room lent decides nothing but ROOM. The call is refused for another reason, whatever is lent; or its answer is these elements, if they fit.
  pub data ByRoom (o : ℕ → Outcome A) : Type 0 where
    never : (r : Refusal) → (number_of r ≡ 4 → ⊥) → ((room : ℕ) → o room ≡ refused r) → ByRoom o
    whole : (count : ℕ) (xs : List A) → ((room : ℕ) → o room ≡ fitted count xs room) → ByRoom o

  pub by_fitting : (count : ℕ) (xs : List A) → ByRoom (fitted count xs)
  by_fitting count xs = whole count xs (λ room. refl)

  pub by_refusing : (t : Bool) (r : Refusal) {o : ℕ → Outcome A} → (number_of r ≡ 4 → ⊥) → ByRoom o → ByRoom (λ room. refuse_if t r (o room))
  by_refusing true r h b = never r h (λ room. refl)
  by_refusing false r h b = b

  -- the answer needs so many places: it is written where there are as many, and else the number is told
  pub record Needs (o : ℕ → Outcome A) (needed : ℕ) : Type 0 where
    pub count : ℕ
    pub elements : List A
    pub size : length elements ≡ needed
    pub enough : (room : ℕ) → needed ≤ room → o room ≡ wrote count elements
    pub short : (room : ℕ) → room < needed → o room ≡ refused (Room needed)

  fitted_needs : {o : ℕ → Outcome A} (count : ℕ) (xs : List A) → ((room : ℕ) → o room ≡ fitted count xs room) → Needs o (length xs)
  unfolding fitted
  fitted_needs count xs e =
      record {
        count = count;
        elements = xs;
        size = refl;
        enough = λ room h. e room ∙ (simp (le-ltb _ _ h));
        short = λ room h. e room ∙ (simp (lt-ltb _ _ h));
      }

  fitted_tells : (count : ℕ) (xs : List A) (room : ℕ) → (tells (fitted count xs room)).refused ≡ 4 → (tells (fitted count xs room)).count ≡ length xs
  unfolding fitted
  fitted_tells count xs room = go (ltb room (length xs))
    where
      go : (t : Bool) → (tells (refuse_if t (Room (length xs)) (wrote count xs))).refused ≡ 4
          → (tells (refuse_if t (Room (length xs)) (wrote count xs))).count ≡ length xs
      go true e = refl
      go false e = absurd (omega arith)

  fitted_either : (count : ℕ) (xs : List A) (room : ℕ) → ((tells (fitted count xs room)).refused ≡ 0 → ⊥) → ((tells (fitted count xs room)).refused ≡ 4 → ⊥) → ⊥
  unfolding fitted
  fitted_either count xs room = go (ltb room (length xs))
    where
      go : (t : Bool) → ((tells (refuse_if t (Room (length xs)) (wrote count xs))).refused ≡ 0 → ⊥)
          → ((tells (refuse_if t (Room (length xs)) (wrote count xs))).refused ≡ 4 → ⊥) → ⊥
      go true y z = z refl
      go false y z = y refl

  -- elements that take all places of an output leave nothing of it
  none_after : (xs entry : List A) → length xs ≡ length entry → xs ++ drop (length xs) entry ≡ xs
  none_after xs entry e =
      let none : drop (length xs) entry ≡ [] = ap (drop (length xs)) (sym (append-nil entry)) ∙ drop_at entry [] (length xs) (sym e) in
      ap (λ (r : List A). xs ++ r) none ∙ append-nil xs

  module _ {o : ℕ → Outcome A} (b : ByRoom o) where
    -- a call was refused for want of room: the count that it told is what the answer needs
    pub asked : {entry exit : List A} {t : Told} → Tells (o (length entry)) entry t exit → t.refused ≡ 4 → Needs o t.count
    asked {entry} {exit} {t} d z = go b
      where
        go : ByRoom o → Needs o t.count
        go (never r h e) = absurd (h (sym (ap (λ (k : Told). k.refused) (d.answered ∙ ap tells (e (length entry)))) ∙ z))
        go (whole count xs e) =
            let u : t ≡ tells (fitted count xs (length entry)) = d.answered ∙ ap tells (e (length entry)) in
            let told : t.count ≡ length xs =
            ap (λ (k : Told). k.count) u ∙ fitted_tells count xs (length entry) (sym (ap (λ (k : Told). k.refused) u) ∙ z) in
            subst (Needs o) (sym told) (fitted_needs count xs e)

    -- lent exactly that, the next call isn't refused, and writes exactly so many places: all that were lent
    pub second_call : {entry exit entry' exit' : List A} {t t' : Told} → Tells (o (length entry)) entry t exit → t.refused ≡ 4
        → length entry' ≡ t.count → Tells (o (length entry')) entry' t' exit'
        → (k : ℕ) × (xs : List A) × (o (length entry') ≡ wrote k xs) × (t' ≡ record { refused = 0; count = k }) × (exit' ≡ xs) × (length xs ≡ t.count)
    second_call {entry} {exit} {entry'} {exit'} {t} {t'} d z l d' =
        let n = asked d z in
        let w : o (length entry') ≡ wrote n.count n.elements = n.enough (length entry') (omega (arith, l)) in
        let e : Tells (wrote n.count n.elements) entry' t' exit' = subst (λ (x : Outcome A). Tells x entry' t' exit') w d' in
        (n.count, n.elements, w, e.answered, e.held ∙ none_after n.elements entry' (n.size ∙ sym l), n.size)

    -- ---- the other two answers to a call with no output

    -- it is accepted exactly where the answer takes no place
    pub nothing_needed : {exit : List A} {t : Told} → Tells (o 0) [] t exit → t.refused ≡ 0 → (room : ℕ) → o room ≡ wrote t.count []
    unfolding fitted
    nothing_needed {exit} {t} d z room = go b
      where
        go : ByRoom o → o room ≡ wrote t.count []
        go (never r h e) = absurd (not_zero r (sym (ap (λ (k : Told). k.refused) (d.answered ∙ ap tells (e 0))) ∙ z))
        go (whole count [] e) =
            let told : t.count ≡ count = ap (λ (k : Told). k.count) (d.answered ∙ ap tells (e 0)) in
            let fits : fitted {A = A} count [] room ≡ wrote count [] = simp (le-ltb room 0 (omega arith)) in
            e room ∙ fits ∙ ap (λ (k : ℕ). wrote k []) (sym told)
        go (whole count (x ∷ xs) e) =
            let more : (tells (fitted count (x ∷ xs) 0)).refused ≡ 4 = simp (lt-ltb 0 (length (x ∷ xs)) (omega arith)) in
            absurd (let f : 4 ≡ 0 = sym more ∙ sym (ap (λ (k : Told). k.refused) (d.answered ∙ ap tells (e 0))) ∙ z in omega arith)

    -- any other refusal is given whatever is lent
    pub refused_anyway : {entry exit : List A} {t : Told} → Tells (o (length entry)) entry t exit → (t.refused ≡ 0 → ⊥) → (t.refused ≡ 4 → ⊥)
        → (room : ℕ) → tells (o room) ≡ t
    refused_anyway {entry} {exit} {t} d y z room = go b
      where
        go : ByRoom o → tells (o room) ≡ t
        go (never r h e) = ap tells (e room) ∙ sym (d.answered ∙ ap tells (e (length entry)))
        go (whole count xs e) =
            let u : t.refused ≡ (tells (fitted count xs (length entry))).refused = ap (λ (k : Told). k.refused) (d.answered ∙ ap tells (e (length entry))) in
            absurd (fitted_either count xs (length entry) (λ f. y (u ∙ f)) (λ f. z (u ∙ f)))
