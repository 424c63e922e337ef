-- An outcome allows one answer and one content of the output only, and a call that answered no refusal wrote. Assumes nothing.
use Prim.Native.Nat.{ℕ, ◌-◌}
use mathlib.Core.Path.{◌≡◌, refl, sym, ap, ap₂, ◌∙◌}
use mathlib.Core.List.{List, [], ◌∷◌, ◌++◌}
use lib.ListN.{length, get_or, drop}
use native.Mathlib.Omega.{arith}
use Rattle.answers.specs.declared.Refusal.{Refusal}
use Rattle.answers.specs.declared.Refusal.TheVariants.{Layout, Components, Length, Room, Record, Thin, File}
use Rattle.std.specs.Prelude.{Ok, Err}
use Rattle.answers.specs.declared.Told.{Told}
use Rattle.answers.specs.Outcome.{number_of, needed_by, told, Answer, Outcome, refused, wrote, Tells, Done}

-- the refusal that its number, and what it needs, stand for
refusal_of : ℕ → ℕ → Refusal
refusal_of n needed = get_or (Layout ∷ Components ∷ Length ∷ Room needed ∷ Record ∷ Thin ∷ []) (n - 1) File

back : (r : Refusal) → refusal_of (number_of r) (needed_by r) ≡ r
unfolding refusal_of
back Layout = refl
back Components = refl
back Length = refl
back (Room needed) = refl
back Record = refl
back Thin = refl
back File = refl

-- no refusal has the number 0, which stands for an accepted call
pub not_zero : (r : Refusal) → number_of r ≡ 0 → ⊥
not_zero Layout e = omega arith
not_zero Components e = omega arith
not_zero Length e = omega arith
not_zero (Room needed) e = omega arith
not_zero Record e = omega arith
not_zero Thin e = omega arith
not_zero File e = omega arith

-- no two refusals share a number, and ROOM with another need tells another count
pub one_refusal : (r r' : Refusal) → number_of r ≡ number_of r' → needed_by r ≡ needed_by r' → r ≡ r'
one_refusal r r' e f = sym (back r) ∙ ap₂ refusal_of e f ∙ back r'

-- no two answers share their numbers
pub one_answer : (a a' : Answer) → told a ≡ told a' → a ≡ a'
one_answer (Ok n) (Ok m) e = ap Ok (ap (λ (t : Told). t.count) e)
one_answer (Ok n) (Err r) e = absurd (not_zero r (sym (ap (λ (t : Told). t.refused) e)))
one_answer (Err r) (Ok n) e = absurd (not_zero r (ap (λ (t : Told). t.refused) e))
one_answer (Err r) (Err r') e = ap Err (one_refusal r r' (ap (λ (t : Told). t.refused) e) (ap (λ (t : Told). t.count) e))

-- of an outcome there is one pair of numbers, one answer, and one content
pub one_told : {A : Type 0} (o : Outcome A) (entry : List A) (t t' : Told) (m m' : List A) → Tells o entry t m → Tells o entry t' m' → (t ≡ t') × (m ≡ m')
one_told o entry t t' m m' p q = (p.answered ∙ sym q.answered, p.held ∙ sym q.held)

pub one_outcome : {A : Type 0} (o : Outcome A) (entry : List A) (r r' : Answer) (m m' : List A) → Done o entry r m → Done o entry r' m'
    → (r ≡ r') × (m ≡ m')
one_outcome o entry r r' m m' p q =
    (one_answer r r' (p.answered ∙ sym q.answered), p.held ∙ sym q.held)

-- a call that answered no refusal wrote what its outcome names
pub not_refused : {A : Type 0} (o : Outcome A) {entry exit : List A} {t : Told} → Tells o entry t exit → t.refused ≡ 0
    → (k : ℕ) × (xs : List A) × (o ≡ wrote k xs) × (t.count ≡ k) × (exit ≡ xs ++ drop (length xs) entry)
not_refused (wrote k xs) d z = (k, xs, refl, ap (λ (t : Told). t.count) d.answered, d.held)
not_refused (refused r) d z = absurd (not_zero r (ap (λ (t : Told). t.refused) (sym d.answered) ∙ z))
