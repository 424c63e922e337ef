-- Type 4: meanings of a flag that give the same triangles, and exactly where the whole number and its two low bits part. Assumes nothing.
use mathlib.Core.Path.{◌≡◌, refl, sym, ap, ◌∙◌}
use mathlib.Core.Logic.Iff
use mathlib.Core.Logic.{◌↔◌}
use mathlib.Core.Bool.{Bool, true, false, ◌&&◌, cond, false≢true, and-eq-true_iff}
use mathlib.Core.List.{List, [], ◌∷◌, ◌++◌, map, map-id, append_cancel_left}
use Prim.Native.Nat.{ℕ, zero, suc, ◌+◌, ◌%◌, ◌≤◌, ◌<◌}
use native.Mathlib.Nat.{mod-eq_of_lt}
use native.Mathlib.Omega.{arith}
use borrow.Author.Tests.{leb-true, leb-false, le-leb}
use lib.Dec.{leb}
use lib.ListN.{length}
use Rattle.lists.specs.Lists.{All}
use Rattle.lists.proofs.Members.{all_append}
use Rattle.records.specs.Format.{Meaning, whole_number, two_low_bits}
use Rattle.rules.specs.Triangles.{Tri, tri, Stand, start, one, two, after, triangle_before, Step, step, triangles_from, triangles}
use Rattle.rules.proofs.Properties.{looks, looked_at, parts_here, parts}
use Rattle.rules.proofs.Lists.{all_map}

-- the triangles, and what a vertex comes to, by the rule that both readings have
abbrev from : Stand → ℕ → List ℕ → List Tri
from s i fs = triangles_from triangle_before s i fs

abbrev go : Stand → ℕ → ℕ → Step
go s f i = step triangle_before s f i

-- where a vertex comes to the same by both flags, the rest decides
same_step : (s : Stand) (f g i : ℕ) (fs gs : List ℕ) → go s f i ≡ go s g i
    → (from s i (f ∷ fs) ≡ from s i (g ∷ gs)) ↔ (from (go s f i).next (i + 1) fs ≡ from (go s f i).next (i + 1) gs)
unfolding triangles_from
same_step s f g i fs gs e =
    let q = ap (λ (u : Step). u.gives ++ from u.next (i + 1) gs) e in
    ((λ p. append_cancel_left (go s f i).gives _ _ (p ∙ sym q)), (λ p. ap (λ (l : List Tri). (go s f i).gives ++ l) p ∙ q))

-- it does where the flags are the same, or not looked at
same_flag : (s : Stand) (f g i : ℕ) → (looks s ≡ true → f ≡ g) → go s f i ≡ go s g i
same_flag start f g i h = ap (λ (f : ℕ). go start f i) (h refl)
same_flag (one a) f g i h = refl
same_flag (two a b) f g i h = refl
same_flag (after a b c) f g i h = ap (λ (f : ℕ). go (after a b c) f i) (h refl)

-- ---- meanings that agree where a flag is looked at

all_looked : (P : ℕ → Type 0) (b : Bool) (x : ℕ) (l : List ℕ) → All P (cond b (x ∷ []) [] ++ l) → (b ≡ true → P x) × All P l
all_looked P true x l h = ((λ e. h.0), h.1)
all_looked P false x l h = ((λ e. absurd (false≢true e)), h)

module _ (flag flag' : Meaning) where
  same_from : (xs : List ℕ) (s : Stand) (i : ℕ) → All (λ (x : ℕ). flag x ≡ flag' x) (looked_at flag s i xs)
      → from s i (map flag xs) ≡ from s i (map flag' xs)
  unfolding looked_at
  same_from [] s i h = refl
  same_from (x ∷ xs) s i h =
      let q = all_looked (λ (x : ℕ). flag x ≡ flag' x) (looks s) x (looked_at flag (go s (flag x) i).next (i + 1) xs) h in
      (same_step s (flag x) (flag' x) i (map flag xs) (map flag' xs) (same_flag s (flag x) (flag' x) i q.0)).1
      (same_from xs (go s (flag x) i).next (i + 1) q.1)

  -- two meanings that agree on the numbers read where a flag is looked at give the same triangles
  pub same_triangles : (xs : List ℕ) → All (λ (x : ℕ). flag x ≡ flag' x) (looked_at flag start 0 xs)
      → triangles triangle_before (map flag xs) ≡ triangles triangle_before (map flag' xs)
  unfolding triangles
  same_triangles xs h = same_from xs start 0 h

-- numbers below 4 where a flag is looked at: the whole number and its two low bits give the same triangles
pub below_4_same : (xs : List ℕ) → All (λ (x : ℕ). x < 4) (looked_at whole_number start 0 xs)
    → triangles triangle_before xs ≡ triangles triangle_before (map two_low_bits xs)
below_4_same xs h =
    ap (triangles triangle_before) (sym (map-id xs)) ∙ same_triangles whole_number two_low_bits xs
    (all_map (λ (x : ℕ). x < 4) (λ (x : ℕ). whole_number x ≡ two_low_bits x) (looked_at whole_number start 0 xs) (λ x l. sym (mod-eq_of_lt l)) h)

-- ---- a vertex that is dropped is in no triangle

abbrev Lacks : ℕ → Tri → Type 0
Lacks i t = (t.a ≡ i → ⊥) × (t.b ≡ i → ⊥) × (t.c ≡ i → ⊥)

-- the stand does not name vertex i
Without : ℕ → Stand → Type 0
Without i start = Unit {0}
Without i (one a) = a ≡ i → ⊥
Without i (two a b) = (a ≡ i → ⊥) × (b ≡ i → ⊥)
Without i (after a b c) = (a ≡ i → ⊥) × (b ≡ i → ⊥) × (c ≡ i → ⊥)

step_without : (s : Stand) (f i j : ℕ) → Without i s → (i ≡ j → ⊥)
    → Without i (go s f j).next × All (Lacks i) (go s f j).gives
unfolding Without
step_without start zero i j w h = omega arith
step_without start (suc f) i j w h = omega arith
step_without (one a) f i j w h = omega arith
step_without (two a b) f i j w h = omega arith
step_without (after a b c) zero i j w h = omega arith
step_without (after a b c) (suc zero) i j w h = omega arith
step_without (after a b c) (suc (suc zero)) i j w h = omega arith
step_without (after a b c) (suc (suc (suc f))) i j w h = omega arith

avoids : (fs : List ℕ) (s : Stand) (i j : ℕ) → Without i s → i < j → All (Lacks i) (from s j fs)
unfolding triangles_from
avoids [] s i j w h = tt
avoids (f ∷ fs) s i j w h =
    let q = step_without s f i j w (omega arith) in
    all_append (Lacks i) (go s f j).gives (from (go s f j).next (j + 1) fs) q.1
    (avoids fs (go s f j).next i (j + 1) q.0 (omega arith))

-- ---- where the whole number and its two low bits part

abbrev Exactly : Stand → ℕ → List ℕ → Type 0
Exactly s i xs = (from s i xs ≡ from s i (map two_low_bits xs)) ↔ (parts s i xs ≡ false)

-- at a vertex i that one reading drops: the other begins with a triangle that has it
differs : (fs : List ℕ) (s : Stand) (i : ℕ) (t : Tri) (ts : List Tri) → Without i s → (Lacks i t → ⊥)
    → (from s (i + 1) fs ≡ t ∷ ts) ↔ (true ≡ false)
differs fs s i t ts w h =
    ((λ e. absurd (at_head (from s (i + 1) fs) (avoids fs s i (i + 1) w (omega arith)) e)), (λ e. absurd (false≢true (sym e))))
  where
    at_head : (us : List Tri) → All (Lacks i) us → us ≡ t ∷ ts → ⊥
    at_head [] l e = let z : ◌≡◌ {A = ℕ} 0 1 = cc in omega arith
    at_head (u ∷ us) l e = let p : u ≡ t = cc in h (rw p at l.0)

alike : {A : Type 0} → A → A ↔ (false ≡ false)
alike a = ((λ e. refl), (λ e. a))

-- a vertex whose flag is looked at: dropped, or with flag f
here : (s : Stand) (f i : ℕ) (xs : List ℕ) → looks s ≡ true → Without i s → Exactly s (i + 1) xs
    → (from s (i + 1) xs ≡ from s i (f ∷ map two_low_bits xs)) ↔ (parts_here s f xs (parts s (i + 1) xs) ≡ false)
unfolding triangles_from
here start zero i [] l w e = alike refl
here start zero i (zero ∷ []) l w e = alike refl
here start zero i (suc g ∷ []) l w e = alike refl
here start zero i (g ∷ h ∷ xs) l w e =
    rw (le-leb 2 (suc (suc (length xs))) (omega arith)) (differs (g ∷ h ∷ xs) start i _ _ w (λ u. u.0 refl))
here start (suc f) i xs l w e = e
here (one a) f i xs l w e = absurd (false≢true l)
here (two a b) f i xs l w e = absurd (false≢true l)
here (after a b c) zero i [] l w e = alike refl
here (after a b c) zero i (zero ∷ []) l w e = alike refl
here (after a b c) zero i (suc zero ∷ []) l w e = ((λ p. cc), (λ p. cc))
here (after a b c) zero i (suc (suc zero) ∷ []) l w e = ((λ p. cc), (λ p. cc))
here (after a b c) zero i (suc (suc (suc g)) ∷ []) l w e = alike refl
here (after a b c) zero i (g ∷ h ∷ xs) l w e = differs (g ∷ h ∷ xs) (after a b c) i _ _ w (λ u. u.0 refl)
here (after a b c) (suc zero) i xs l w e = differs xs (after a b c) i _ _ w (λ u. u.2 refl)
here (after a b c) (suc (suc zero)) i xs l w e = differs xs (after a b c) i _ _ w (λ u. u.2 refl)
here (after a b c) (suc (suc (suc f))) i xs l w e = e

-- a whole number above 3, where it is looked at, drops the vertex
dropped : (s : Stand) (x i : ℕ) (fs : List ℕ) → looks s ≡ true → 3 < x → from s i (x ∷ fs) ≡ from s (i + 1) fs
unfolding triangles_from
dropped start zero i fs l h = absurd (omega arith)
dropped start (suc x) i fs l h = refl
dropped (one a) x i fs l h = absurd (false≢true l)
dropped (two a b) x i fs l h = absurd (false≢true l)
dropped (after a b c) zero i fs l h = absurd (omega arith)
dropped (after a b c) (suc zero) i fs l h = absurd (omega arith)
dropped (after a b c) (suc (suc zero)) i fs l h = absurd (omega arith)
dropped (after a b c) (suc (suc (suc x))) i fs l h = refl

-- any other comes to the same as its two low bits
low : (s : Stand) (x i : ℕ) → looks s && leb 4 x ≡ false → go s x i ≡ go s (x % 4) i
low s x i e = same_flag s x (x % 4) i (λ (l : looks s ≡ true). sym (mod-eq_of_lt (leb-false 4 x (rw l at e))))

by_number : (s : Stand) (x i : ℕ) (xs : List ℕ) (above : Bool) → looks s && leb 4 x ≡ above → Without i s
    → Exactly s (i + 1) xs → Exactly (go s x i).next (i + 1) xs → Exactly s i (x ∷ xs)
unfolding parts
by_number s x i xs false e w p q = rw e (Iff.trans (same_step s x (x % 4) i xs (map two_low_bits xs) (low s x i e)) q)
by_number s x i xs true e w p q =
    let l = (and-eq-true_iff (looks s) (leb 4 x)).0 e in
    rw (e, dropped s x i xs l.0 (leb-true 4 x l.1)) (here s (x % 4) i xs l.0 w p)

exactly : (xs : List ℕ) (s : Stand) (i : ℕ) → ((j : ℕ) → i ≤ j → Without j s) → Exactly s i xs
unfolding parts
exactly [] s i w = alike refl
exactly (x ∷ xs) s i w =
    by_number s x i xs (looks s && leb 4 x) refl (w i (omega arith)) (exactly xs s (i + 1) (λ j l. w j (omega arith)))
    (exactly xs (go s x i).next (i + 1) (λ j l. (step_without s x j i (w j (omega arith)) (omega arith)).0))

-- the whole number and its two low bits give the same triangles exactly where they do not part
pub parts_exactly : (xs : List ℕ)
    → (triangles triangle_before xs ≡ triangles triangle_before (map two_low_bits xs)) ↔ (parts start 0 xs ≡ false)
unfolding triangles Without
parts_exactly xs = exactly xs start 0 (λ j l. tt)

-- numbers below 4 where a flag is looked at: the two never part
pub below_4_no_part : (xs : List ℕ) → All (λ (x : ℕ). x < 4) (looked_at whole_number start 0 xs) → parts start 0 xs ≡ false
below_4_no_part xs h = (parts_exactly xs).0 (below_4_same xs h)

-- by its two low bits a flag of 4 begins a triangle, and one of 7 drops its vertex; as whole numbers both drop theirs
pub four_and_seven : (triangles triangle_before (map two_low_bits (4 ∷ 0 ∷ 0 ∷ 7 ∷ 5 ∷ [])) ≡ tri 0 1 2 ∷ tri 1 2 4 ∷ [])
    × (triangles triangle_before (4 ∷ 0 ∷ 0 ∷ 7 ∷ 5 ∷ []) ≡ tri 1 2 3 ∷ [])
unfolding triangles triangles_from
four_and_seven = (refl, refl)
