-- A walk over the vertices of a Type 4 mesh as a reader's loop goes: a turn takes the three vertices of a new triangle, or one vertex.
-- Assumes nothing.
use mathlib.Core.Path.{◌≡◌, refl, sym, ap, ◌∙◌}
use mathlib.Core.List.{List, [], ◌∷◌, ◌++◌, append_assoc, append-nil}
use mathlib.Core.Option.{Option, none, some}
use Prim.Native.Nat.{ℕ, zero, suc, ◌+◌, ◌≤◌, ◌<◌}
use native.Mathlib.Numerals.{add-one}
use native.Mathlib.Omega.{arith}
use lib.ListN.{length, get_or, drop, length-append, length-drop, drop_of_length-le}
use lib.Seq.{drop-cons}
use Rattle.rules.specs.Triangles.{Tri, tri, Stand, start, one, after, Rule, triangle_before, last_three, kept, triangles_from, triangles}
use Rattle.rules.proofs.Triangles.{new_triangle}

-- between two turns the vertices have come to the start, or to the three from which to go on
abbrev pub stand_of : Option Tri → Stand
stand_of none = start
stand_of (some t) = after t.a t.b t.c

-- the three after flag 2
abbrev pub kept_of : Rule → Tri → ℕ → Tri
kept_of triangle_before t i = tri t.a t.c i
kept_of last_three t i = tri t.b t.c i

-- How the last triangle given goes with the three: it is they, or has their last two.
abbrev pub Last : Rule → Option Tri → List Tri → Type 0
Last r none done = done ≡ []
Last triangle_before (some t) done = (front : List Tri) × (done ≡ front ++ (t ∷ []))
Last last_three (some t) done = (front : List Tri) × (x : ℕ) × (done ≡ front ++ (tri x t.b t.c ∷ []))

module _ (r : Rule) (fs : List ℕ) where
  -- the vertices before i have given the triangles done
  pub record Walk (i : ℕ) (done : List Tri) (before : Option Tri) : Type 0 where
    pub split : triangles r fs ≡ done ++ triangles_from r (stand_of before) i (drop i fs)
    pub last : Last r before done

  pub walk_start : Walk 0 [] none
  unfolding triangles
  walk_start = record { split = refl; last = refl }

  -- no more is given than there is
  pub walk_room : {i : ℕ} {done : List Tri} {before : Option Tri} → Walk i done before → length done ≤ length (triangles r fs)
  walk_room {i} {done} {before} w = omega (arith, ap length w.split, length-append done (triangles_from r (stand_of before) i (drop i fs)))

  -- ---- the flag of vertex i

  here : (i : ℕ) → i < length fs → drop i fs ≡ get_or fs i 0 ∷ drop (i + 1) fs
  here i h = rw add-one (drop-cons fs i 0 h)

  pub walk_end : {i : ℕ} {done : List Tri} {before : Option Tri} → Walk i done before → length fs ≤ i → triangles r fs ≡ done
  unfolding triangles_from
  walk_end {i} {done} w h = w.split ∙ rw (drop_of_length-le fs h, append-nil)

  -- a step that gives the triangles ts
  goes : {i : ℕ} {done : List Tri} {before : Option Tri} (j : ℕ) (ts : List Tri) (before' : Option Tri) → Walk i done before
      → triangles_from r (stand_of before) i (drop i fs) ≡ ts ++ triangles_from r (stand_of before') j (drop j fs) → Last r before' (done ++ ts) → Walk j (done ++ ts) before'
  goes {i} {done} j ts before' w e l =
      record {
        split = w.split ∙ ap (λ (us : List Tri). done ++ us) e ∙ sym (append_assoc done ts (triangles_from r (stand_of before') j (drop j fs)));
        last = l;
      }

  begins_new : (before : Option Tri) (i : ℕ) (gs : List ℕ) → triangles_from r (stand_of before) i (0 ∷ gs) ≡ triangles_from r (one i) (i + 1) gs
  unfolding triangles_from
  begins_new none i gs = refl
  begins_new (some t) i gs = refl

  last_is : (rule : Rule) (done : List Tri) (t : Tri) → Last rule (some t) (done ++ (t ∷ []))
  last_is triangle_before done t = (done, refl)
  last_is last_three done t = (done, t.a, refl)

  last_kept : (rule : Rule) (done : List Tri) (t : Tri) (i : ℕ) → Last rule (some (kept_of rule t i)) (done ++ (tri t.a t.c i ∷ []))
  last_kept triangle_before done t i = (done, refl)
  last_kept last_three done t i = (done, t.a, refl)

  stand_kept : (rule : Rule) (t : Tri) (i : ℕ) → kept rule t.a t.b t.c i ≡ stand_of (some (kept_of rule t i))
  stand_kept triangle_before t i = refl
  stand_kept last_three t i = refl

  -- ---- flag 0

  pub walk_first : {i : ℕ} {done : List Tri} {before : Option Tri} → Walk i done before → i + 3 ≤ length fs → get_or fs i 0 ≡ 0
      → Walk (i + 3) (done ++ (tri i (i + 1) (i + 2) ∷ [])) (some (tri i (i + 1) (i + 2)))
  walk_first {i} {done} {before} w h z =
      let t : Tri = tri i (i + 1) (i + 2) in
      let p : i + 1 + 1 ≡ i + 2 = omega arith in
      let q : i + 2 + 1 ≡ i + 3 = omega arith in
      let e : drop i fs ≡ 0 ∷ get_or fs (i + 1) 0 ∷ get_or fs (i + 2) 0 ∷ drop (i + 3) fs =
      rw (here i (omega arith), here (i + 1) (omega arith), p, here (i + 2) (omega arith), q, z) in
      goes (i + 3) (t ∷ []) (some t) w
      (ap (triangles_from r (stand_of before) i) e ∙ begins_new before i _ ∙ new_triangle r i (get_or fs (i + 1) 0) (get_or fs (i + 2) 0) (drop (i + 3) fs))
      (last_is r done t)

  too_short : (i : ℕ) (gs : List ℕ) → length gs < 2 → triangles_from r (one i) (i + 1) gs ≡ []
  unfolding triangles_from
  too_short i [] h = refl
  too_short i (g ∷ []) h = refl
  too_short i (g ∷ k ∷ gs) h = absurd (omega arith)

  pub walk_cut : {i : ℕ} {done : List Tri} {before : Option Tri} → Walk i done before → i < length fs → length fs < i + 3 → get_or fs i 0 ≡ 0
      → triangles r fs ≡ done
  walk_cut {i} {done} {before} w l h z =
      let e : drop i fs ≡ 0 ∷ drop (i + 1) fs = rw (here i l, z) in
      w.split
      ∙ ap (λ (us : List Tri). done ++ us)
      (ap (triangles_from r (stand_of before) i) e ∙ begins_new before i _ ∙ too_short i (drop (i + 1) fs) (rw length-drop (omega arith)))
      ∙ append-nil done

  -- ---- flags 1 and 2

  pub walk_bc : {i : ℕ} {done : List Tri} {t : Tri} → Walk i done (some t) → i < length fs → get_or fs i 0 ≡ 1
      → Walk (i + 1) (done ++ (tri t.b t.c i ∷ [])) (some (tri t.b t.c i))
  unfolding triangles_from
  walk_bc {i} {done} {t} w h z =
      let u : Tri = tri t.b t.c i in
      let e : drop i fs ≡ 1 ∷ drop (i + 1) fs = rw (here i h, z) in
      goes (i + 1) (u ∷ []) (some u) w (ap (triangles_from r (stand_of (some t)) i) e) (last_is r done u)

  pub walk_ac : {i : ℕ} {done : List Tri} {t : Tri} → Walk i done (some t) → i < length fs → get_or fs i 0 ≡ 2
      → Walk (i + 1) (done ++ (tri t.a t.c i ∷ [])) (some (kept_of r t i))
  unfolding triangles_from
  walk_ac {i} {done} {t} w h z =
      let u : Tri = tri t.a t.c i in
      let e : drop i fs ≡ 2 ∷ drop (i + 1) fs = rw (here i h, z) in
      goes (i + 1) (u ∷ []) (some (kept_of r t i)) w
      (ap (triangles_from r (stand_of (some t)) i) e ∙ ap (λ (s : Stand). u ∷ triangles_from r s (i + 1) (drop (i + 1) fs)) (stand_kept r t i)) (last_kept r done t i)

  -- ---- a vertex that is dropped

  passes : {i : ℕ} {done : List Tri} {before : Option Tri} → Walk i done before → i < length fs
      → ((gs : List ℕ) → triangles_from r (stand_of before) i (get_or fs i 0 ∷ gs) ≡ triangles_from r (stand_of before) (i + 1) gs) → Walk (i + 1) done before
  passes {i} {done} {before} w h e =
      record {
        split = w.split ∙ ap (λ (us : List Tri). done ++ us) (ap (triangles_from r (stand_of before) i) (here i h) ∙ e (drop (i + 1) fs));
        last = w.last;
      }

  pub walk_alone : {i : ℕ} {done : List Tri} → Walk i done none → i < length fs → 1 ≤ get_or fs i 0 → Walk (i + 1) done none
  walk_alone {i} w h z = passes w h (λ gs. go (get_or fs i 0) z gs)
    where
      go : (f : ℕ) → 1 ≤ f → (gs : List ℕ) → triangles_from r start i (f ∷ gs) ≡ triangles_from r start (i + 1) gs
      go zero z gs = absurd (omega arith)
      go (suc f) z gs = unfold triangles_from in refl

  pub walk_far : {i : ℕ} {done : List Tri} {before : Option Tri} → Walk i done before → i < length fs → 3 ≤ get_or fs i 0 → Walk (i + 1) done before
  walk_far {i} {done} {before} w h z = passes w h (λ gs. go before (get_or fs i 0) z gs)
    where
      go : (b : Option Tri) (f : ℕ) → 3 ≤ f → (gs : List ℕ) → triangles_from r (stand_of b) i (f ∷ gs) ≡ triangles_from r (stand_of b) (i + 1) gs
      go b zero z gs = absurd (omega arith)
      go b (suc zero) z gs = absurd (omega arith)
      go b (suc (suc zero)) z gs = absurd (omega arith)
      go none (suc (suc (suc f))) z gs = unfold triangles_from in refl
      go (some t) (suc (suc (suc f))) z gs = unfold triangles_from in refl

  -- ---- whether a triangle has come

  pub walk_none : {i : ℕ} {done : List Tri} {before : Option Tri} → Walk i done before → length done ≡ 0 → before ≡ none
  walk_none {i} {done} {before} w e = go r before w.last
    where
      never : {t : Tri} (front : List Tri) (u : Tri) → done ≡ front ++ (u ∷ []) → some t ≡ none
      never front u p = absurd (omega (arith, ap length p, length-append front (u ∷ [])))

      go : (rule : Rule) (b : Option Tri) → Last rule b done → b ≡ none
      go rule none l = refl
      go triangle_before (some t) l = never l.0 t l.1
      go last_three (some t) l = never l.0 (tri l.1 t.b t.c) l.2

  pub walk_some : {i : ℕ} {done : List Tri} {before : Option Tri} → Walk i done before → (length done ≡ 0 → ⊥) → (t : Tri) × (before ≡ some t)
  walk_some {i} {done} {before} w n = go before w.last
    where
      go : (b : Option Tri) → Last r b done → (t : Tri) × (b ≡ some t)
      go none l = absurd (n (ap length l))
      go (some t) l = (t, refl)
