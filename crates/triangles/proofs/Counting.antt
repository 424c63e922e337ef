-- The count of the triangles that the vertices so far have given. Assumes nothing.
use Prim.Native.Nat.{ℕ, zero, suc, ◌+◌, ◌≤◌, ◌<◌}
use mathlib.Core.Path.{◌≡◌, refl, sym, ap, ◌∙◌}
use mathlib.Core.Logic.{◌⊎◌, inl, inr, ⊎_elim}
use mathlib.Core.List.{List, [], ◌∷◌, ◌++◌}
use mathlib.Core.Option.{Option, none, some}
use native.Mathlib.Omega.{arith}
use lib.ListN.{length, get_or, length-append}
use Rattle.lists.specs.Lists.{joined}
use Rattle.lists.proofs.Pieces.{length_singles, get_d_singles}
use Rattle.rules.specs.Triangles.{Tri, tri, triangle_before, triangles}
use Rattle.rules.proofs.Walks.{Walk, kept_of, walk_start, walk_end, walk_first, walk_cut, walk_bc, walk_ac, walk_alone, walk_far, walk_none, walk_some}

pub one_or_two : (f : ℕ) → 1 ≤ f → f < 3 → (f ≡ 1) ⊎ (f ≡ 2)
one_or_two zero h k = absurd (omega arith)
one_or_two (suc zero) h k = inl refl
one_or_two (suc (suc zero)) h k = inr refl
one_or_two (suc (suc (suc f))) h k = absurd (omega arith)

module _ (flag : ℕ → ℕ) (total : ℕ) where
  abbrev pub flag_list : List ℕ
  flag_list = joined total (λ (i : ℕ). flag i ∷ [])

  pub length-flags : length flag_list ≡ total
  length-flags = length_singles flag total

  pub flag_here : {f i : ℕ} → i < total → flag i ≡ f → get_or flag_list i 0 ≡ f
  flag_here {f} {i} h e = get_d_singles flag 0 total i h ∙ e

  -- the vertices before i have given count triangles
  pub record Counting (count i : ℕ) : Type 0 where
    pub done : List Tri
    pub before : Option Tri
    pub walk : Walk triangle_before flag_list i done before
    pub counted : length done ≡ count
    pub few : count ≤ i
    pub inside : i ≤ total

  pub counting_start : Counting 0 0
  counting_start =
      record { done = []; before = none; walk = walk_start triangle_before flag_list; counted = refl; few = omega arith; inside = omega arith }

  module _ {count i : ℕ} (c : Counting count i) where
    -- a vertex or three more, and a triangle
    gives : (j : ℕ) (t : Tri) (before : Option Tri) → i < j → j ≤ total → Walk triangle_before flag_list j (c.done ++ (t ∷ [])) before → Counting (count + 1) j
    gives j t before l m w =
        record {
          done = c.done ++ (t ∷ []);
          before = before;
          walk = w;
          counted = length-append c.done (t ∷ []) ∙ ap (λ (k : ℕ). k + 1) c.counted;
          few = omega (arith, c.few);
          inside = m;
        }

    -- one more, and none
    passes : i < total → Walk triangle_before flag_list (i + 1) c.done c.before → Counting count (i + 1)
    passes h w = record { done = c.done; before = c.before; walk = w; counted = c.counted; few = omega (arith, c.few); inside = omega arith }

    pub counting_first : i + 3 ≤ total → flag i ≡ 0 → Counting (count + 1) (i + 3)
    counting_first h z =
        gives (i + 3) (tri i (i + 1) (i + 2)) (some (tri i (i + 1) (i + 2))) (omega arith) h
        (walk_first triangle_before flag_list c.walk (rw length-flags h) (flag_here (omega arith) z))

    pub counting_cut : i < total → total < i + 3 → flag i ≡ 0 → count ≡ length (triangles triangle_before flag_list)
    counting_cut l h z =
        sym c.counted ∙ sym (ap length (walk_cut triangle_before flag_list c.walk (rw length-flags l) (rw length-flags h) (flag_here l z)))

    pub counting_end : total ≤ i → count ≡ length (triangles triangle_before flag_list)
    counting_end h = sym c.counted ∙ sym (ap length (walk_end triangle_before flag_list c.walk (rw length-flags h)))

    pub counting_alone : i < total → 1 ≤ flag i → count ≡ 0 → Counting count (i + 1)
    counting_alone h f z =
        let e : c.before ≡ none = walk_none triangle_before flag_list c.walk (c.counted ∙ z) in
        passes h (rw e (walk_alone triangle_before flag_list (rw e at c.walk) (rw length-flags h) (rw (flag_here h refl) f)))

    pub counting_far : i < total → 3 ≤ flag i → Counting count (i + 1)
    counting_far h f = passes h (walk_far triangle_before flag_list c.walk (rw length-flags h) (rw (flag_here h refl) f))

    pub counting_joined : i < total → 1 ≤ flag i → flag i < 3 → (count ≡ 0 → ⊥) → Counting (count + 1) (i + 1)
    counting_joined h f g n =
        let some-before = walk_some triangle_before flag_list c.walk (λ z. n (sym c.counted ∙ z)) in
        let t : Tri = some-before.0 in
        let w : Walk triangle_before flag_list i c.done (some t) = rw some-before.1 at c.walk in
        ⊎_elim {C = Counting (count + 1) (i + 1)}
        (λ (e : flag i ≡ 1). gives (i + 1) (tri t.b t.c i) (some (tri t.b t.c i)) (omega arith) (omega arith) (walk_bc triangle_before flag_list w (rw length-flags h) (flag_here h e)))
        (λ (e : flag i ≡ 2). gives (i + 1) (tri t.a t.c i) (some (kept_of triangle_before t i)) (omega arith) (omega arith) (walk_ac triangle_before flag_list w (rw length-flags h) (flag_here h e)))
        (one_or_two (flag i) f g)
