-- The rows of the triangles that the vertices so far have given, and where the three stand from which to go on. Assumes nothing.
use Prim.Native.Nat.{ℕ, ◌+◌, ◌-◌, ◌*◌, ◌≤◌, ◌<◌}
use mathlib.Core.Path.{◌≡◌, refl, sym, ◌∙◌}
use mathlib.Core.Bool.{cond}
use mathlib.Core.List.{List, [], ◌∷◌, ◌++◌, append-nil, append_assoc}
use mathlib.Core.Option.{Option, none, some}
use mathlib.Core.Logic.{⊎_elim}
use native.Mathlib.Omega.{arith}
use native.Mathlib.Nat.{mul-le-mul_right, zero-add}
use lib.ListN.{length, length-append}
use lib.Dec.{eqb}
use lib.Ieee.{Float, nan}
use Rattle.lists.specs.Lists.{part, flat}
use Rattle.lists.specs.Writing.{Written}
use Rattle.lists.proofs.Pieces.{length-flat, flat_more}
use Rattle.lists.proofs.Writing.{written_length, written_none, written_then, written_part, part_before}
use Rattle.rules.specs.Triangles as T
use Rattle.rules.specs.Triangles.{Tri, tri, triangle_before, triangles, corners}
use Rattle.rules.proofs.Walks.{Walk, kept_of, walk_start, walk_end, walk_first, walk_cut, walk_bc, walk_ac, walk_alone, walk_far, walk_room}
use Rattle.rules.proofs.TwoRules.{counts_equal}
use Rattle.triangles.specs.declared.free_form.Rule.{Rule}
use Rattle.triangles.specs.declared.free_form.Rule.TheVariants.{TriangleBefore, LastThree}
use Rattle.triangles.specs.declared.vertices.Vertices.{Vertices}
use Rattle.triangles.specs.Inner.Vertices.{RowStands, flag_of_vertex, rule_of, triangles_in, kept_index}
use Rattle.triangles.proofs.Counting.{flag_list, length-flags, flag_here, one_or_two}

-- both rules give equally many triangles
pub same_count : (rule : Rule) (v : Vertices) → length (triangles_in triangle_before v) ≡ length (triangles_in (rule_of rule) v)
unfolding triangles_in
same_count TriangleBefore v = refl
same_count LastThree v = sym (counts_equal (flag_list (flag_of_vertex v) v.total))

module _ (row : ℕ → List Float) (size : ℕ) (sized : (i : ℕ) → length (row i) ≡ size) where
  length-corners : (t : Tri) → length (corners row t) ≡ 3 * size
  unfolding corners
  length-corners t = simp (length-append, sized) (omega arith)

  pub length-mesh : (ts : List Tri) → length (flat (corners row) ts) ≡ length ts * (3 * size)
  length-mesh ts = length-flat (corners row) (3 * size) ts length-corners

  -- the row of va stands at index first, those of vb and vc right before p
  pub record Three (o : List Float) (p first : ℕ) (t : Tri) : Type 0 where
    pub enough : 3 * size ≤ p
    pub va : RowStands o first size p (row t.a)
    pub vb : RowStands o (p - 2 * size) size p (row t.b)
    pub vc : RowStands o (p - size) size p (row t.c)

  abbrev pub Kept : List Float → ℕ → ℕ → Option Tri → Type 0
  Kept o p first none = p ≡ 0
  Kept o p first (some t) = Three o p first t

  -- the triangle written last
  last_three_lem : {l o : List Float} {q : ℕ} (front : List Float) (t : Tri) → Written l o 0 (front ++ corners row t) q → Three o q (length front) t
  unfolding corners
  last_three_lem {l} {o} {q} f t v =
      let a : List Float = row t.a in
      let b : List Float = row t.b in
      let c : List Float = row t.c in
      let la : length a ≡ size = sized _ in
      let lb : length b ≡ size = sized _ in
      let lc : length c ≡ size = sized _ in
      let v₂ : Written l o 0 ((f ++ a) ++ (b ++ c)) q = rw append_assoc v in
      let v₃ : Written l o 0 (((f ++ a) ++ b) ++ (c ++ [])) q = rw (append-nil c, append_assoc (f ++ a) b c) v₂ in
      let n : length (f ++ (a ++ (b ++ c))) ≡ length f + 3 * size = simp length-append (omega arith) in
      let n₂ : length (f ++ a) ≡ length f + size = simp length-append (omega arith) in
      let n₃ : length ((f ++ a) ++ b) ≡ length f + 2 * size = simp length-append (omega arith) in
      let e : q ≡ 0 + length (f ++ (a ++ (b ++ c))) = v.after in
      record {
        enough = omega arith;
        va = record { before = omega arith; held = written_part nan f a (b ++ c) (length f) size v refl la };
        vb = record { before = omega arith; held = written_part nan (f ++ a) b c (q - 2 * size) size v₂ (omega arith) lb };
        vc = record { before = omega arith; held = written_part nan ((f ++ a) ++ b) c [] (q - size) size v₃ (omega arith) lc };
      }

  not_two : (rule : Rule) (p : ℕ) → kept_index rule 1 size p ≡ p
  not_two TriangleBefore p = refl
  not_two LastThree p = refl

  -- after flag 2 va is that of the triangle before, or vb
  kept_after_two : (rule : Rule) {o o' : List Float} {p q first : ℕ} {xs : List Float} (t : Tri) (i : ℕ) → Three o p first t → Written o o' p xs q
      → Three o' q p (tri t.a t.c i) → Three o' q (kept_index rule 2 size p) (kept_of (rule_of rule) t i)
  kept_after_two TriangleBefore t i k x new = new
  kept_after_two LastThree {o} {o'} {p} {q} {first} {xs} t i k x new =
      let n = k.enough in
      let m = new.va.before in
      record {
        enough = new.enough;
        va =
            record {
              before = omega arith;
              held = part_before nan (p - 2 * size) size x (omega arith) ∙ k.vb.held;
            };
        vb = new.vb;
        vc = new.vc;
      }

  module _ (named : Rule) (flag : ℕ → ℕ) (total : ℕ) where
    abbrev rule : T.Rule
    rule = rule_of named

    abbrev fs : List ℕ
    fs = flag_list flag total

    abbrev tris : List Tri
    tris = triangles rule fs

    -- the vertices before i have given triangles whose rows stand before index p
    pub record Writing (l o : List Float) (p i first : ℕ) : Type 0 where
      pub done : List Tri
      pub before : Option Tri
      pub walk : Walk rule fs i done before
      pub written : Written l o 0 (flat (corners row) done) p
      pub kept : Kept o p first before
      pub same : length o ≡ length l
      pub inside : i ≤ total

    pub writing_start : (l : List Float) → Writing l l 0 0 0
    unfolding flat
    writing_start l =
        record {
          done = [];
          before = none;
          walk = walk_start rule fs;
          written = written_none l 0 (omega arith);
          kept = refl;
          same = refl;
          inside = omega arith;
        }

    module _ {l o : List Float} {p i first : ℕ} (w : Writing l o p i first) where
      place_is : p ≡ length w.done * (3 * size)
      place_is = let a = w.written.after in omega (arith, length-mesh w.done)

      -- a triangle more has room
      room_for : {j : ℕ} {before : Option Tri} (t : Tri) → Walk rule fs j (w.done ++ (t ∷ [])) before → length tris * (3 * size) ≤ length l
          → p + 3 * size ≤ length o
      room_for t v h =
          let a = place_is in
          let b = w.same in
          let k : length w.done + 1 ≤ length tris = omega (arith, walk_room rule fs v, length-append w.done (t ∷ [])) in
          omega (arith, mul-le-mul_right (3 * size) k)

      -- a triangle more
      gives : {o' : List Float} {q first' : ℕ} (j : ℕ) (t : Tri) (before : Option Tri) → j ≤ total → Walk rule fs j (w.done ++ (t ∷ [])) before
          → Written o o' p (corners row t) q → (Three o' q p t → Kept o' q first' before) → Writing l o' q j first'
      gives {o'} {q} j t before h v x k =
          let y : Written l o' 0 (flat (corners row) w.done ++ corners row t) q = written_then w.written x in
          let e : length (flat (corners row) w.done) ≡ p = sym (w.written.after ∙ zero-add _) in
          record {
            done = w.done ++ (t ∷ []);
            before = before;
            walk = v;
            written = rw (flat_more (corners row) w.done t) y;
            kept = k (rw e at (last_three_lem (flat (corners row) w.done) t y));
            same = written_length x ∙ w.same;
            inside = h;
          }

      -- a vertex more, and none
      passes : i < total → Walk rule fs (i + 1) w.done w.before → Writing l o p (i + 1) first
      passes h v =
          record { done = w.done; before = w.before; walk = v; written = w.written; kept = w.kept; same = w.same; inside = omega arith }

      -- ---- flag 0

      new_walk : i + 3 ≤ total → flag i ≡ 0 → Walk rule fs (i + 3) (w.done ++ (tri i (i + 1) (i + 2) ∷ [])) (some (tri i (i + 1) (i + 2)))
      new_walk h z = walk_first rule fs w.walk (rw length-flags h) (flag_here flag total (omega arith) z)

      pub first_room : i + 3 ≤ total → flag i ≡ 0 → length tris * (3 * size) ≤ length l → p + 3 * size ≤ length o
      first_room h z = room_for (tri i (i + 1) (i + 2)) (new_walk h z)

      pub first_done : {o' : List Float} {q : ℕ} → i + 3 ≤ total → flag i ≡ 0 → Written o o' p (corners row (tri i (i + 1) (i + 2))) q
          → Writing l o' q (i + 3) p
      first_done h z x = gives (i + 3) (tri i (i + 1) (i + 2)) (some (tri i (i + 1) (i + 2))) h (new_walk h z) x (λ k. k)

      pub cut_short : i < total → total < i + 3 → flag i ≡ 0 → Written l o 0 (flat (corners row) tris) p
      cut_short k h z =
          rw (walk_cut rule fs w.walk (rw length-flags k) (rw length-flags h) (flag_here flag total k z)) w.written

      pub all_done : total ≤ i → Written l o 0 (flat (corners row) tris) p
      all_done h = rw (walk_end rule fs w.walk (rw length-flags h)) w.written

      -- ---- flags 1 and 2

      record Before : Type 0 where
        t : Tri
        walk_on : Walk rule fs i w.done (some t)
        three : Three o p first t

      triangle_before_lem : (p ≡ 0 → ⊥) → Before
      triangle_before_lem n = go w.before w.walk w.kept
        where
          go : (b : Option Tri) → Walk rule fs i w.done b → Kept o p first b → Before
          go none v k = absurd (n k)
          go (some t) v k = record { t = t; walk_on = v; three = k }

      module _ (h : i < total) (low : 1 ≤ flag i) (high : flag i < 3) (n : p ≡ 0 → ⊥) where
        joined_by : {C : Type 0} (b : Before)
            → (flag i ≡ 1 → Walk rule fs (i + 1) (w.done ++ (tri b.t.b b.t.c i ∷ [])) (some (tri b.t.b b.t.c i)) → C)
            → (flag i ≡ 2 → Walk rule fs (i + 1) (w.done ++ (tri b.t.a b.t.c i ∷ [])) (some (kept_of rule b.t i)) → C) → C
        joined_by {C} b one two =
            ⊎_elim {C = C}
            (λ (e : flag i ≡ 1). one e (walk_bc rule fs b.walk_on (rw length-flags h) (flag_here flag total h e)))
            (λ (e : flag i ≡ 2). two e (walk_ac rule fs b.walk_on (rw length-flags h) (flag_here flag total h e)))
            (one_or_two (flag i) low high)

        -- a triangle more has room
        pub joined_room : length tris * (3 * size) ≤ length l → p + 3 * size ≤ length o
        joined_room room =
            let b = triangle_before_lem n in
            joined_by b (λ e v. room_for (tri b.t.b b.t.c i) v room) (λ e v. room_for (tri b.t.a b.t.c i) v room)

        pub joined_done : {o' : List Float} {q f side first' : ℕ} → f ≡ flag i → side ≡ cond (eqb f 1) (p - 2 * size) first
            → first' ≡ kept_index named f size p
            → Written o o' p (part nan o side size ++ (part nan o (p - size) size ++ row i)) q → Writing l o' q (i + 1) first'
        unfolding corners
        joined_done {o'} {q} {f} {side} {first'} g es ef x =
            let b = triangle_before_lem n in
            let k = b.three in
            joined_by b
            (λ (e : flag i ≡ 1) v.
            let s : side ≡ p - 2 * size = rw (g, e) at es in
            let k₁ : first' ≡ p = rw (g, e) at ef ∙ not_two named p in
            let y : Written o o' p (corners row (tri b.t.b b.t.c i)) q = rw (s, k.vb.held, k.vc.held) at x in
            rw k₁ (gives (i + 1) (tri b.t.b b.t.c i) (some (tri b.t.b b.t.c i)) (omega arith) v y (λ m. m)))
            (λ (e : flag i ≡ 2) v.
            let s : side ≡ first = rw (g, e) at es in
            let k₁ : first' ≡ kept_index named 2 size p = rw (g, e) at ef in
            let y : Written o o' p (corners row (tri b.t.a b.t.c i)) q = rw (s, k.va.held, k.vc.held) at x in
            rw k₁
            (gives (i + 1) (tri b.t.a b.t.c i) (some (kept_of rule b.t i)) (omega arith) v y (kept_after_two named b.t i k y)))

      -- ---- a vertex that is dropped

      pub dropped_alone : i < total → 1 ≤ flag i → p ≡ 0 → 1 ≤ size → Writing l o p (i + 1) first
      dropped_alone h f z s = go w.before refl w.kept
        where
          go : (b : Option Tri) → w.before ≡ b → Kept o p first b → Writing l o p (i + 1) first
          go none e k =
              passes h (rw e (walk_alone rule fs (rw e at w.walk) (rw length-flags h) (rw (flag_here flag total h refl) f)))
          go (some t) e k = let m = k.enough in absurd (omega arith)

      pub dropped_far : i < total → 3 ≤ flag i → Writing l o p (i + 1) first
      dropped_far h f = passes h (walk_far rule fs w.walk (rw length-flags h) (rw (flag_here flag total h refl) f))
