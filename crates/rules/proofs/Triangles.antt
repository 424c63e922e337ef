-- Type 4: vertices that go on, cuts, the range and the order of a triangle's vertices, and what triangles are written as. Assumes nothing.
use mathlib.Core.Path.{◌≡◌, refl, ap, ◌∙◌}
use mathlib.Core.List.{List, [], ◌∷◌, ◌++◌, append_assoc}
use Prim.Native.Nat.{ℕ, zero, suc, ◌+◌, ◌≤◌, ◌<◌}
use native.Mathlib.Omega.{arith}
use lib.ListN.{length}
use Rattle.lists.specs.Lists.{flat, All, Begins}
use Rattle.lists.proofs.Members.{all_append}
use Rattle.rules.specs.Triangles.{Tri, tri, Stand, start, one, two, after, Rule, triangle_before, last_three, step, triangles_from, triangles, corners}
use Rattle.rules.proofs.Properties.{CornersBelow, InOrder}
use Rattle.rules.proofs.Lists.{all_map, flat_begins}

-- ---- vertices that go on

-- what the vertices i, i + 1 and on have come to
unfoldable pub stand : Rule → Stand → ℕ → List ℕ → Stand
stand r s i [] = s
stand r s i (f ∷ fs) = stand r (step r s f i).next (i + 1) fs

pub triangles_from-append : (r : Rule) (s : Stand) (i : ℕ) (fs gs : List ℕ)
    → triangles_from r s i (fs ++ gs) ≡ triangles_from r s i fs ++ triangles_from r (stand r s i fs) (i + length fs) gs
unfolding triangles_from stand
triangles_from-append r s i [] gs = ap (λ (j : ℕ). triangles_from r s j gs) (omega arith)
triangles_from-append r s i (f ∷ fs) gs =
    let e : i + 1 + length fs ≡ i + suc (length fs) = omega arith in
    rw (triangles_from-append r (step r s f i).next (i + 1) fs gs, append_assoc, e)

-- two more vertices after one with flag 0
pub new_triangle : (r : Rule) (i g h : ℕ) (fs : List ℕ)
    → triangles_from r (one i) (i + 1) (g ∷ h ∷ fs) ≡ tri i (i + 1) (i + 2) ∷ triangles_from r (after i (i + 1) (i + 2)) (i + 3) fs
unfolding triangles_from
new_triangle r i g h fs =
    let p : i + 1 + 1 + 1 ≡ i + 3 = omega arith in
    let q : i + 1 + 1 ≡ i + 2 = omega arith in
    rw (p, q)

-- flags that go on give triangles that go on
pub triangles_begins : (r : Rule) {fs gs : List ℕ} → Begins fs gs → Begins (triangles r fs) (triangles r gs)
unfolding triangles
triangles_begins r {fs} {gs} b =
    record {
      rest = triangles_from r (stand r start 0 fs) (0 + length fs) b.rest;
      is = ap (triangles_from r start 0) b.is ∙ triangles_from-append r start 0 fs b.rest;
    }

-- ---- the range and the order of the vertices

-- the vertices that a stand names come in stream order, all before vertex i
unfoldable pub Ordered : Stand → ℕ → Type 0
Ordered start i = Unit {0}
Ordered (one a) i = a < i
Ordered (two a b) i = (a < b) × (b < i)
Ordered (after a b c) i = (a < b) × (b < c) × (c < i)

abbrev Good : ℕ → Tri → Type 0
Good n t = CornersBelow n t × InOrder t

step_good : (r : Rule) (s : Stand) (f i n : ℕ) → Ordered s i → i < n
    → Ordered (step r s f i).next (i + 1) × All (Good n) (step r s f i).gives
unfolding Ordered
step_good r start zero i n o h = omega arith
step_good r start (suc f) i n o h = omega arith
step_good r (one a) f i n o h = omega arith
step_good r (two a b) f i n o h = omega arith
step_good r (after a b c) zero i n o h = omega arith
step_good r (after a b c) (suc zero) i n o h = omega arith
step_good triangle_before (after a b c) (suc (suc zero)) i n o h = omega arith
step_good last_three (after a b c) (suc (suc zero)) i n o h = omega arith
step_good r (after a b c) (suc (suc (suc f))) i n o h = omega arith

triangles_from_good : (r : Rule) (s : Stand) (i n : ℕ) (fs : List ℕ) → Ordered s i → i + length fs ≤ n → All (Good n) (triangles_from r s i fs)
unfolding triangles_from
triangles_from_good r s i n [] o h = tt
triangles_from_good r s i n (f ∷ fs) o h =
    let q = step_good r s f i n o (omega arith) in
    all_append (Good n) (step r s f i).gives (triangles_from r (step r s f i).next (i + 1) fs) q.1
    (triangles_from_good r (step r s f i).next (i + 1) n fs q.0 (omega arith))

module _ (r : Rule) (fs : List ℕ) where
  all_good : All (Good (length fs)) (triangles r fs)
  unfolding triangles Ordered
  all_good = triangles_from_good r start 0 (length fs) fs tt (omega arith)

  -- each triangle's vertices are among those given, and in stream order
  pub triangles_within : All (CornersBelow (length fs)) (triangles r fs)
  triangles_within = all_map (Good (length fs)) (CornersBelow (length fs)) (triangles r fs) (λ t g. g.0) all_good

  pub triangles_in_order : All InOrder (triangles r fs)
  triangles_in_order = all_map (Good (length fs)) InOrder (triangles r fs) (λ t g. g.1) all_good

-- ---- what triangles are written as

module _ {A : Type 0} where
  -- by the rows of the vertices that they have
  pub corners_same : (n : ℕ) (row row' : ℕ → List A) (ts : List Tri) → All (CornersBelow n) ts → ((i : ℕ) → i < n → row i ≡ row' i)
      → flat (corners row) ts ≡ flat (corners row') ts
  unfolding flat corners
  corners_same n row row' [] w h = refl
  corners_same n row row' (t ∷ ts) w h =
      let u = w.0 in
      rw (h t.a u.a_in, h t.b u.b_in, h t.c u.c_in, corners_same n row row' ts w.1 h)

  -- triangles that go on, over vertices that go on
  pub corners_begins : (n : ℕ) (row row' : ℕ → List A) {ts us : List Tri} → All (CornersBelow n) ts → ((i : ℕ) → i < n → row i ≡ row' i)
      → Begins ts us → Begins (flat (corners row) ts) (flat (corners row') us)
  corners_begins n row row' {ts} w h b = rw (corners_same n row row' ts w h) (flat_begins (corners row') b)

-- to decode each vertex, or the vertices of the triangles, is the same
pub corners_decoded : {U A : Type 0} (decode : U → List A) (vertex : ℕ → U) (ts : List Tri)
    → flat (corners (λ (i : ℕ). decode (vertex i))) ts ≡ flat decode (flat (corners (λ (i : ℕ). vertex i ∷ [])) ts)
unfolding flat corners
corners_decoded decode vertex [] = refl
corners_decoded decode vertex (t ∷ ts) = rw (append_assoc, append_assoc, corners_decoded decode vertex ts)
