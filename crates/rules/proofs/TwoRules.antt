-- Type 4: exactly where the two rules part, and that they always give equally many triangles. Assumes nothing.
use mathlib.Core.Path.{◌≡◌, refl, sym, ap, ap₂, ◌∙◌}
use mathlib.Core.Logic.{◌↔◌}
use mathlib.Core.List.{List, [], ◌∷◌, ◌++◌, map, map-append}
use Prim.Native.Nat.{ℕ, zero, suc, ◌+◌}
use native.Mathlib.Omega.{arith}
use lib.ListN.{length, length-map}
use Rattle.rules.specs.Triangles.{Tri, tri, Stand, start, one, two, after, Rule, triangle_before, last_three, step, triangles_from, triangles}
use Rattle.rules.proofs.Properties.{flags_used, NoTwoTwos}
use Rattle.rules.proofs.Triangles.{Ordered}

-- ---- where they part

-- the same triangle, by flag g after flag f
same_triangle : (t : Tri) (xs ys : List Tri) (f g : ℕ) (l : List ℕ) → (f ≡ 2 → g ≡ 2 → ⊥)
    → ((xs ≡ ys) ↔ NoTwoTwos (g ∷ l)) → (t ∷ xs ≡ t ∷ ys) ↔ NoTwoTwos (f ∷ g ∷ l)
same_triangle t xs ys f g l h e =
    ((λ p. (h, e.0 (cc))), (λ q. ap (λ (l : List Tri). t ∷ l) (e.1 q.1)))

first_vertex : (t u : Tri) (xs ys : List Tri) → t ∷ xs ≡ u ∷ ys → t.a ≡ u.a
first_vertex t u xs ys e = let p : t ≡ u = cc in ap (λ (v : Tri). v.a) p

-- the flag before, where a flag 2 could follow it, was no 2
Free : ℕ → Stand → Type 0
Free g start = Unit {0}
Free g (one a) = Unit {0}
Free g (two a b) = Unit {0}
Free g (after a b c) = (g ≡ 2) → ⊥

-- from one stand both rules give the same; from two that differ in the first vertex, until it is asked for
mutual
  unfolding triangles_from flags_used Free Ordered

  alike : (fs : List ℕ) (s : Stand) (i g : ℕ) → Ordered s i → Free g s
      → (triangles_from last_three s i fs ≡ triangles_from triangle_before s i fs) ↔ NoTwoTwos (g ∷ flags_used s i fs)
  alike [] s i g o h = ((λ e. tt), (λ e. refl))
  alike (zero ∷ fs) start i g o h = alike fs (one i) (i + 1) g (omega arith) tt
  alike (suc f ∷ fs) start i g o h = alike fs start (i + 1) g tt tt
  alike (f ∷ fs) (one a) i g o h = alike fs (two a i) (i + 1) g (omega arith) tt
  alike (f ∷ fs) (two a b) i g o h =
      same_triangle _ _ _ g 0 (flags_used (after a b i) (i + 1) fs) (λ p q. omega arith) (alike fs (after a b i) (i + 1) 0 (omega arith) (omega arith))
  alike (zero ∷ fs) (after a b c) i g o h = alike fs (one i) (i + 1) g (omega arith) tt
  alike (suc zero ∷ fs) (after a b c) i g o h =
      same_triangle _ _ _ g 1 (flags_used (after b c i) (i + 1) fs) (λ p q. omega arith) (alike fs (after b c i) (i + 1) 1 (omega arith) (omega arith))
  alike (suc (suc zero) ∷ fs) (after a b c) i g o h =
      same_triangle _ _ _ g 2 (flags_used (after a c i) (i + 1) fs) (λ p q. h p) (apart fs a b c i (i + 1) (omega arith) (omega arith))
  alike (suc (suc (suc f)) ∷ fs) (after a b c) i g o h = alike fs (after a b c) (i + 1) g (omega arith) h

  apart : (fs : List ℕ) (a d b c i : ℕ) → (a ≡ d → ⊥) → Ordered (after a b c) i
      → (triangles_from last_three (after d b c) i fs ≡ triangles_from triangle_before (after a b c) i fs) ↔ NoTwoTwos (2 ∷ flags_used (after a b c) i fs)
  apart [] a d b c i h o = ((λ e. tt), (λ e. refl))
  apart (zero ∷ fs) a d b c i h o = alike fs (one i) (i + 1) 2 (omega arith) tt
  apart (suc zero ∷ fs) a d b c i h o =
      same_triangle _ _ _ 2 1 (flags_used (after b c i) (i + 1) fs) (λ p q. omega arith) (alike fs (after b c i) (i + 1) 1 (omega arith) (omega arith))
  apart (suc (suc zero) ∷ fs) a d b c i h o =
      ((λ e. absurd (h (sym (first_vertex (tri d c i) (tri a c i) _ _ e)))), (λ q. absurd (q.0 refl refl)))
  apart (suc (suc (suc f)) ∷ fs) a d b c i h o = apart fs a d b c (i + 1) h (omega arith)

-- the two rules give the same triangles exactly where no triangle comes by flag 2 right after one that came by flag 2
pub same_where : (fs : List ℕ) → (triangles last_three fs ≡ triangles triangle_before fs) ↔ NoTwoTwos (flags_used start 0 fs)
unfolding triangles Ordered Free
same_where fs =
    let p = alike fs start 0 0 tt tt in
    let q = first_free (flags_used start 0 fs) in
    ((λ e. q.0 (p.0 e)), (λ e. p.1 (q.1 e)))
  where
    first_free : (l : List ℕ) → NoTwoTwos (0 ∷ l) ↔ NoTwoTwos l
    first_free [] = ((λ e. tt), (λ e. tt))
    first_free (g ∷ l) = ((λ e. e.1), (λ e. ((λ p q. omega arith), e)))

-- ---- counts

-- the second and the third vertex
abbrev pub ends : Tri → List ℕ
ends t = t.b ∷ t.c ∷ []

-- a stand without the first vertex of the triangle before
loose : Stand → Stand
loose start = start
loose (one a) = one a
loose (two a b) = two a b
loose (after a b c) = after 0 b c

step_loose : (r : Rule) (s : Stand) (f i : ℕ)
    → (loose (step r s f i).next ≡ loose (step triangle_before (loose s) f i).next)
    × (map ends (step r s f i).gives ≡ map ends (step triangle_before (loose s) f i).gives)
unfolding loose
step_loose r start zero i = (refl, refl)
step_loose r start (suc f) i = (refl, refl)
step_loose r (one a) f i = (refl, refl)
step_loose r (two a b) f i = (refl, refl)
step_loose r (after a b c) zero i = (refl, refl)
step_loose r (after a b c) (suc zero) i = (refl, refl)
step_loose triangle_before (after a b c) (suc (suc zero)) i = (refl, refl)
step_loose last_three (after a b c) (suc (suc zero)) i = (refl, refl)
step_loose r (after a b c) (suc (suc (suc f))) i = (refl, refl)

ends_from : Stand → ℕ → List ℕ → List (List ℕ)
ends_from s i [] = []
ends_from s i (f ∷ fs) = map ends (step triangle_before s f i).gives ++ ends_from (loose (step triangle_before s f i).next) (i + 1) fs

ends_of_triangles : (r : Rule) (s : Stand) (i : ℕ) (fs : List ℕ) → map ends (triangles_from r s i fs) ≡ ends_from (loose s) i fs
unfolding triangles_from ends_from
ends_of_triangles r s i [] = refl
ends_of_triangles r s i (f ∷ fs) =
    let q = step_loose r s f i in
    map-append ends (step r s f i).gives (triangles_from r (step r s f i).next (i + 1) fs)
    ∙ ap₂ (λ (x y : List (List ℕ)). x ++ y) q.1
    (ends_of_triangles r (step r s f i).next (i + 1) fs ∙ ap (λ (u : Stand). ends_from u (i + 1) fs) q.0)

-- the two rules never differ but in a triangle's first vertex
pub only_first_differs : (fs : List ℕ) → map ends (triangles last_three fs) ≡ map ends (triangles triangle_before fs)
unfolding triangles
only_first_differs fs = ends_of_triangles last_three start 0 fs ∙ sym (ends_of_triangles triangle_before start 0 fs)

-- so they always give equally many
pub counts_equal : (fs : List ℕ) → length (triangles last_three fs) ≡ length (triangles triangle_before fs)
counts_equal fs =
    sym (length-map (triangles last_three fs) ends) ∙ ap length (only_first_differs fs) ∙ length-map (triangles triangle_before fs) ends
