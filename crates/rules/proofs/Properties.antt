-- What the laws say of triangles.
use mathlib.Core.Path.{◌≡◌}
use mathlib.Core.Bool.{Bool, true, false, ◌&&◌, ◌||◌, cond}
use mathlib.Core.List.{List, [], ◌∷◌, ◌++◌, map}
use Prim.Native.Nat.{ℕ, zero, suc, ◌+◌, ◌%◌, ◌<◌}
use lib.Dec.{leb}
use lib.ListN.{length}
use Rattle.records.specs.Format.{Meaning}
use Rattle.rules.specs.Triangles.{Tri, Stand, start, one, two, after, triangle_before, step}

-- all three vertices are among the first n
pub record CornersBelow (n : ℕ) (t : Tri) : Type 0 where
  pub a_in : t.a < n
  pub b_in : t.b < n
  pub c_in : t.c < n

-- the vertices stand in stream order
pub record InOrder (t : Tri) : Type 0 where
  pub ab : t.a < t.b
  pub bc : t.b < t.c

-- the flag by which a triangle comes: 0 where it is joined to no other
abbrev pub came_by : Stand → ℕ → ℕ
came_by start f = f
came_by (one va) f = f
came_by (two va vb) f = 0
came_by (after va vb vc) f = f

-- the flags by which the triangles come
unfoldable pub flags_used : Stand → ℕ → List ℕ → List ℕ
flags_used s i [] = []
flags_used s i (f ∷ fs) =
    map (λ (t : Tri). came_by s f) (step triangle_before s f i).gives ++ flags_used (step triangle_before s f i).next (i + 1) fs

-- no 2 stands right after a 2
abbrev pub NoTwoTwos : List ℕ → Type 0
NoTwoTwos [] = Unit {0}
NoTwoTwos (f ∷ []) = Unit {0}
NoTwoTwos (f ∷ g ∷ l) = (f ≡ 2 → g ≡ 2 → ⊥) × NoTwoTwos (g ∷ l)

-- ---- what a flag means

-- whether the flag of the next vertex is looked at: those of the second and the third vertex of a new triangle are not
abbrev pub looks : Stand → Bool
looks start = true
looks (one va) = false
looks (two va vb) = false
looks (after va vb vc) = true

-- the numbers read where a flag is looked at, from vertex i on, by what a flag means
unfoldable pub looked_at : Meaning → Stand → ℕ → List ℕ → List ℕ
looked_at flag s i [] = []
looked_at flag s i (x ∷ xs) = cond (looks s) (x ∷ []) [] ++ looked_at flag (step triangle_before s (flag x) i).next (i + 1) xs

-- whether a vertex with this flag joins the triangle before
abbrev pub joins : ℕ → Bool
joins zero = false
joins (suc zero) = true
joins (suc (suc zero)) = true
joins (suc (suc (suc f))) = false

-- At a number above 3 where a flag is looked at the ported reading drops the vertex. The published one goes by the two low bits, here f, with
-- the numbers xs to come. `rest` says whether the two part later, where both drop the vertex.
-- With f = 0 the published reading begins a triangle, and gives it if two more vertices come. If only one comes, with number g, the ported
-- reading may join it to the triangle before; the published one does not.
abbrev pub parts_here : Stand → ℕ → List ℕ → Bool → Bool
parts_here start zero xs rest = leb 2 (length xs)
parts_here start (suc f) xs rest = rest
parts_here (one va) f xs rest = rest
parts_here (two va vb) f xs rest = rest
parts_here (after va vb vc) zero [] rest = false
parts_here (after va vb vc) zero (g ∷ []) rest = joins g
parts_here (after va vb vc) zero (g ∷ h ∷ xs) rest = true
parts_here (after va vb vc) (suc f) xs rest = joins (suc f) || rest

-- whether the ported reading of the numbers and the published one part, from vertex i on
unfoldable pub parts : Stand → ℕ → List ℕ → Bool
parts s i [] = false
parts s i (x ∷ xs) =
    cond (looks s && leb 4 x) (parts_here s (x % 4) xs (parts s (i + 1) xs)) (parts (step triangle_before s x i).next (i + 1) xs)
