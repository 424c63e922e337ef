-- Type 4, the free-form triangle mesh: ISO 32000-1, 8.7.4.5.5. A vertex goes by its place in the data, counted from 0.
use Rattle.std.specs.Prelude.{List, [], ◌∷◌, ◌++◌, ℕ, zero, suc, ◌+◌}

-- a triangle, by its three vertices
pub record Tri : Type 0 where
  pub a : ℕ
  pub b : ℕ
  pub c : ℕ

abbrev pub tri : ℕ → ℕ → ℕ → Tri
tri a b c = record { a = a; b = b; c = c }

-- what the vertices so far have come to
pub data Stand : Type 0 where
  start : Stand  -- no triangle yet
  one : ℕ → Stand  -- va, whose flag was 0
  two : ℕ → ℕ → Stand  -- va and vb
  after : ℕ → ℕ → ℕ → Stand  -- the triangle before is (va, vb, vc)

-- After f = 2 the clause and the binary readers go on from the new triangle, (va, vc, vd). The list builder of 000 goes on from the last
-- three vertices that it kept, (vb, vc, vd).
pub data Rule : Type 0 where
  triangle_before : Rule
  last_three : Rule

abbrev pub kept : Rule → ℕ → ℕ → ℕ → ℕ → Stand
kept triangle_before va vb vc vd = after va vc vd
kept last_three va vb vc vd = after vb vc vd

-- what a vertex gives, and what the vertices have then come to
pub record Step : Type 0 where
  pub gives : List Tri
  pub next : Stand

abbrev pub nothing : Stand → Step
nothing s = record { gives = []; next = s }

abbrev pub triangle : Tri → Stand → Step
triangle t s = record { gives = t ∷ []; next = s }

-- A vertex by its flag f, where 1 is suc zero. f = 0 begins a triangle; the flags of the next two vertices are ignored. After (va, vb, vc),
-- f = 1 takes side vb vc and f = 2 side va vc. Flags 1 and 2 with no triangle before, and flags of 3 or more, drop the vertex.
abbrev pub step : Rule → Stand → ℕ → ℕ → Step
step r start zero va = nothing (one va)
step r start (suc f) v = nothing start
step r (one va) f vb = nothing (two va vb)
step r (two va vb) f vc = triangle (tri va vb vc) (after va vb vc)
step r (after _ _ _) zero va = nothing (one va)
step r (after va vb vc) (suc zero) vd = triangle (tri vb vc vd) (after vb vc vd)
step r (after va vb vc) (suc (suc zero)) vd = triangle (tri va vc vd) (kept r va vb vc vd)
step r (after va vb vc) (suc (suc (suc f))) v = nothing (after va vb vc)

-- what the flags of the vertices, in order, come to
abbrev pub FlagRule : Type 0
FlagRule = List ℕ → List Tri

-- the triangles of the vertices i, i + 1 and on, by their flags
unfoldable pub triangles_from : Rule → Stand → ℕ → List ℕ → List Tri
triangles_from r s i [] = []
triangles_from r s i (f ∷ fs) = (step r s f i).gives ++ triangles_from r (step r s f i).next (i + 1) fs

unfoldable pub triangles : Rule → FlagRule
triangles r fs = triangles_from r start 0 fs

-- what a triangle is written as, where row i is what vertex i is written as
unfoldable pub corners : {A : Type 0} → (ℕ → List A) → Tri → List A
corners row t = row t.a ++ (row t.b ++ row t.c)
