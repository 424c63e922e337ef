-- What the inner functions promise one another of the vertices that they read and of their rows.
use Rattle.std.specs.Prelude.{ℕ, ◌+◌, ◌-◌, ◌*◌, ◌≤◌, ◌≡◌, cond, eqb, List, [], ◌∷◌, Float}
use Rattle.std.specs.Float.{nan}
use Rattle.lists.specs.Lists.{joined, part}
use Rattle.decode.specs.Decode.{Ranges}
use Rattle.colour.specs.Inner.Places.{vertex_at}
use Rattle.rows.specs.Inner.Sources.{numbers_of, flag_in, held_ranges}
use Rattle.rules.specs.Triangles as T
use Rattle.rules.specs.Triangles.{Tri, triangle_before, last_three, triangles}
use Rattle.triangles.specs.declared.free_form.Rule.{Rule}
use Rattle.triangles.specs.declared.free_form.Rule.TheVariants.{TriangleBefore, LastThree}
use Rattle.triangles.specs.declared.vertices.Vertices.{Vertices}
use Rattle.triangles.specs.declared.vertices.Rows.{Rows}

-- ---- the vertices

-- the flag of vertex i
unfoldable pub flag_of_vertex : Vertices → ℕ → ℕ
flag_of_vertex v i = flag_in v.input.source v.input.layout.flag v.mask (i * v.size)

-- its row, of so many numbers
abbrev pub row_size : Vertices → ℕ
row_size v = 10 + v.input.layout.n

unfoldable pub row_of_vertex : Vertices → Ranges → ℕ → List Float
row_of_vertex v R i =
    vertex_at (numbers_of v.input.source R) v.input.layout.coord v.input.layout.comp v.input.layout.n (i * v.size + v.input.layout.flag)

abbrev pub row_in : Rows → ℕ → List Float
row_in r = row_of_vertex r.vertices.now (held_ranges r.ranges.now)

-- the Type 4 triangles, by one of the two rules
abbrev pub rule_of : Rule → T.Rule
rule_of TriangleBefore = triangle_before
rule_of LastThree = last_three

unfoldable pub triangles_in : T.Rule → Vertices → List Tri
triangles_in rule v = triangles rule (joined v.total (λ (i : ℕ). flag_of_vertex v i ∷ []))

-- where the row of the next va stands, after a triangle that was joined by a flag and written from index at on: after flag 2 the last three begin with vb
abbrev pub kept_index : Rule → ℕ → ℕ → ℕ → ℕ
kept_index TriangleBefore flag size at = at
kept_index LastThree flag size at = cond (eqb flag 2) (at - 2 * size) at

-- ---- rows in the output

-- a row of so many numbers stands in the output before index at
pub record RowStands (out : List Float) (from size at : ℕ) (row : List Float) : Type 0 where
  pub before : from + size ≤ at
  pub held : part nan out from size ≡ row
