-- What a function that places numbers needs, and what it does: all of it where all is there that it needs, else nothing.
use Rattle.std.specs.Prelude.{ℕ, ◌+◌, ◌-◌, ◌*◌, Bool, ◌&&◌, cond, List, [], ◌∷◌, ◌++◌, get_or, leb, ltb, Float}
use Rattle.std.specs.Float.{nan}
use Rattle.lists.specs.Lists.{part}
use Rattle.colour.specs.Colour.{colour_of, colour_numbers}
use Rattle.colour.specs.Inner.Places.{Numbers, components_at, vertex_at, points_at, colours_at}
use Rattle.rows.specs.declared.Input.{Input}
use Rattle.rows.specs.declared.Decoded.{Decoded}
use Rattle.rows.specs.declared.writing.Vertex.{Vertex}
use Rattle.rows.specs.Inner.Sources.{places, numbers_of, held_ranges}

-- ---- what a reader takes from a place on

abbrev pub numbers_in : Decoded → Numbers
numbers_in d = numbers_of d.input.now.source (held_ranges d.ranges.now)

-- k points, the components of a colour, k colours, a vertex
abbrev pub points_in : Decoded → ℕ → ℕ → List Float
points_in d = points_at (numbers_in d) d.input.now.layout.coord

abbrev pub components_in : Decoded → ℕ → List Float
components_in d = components_at (numbers_in d) d.input.now.layout.comp d.input.now.layout.n

abbrev pub colours_in : Decoded → ℕ → ℕ → List Float
colours_in d = colours_at (numbers_in d) d.input.now.layout.comp d.input.now.layout.n

abbrev pub vertex_in : Decoded → ℕ → List Float
vertex_in d = vertex_at (numbers_in d) d.input.now.layout.coord d.input.now.layout.comp d.input.now.layout.n

-- ---- what is there

-- how many places a vertex takes
abbrev pub vertex_places : Input → ℕ
vertex_places I = 2 * I.layout.coord + I.layout.n * I.layout.comp

-- k points are there whole, no more than a patch has, and an output of room elements has places for them from index at on
unfoldable pub points_fit : Input → ℕ → ℕ → ℕ → ℕ → Bool
points_fit I k p at room = leb k 16 && (leb (p + k * (2 * I.layout.coord)) (places I.source) && leb (at + 2 * k) room)

-- the same of k colours and their rows
unfoldable pub colours_fit : Input → ℕ → ℕ → ℕ → ℕ → Bool
colours_fit I k p at room =
    leb k 4 && (leb (p + k * (I.layout.n * I.layout.comp)) (places I.source) && leb (at + k * (8 + I.layout.n)) room)

-- so many numbers stand in the output from index from on and all before index at, and there is room for them from there on
abbrev pub copy_fits : ℕ → ℕ → ℕ → ℕ → Bool
copy_fits size from at room = leb (from + size) at && leb (at + size) room

-- ---- a vertex, and the side by which it is joined

-- the vertex of a point and components
abbrev pub vertex_of : List Float → List Float → Vertex
vertex_of point comps = record { x = get_or point 0 nan; y = get_or point 1 nan; colour = colour_of comps }

-- what a row has before the components
abbrev pub ten_numbers : Vertex → List Float
ten_numbers v = v.x ∷ v.y ∷ colour_numbers v.colour

-- the row of a vertex, whose n components stand in the output beside the ten places from index at on
abbrev pub row_beside : List Float → ℕ → ℕ → Vertex → List Float
row_beside o at n v = ten_numbers v ++ part nan o (at + 10) n

-- the two rows of the side, where index side is before index at: the one that stands there, and the one right before at
unfoldable pub shared_rows : List Float → ℕ → ℕ → ℕ → List Float
shared_rows o side size at = cond (ltb side at) (part nan o side size ++ part nan o (at - size) size) []

-- where the row of the vertex itself begins
abbrev pub row_index : ℕ → ℕ → ℕ → ℕ
row_index side size at = cond (ltb side at) (at + 2 * size) at

-- the side stands before index at, and an output of room elements has places from there on for its rows and one more, each of so many numbers
unfoldable pub rows_fit : ℕ → ℕ → ℕ → ℕ → Bool
rows_fit size side at room = cond (ltb side at) (leb (side + size) at && leb (at + 3 * size) room) (leb (at + size) room)

-- all of that, and the vertex is there whole
abbrev pub corner_fits : Input → ℕ → ℕ → ℕ → ℕ → Bool
corner_fits I p side at room = rows_fit (10 + I.layout.n) side at room && leb (p + vertex_places I) (places I.source)
