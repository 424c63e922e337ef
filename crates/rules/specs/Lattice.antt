-- Type 5, the lattice-form triangle mesh: ISO 32000-1, 8.7.4.5.6, in the order of document 01. A vertex goes by its place in the data,
-- counted from 0.
use Rattle.std.specs.Prelude.{List, [], ◌∷◌, ℕ, ◌+◌, ◌-◌, ◌*◌, ◌/◌}
use Rattle.lists.specs.Lists.{joined}
use Rattle.rules.specs.Triangles.{Tri, tri}

-- the two triangles of the cell whose first vertex is i; j is the vertex below it, in the next row
abbrev pub cell : ℕ → ℕ → List Tri
cell row_length i =
    let j : ℕ = i + row_length in
    tri i (i + 1) j ∷ tri (i + 1) (j + 1) j ∷ []

-- the triangles of count vertices: the cells in row order. Under two rows, or two vertices to a row, there is none
unfoldable pub lattice : ℕ → ℕ → List Tri
lattice count row_length =
    joined (count / row_length - 1) (λ (row : ℕ). joined (row_length - 1) (λ (column : ℕ). cell row_length (row * row_length + column)))
