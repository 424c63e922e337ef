-- What the inner functions that write a lattice promise one another.
use Rattle.std.specs.Prelude.{ℕ, ◌+◌, ◌-◌, ◌*◌, ◌≤◌, ◌<◌, ◌≡◌, List, Option, Some, None, Float}
use Rattle.std.specs.Float.{nan}
use Rattle.lists.specs.Lists.{joined, part, flat}
use Rattle.rules.specs.Triangles.{corners}
use Rattle.rules.specs.Lattice.{cell}
use Rattle.triangles.specs.Inner.Vertices.{RowStands}

-- where a row stands already, if it does
abbrev pub Known : List Float → Option ℕ → ℕ → ℕ → List Float → Type 0
Known out (Some from) size at row = RowStands out from size at row
Known out None size at row = Unit {0}

module _ (vertex : ℕ → List Float) where
  -- the six rows of the cell whose first vertex is i
  unfoldable pub cell_numbers : ℕ → ℕ → List Float
  cell_numbers row i = flat (corners vertex) (cell row i)

  -- a row of cells: the vertices first, first + 1 and on are above them
  unfoldable pub cells_numbers : ℕ → ℕ → List Float
  cells_numbers row first = joined (row - 1) (λ (c : ℕ). cell_numbers row (first + c))

  -- the row of cells above, of so many numbers, stands right before index at: each vertex first + 1 + c is in it
  pub record Above (out : List Float) (size row first at : ℕ) : Type 0 where
    pub before : 6 * size * (row - 1) ≤ at
    pub held : (c : ℕ) → c + 1 < row → part nan out (at - 6 * size * (row - 1) + (c * (6 * size) + 4 * size)) size ≡ vertex (first + c + 1)
