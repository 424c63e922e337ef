-- The rows of a record's numbers, by the places where they stand: bits, or indices of a list, in which each number takes one place.
use Rattle.std.specs.Prelude.{ℕ, ◌+◌, ◌*◌, List, [], ◌∷◌, ◌++◌, get_or, Float}
use Rattle.std.specs.Float.{nan}
use Rattle.lists.specs.Lists.{joined}
use Rattle.bits.specs.Bits.{field_at}
use Rattle.decode.specs.Decode.{Ranges, value_of}
use Rattle.colour.specs.Colour.{colour_row}

-- the number of a kind that takes so many places, by where it begins: width, kind, place
abbrev pub Numbers : Type 0
Numbers = ℕ → ℕ → ℕ → Float

-- in bits, after Decode
unfoldable pub bit_numbers : List ℕ → Ranges → Numbers
bit_numbers s R width kind p = value_of (field_at s p width) (R kind).scale (R kind).min

-- in a list, as they are
unfoldable pub list_numbers : List Float → Numbers
list_numbers vs width kind p = get_or vs p nan

module _ (N : Numbers) where
  -- x and y
  unfoldable pub point_at : ℕ → ℕ → List Float
  point_at coord p = N coord 0 p ∷ N coord 1 (p + coord) ∷ []

  -- n components
  unfoldable pub components_at : ℕ → ℕ → ℕ → List Float
  components_at comp n p = joined n (λ (j : ℕ). N comp (2 + j) (p + j * comp) ∷ [])

  -- the row of a vertex: x, y, colour
  unfoldable pub vertex_at : ℕ → ℕ → ℕ → ℕ → List Float
  vertex_at coord comp n p = point_at coord p ++ colour_row (components_at comp n (p + 2 * coord))

  -- k points, and the rows of k colours
  unfoldable pub points_at : ℕ → ℕ → ℕ → List Float
  points_at coord k p = joined k (λ (i : ℕ). point_at coord (p + i * (2 * coord)))

  unfoldable pub colours_at : ℕ → ℕ → ℕ → ℕ → List Float
  colours_at comp n k p = joined k (λ (i : ℕ). colour_row (components_at comp n (p + i * (n * comp))))
