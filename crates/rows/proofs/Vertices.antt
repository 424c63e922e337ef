-- A vertex by its numbers. Assumes nothing.
use Prim.Native.Nat.{ℕ, ◌+◌, ◌*◌}
use mathlib.Core.Path.{◌≡◌, refl}
use mathlib.Core.List.{List, [], ◌∷◌, ◌++◌}
use lib.Ieee.{Float}
use Rattle.colour.specs.declared.DeviceColor.{DeviceColor}
use Rattle.colour.specs.Colour.{colour_of, colour_row}
use Rattle.colour.specs.Inner.Places.{Numbers, point_at, components_at, vertex_at}
use Rattle.rows.specs.Inner.Placing.{vertex_of, ten_numbers}

-- x, y and the colour of the components
pub vertex_of_lem : (x y : Float) (colour : DeviceColor) (point comps : List Float) → point ≡ x ∷ y ∷ [] → colour ≡ colour_of comps
    → record { x = x; y = y; colour = colour } ≡ vertex_of point comps
vertex_of_lem x y colour point comps e f = rw (e, f)

-- the ten numbers of a vertex and its components are its row
module _ (N : Numbers) where
  ten_and_components : (coord p : ℕ) (comps : List Float) → ten_numbers (vertex_of (point_at N coord p) comps) ++ comps ≡ point_at N coord p ++ colour_row comps
  unfolding point_at colour_row
  ten_and_components coord p comps = refl

  pub vertex_row_lem : (coord comp n p : ℕ)
      → ten_numbers (vertex_of (point_at N coord p) (components_at N comp n (p + 2 * coord))) ++ components_at N comp n (p + 2 * coord) ≡ vertex_at N coord comp n p
  unfolding vertex_at
  vertex_row_lem coord comp n p = ten_and_components coord p _
