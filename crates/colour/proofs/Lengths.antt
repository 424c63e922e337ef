-- How many numbers rows take. Assumes nothing.
use Prim.Native.Nat.{ℕ, ◌+◌, ◌*◌}
use mathlib.Core.Path.{◌≡◌, refl, ap, ◌∙◌}
use mathlib.Core.List.{List}
use native.Mathlib.Nat.{mul-one, mul_comm}
use native.Mathlib.Omega.{arith}
use lib.ListN.{length, length-append}
use lib.Ieee.{Float}
use Rattle.lists.proofs.Pieces.{length-joined}
use Rattle.colour.specs.declared.DeviceColor.{DeviceColor}
use Rattle.std.specs.Prelude.{Option, Some, None}
use Rattle.colour.specs.declared.Cmyk.{Cmyk}
use Rattle.colour.specs.Colour.{ink_numbers, colour_numbers, colour_of, colour_row}
use Rattle.colour.specs.Inner.Places.{Numbers, point_at, components_at, vertex_at, points_at, colours_at}

five : (i : Option Cmyk) → length (ink_numbers i) ≡ 5
five None = refl
five (Some inks) = refl

pub length-colour : (s : DeviceColor) → length (colour_numbers s) ≡ 8
length-colour s = omega (arith, five s.inks)

pub length-colour_row : (comps : List Float) → length (colour_row comps) ≡ 8 + length comps
unfolding colour_row
length-colour_row comps = length-append (colour_numbers (colour_of comps)) comps ∙ ap (λ (k : ℕ). k + length comps) (length-colour (colour_of comps))

module _ (N : Numbers) where
  pub length-point_at : (coord p : ℕ) → length (point_at N coord p) ≡ 2
  unfolding point_at
  length-point_at coord p = refl

  pub length-components_at : (comp n p : ℕ) → length (components_at N comp n p) ≡ n
  unfolding components_at
  length-components_at comp n p = length-joined n 1 _ (λ i. refl) ∙ mul-one n

  pub length_colour_at : (comp n p : ℕ) → length (colour_row (components_at N comp n p)) ≡ 8 + n
  length_colour_at comp n p = length-colour_row _ ∙ ap (λ (k : ℕ). 8 + k) (length-components_at comp n p)

  pub length-vertex_at : (coord comp n p : ℕ) → length (vertex_at N coord comp n p) ≡ 10 + n
  unfolding vertex_at
  length-vertex_at coord comp n p = simp (length-append, length-point_at, length_colour_at) (omega arith)

  pub length-points_at : (coord k p : ℕ) → length (points_at N coord k p) ≡ 2 * k
  unfolding points_at
  length-points_at coord k p = length-joined k 2 _ (λ i. length-point_at coord _) ∙ mul_comm k 2

  pub length-colours_at : (comp n k p : ℕ) → length (colours_at N comp n k p) ≡ k * (8 + n)
  unfolding colours_at
  length-colours_at comp n k p = length-joined k (8 + n) _ (λ i. length_colour_at comp n _)
