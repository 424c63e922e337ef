-- A Coons patch turned into a tensor-product patch: ISO 32000-1, 8.7.4.5.8. A point is its two coordinates, a colour its numbers.
use Rattle.std.specs.Prelude.{ℕ, suc, ◌*◌, cond, List, [], ◌∷◌, ◌++◌, map, eqb, ℤ, pos, Float, get_or, drop}
use Rattle.std.specs.Float.{nan}
use Rattle.rules.specs.Patches.{Patch, patch, patch_row}
use Rattle.rules.specs.Clauses.{tensor_order}
use Rattle.tensor.specs.Formulas.{inner_at, ninefold, ninth}

-- What numbers become: a coordinate of the border; an inner one, by the formula of its eight points; a number of a colour. `missing` stands for a
-- number that a list doesn't have.
pub record Turning (A B : Type 0) : Type 0 where
  pub missing : A
  pub border : A → B
  pub inner : A → A → A → A → A → A → A → A → B
  pub colour : A → B

-- raw numbers, exactly: every coordinate times nine
abbrev pub raw : Turning ℕ ℤ
raw =
    record {
      missing = 0;
      border = λ x. pos (9 * x);
      inner = λ a b c d e f g h. ninefold (pos a) (pos b) (pos c) (pos d) (pos e) (pos f) (pos g) (pos h);
      colour = pos;
    }

-- f64: all but the inner points is copied
abbrev pub rounded : Turning Float Float
rounded = record { missing = nan; border = λ x. x; inner = ninth; colour = λ x. x }

-- where a name stands in an order
abbrev pub place_of : ℕ → List ℕ → ℕ
place_of ij [] = 0
place_of ij (name ∷ names) = cond (eqb ij name) 0 (suc (place_of ij names))

-- a coordinate of pij, along axis 0 for x and 1 for y, among points in the order of the stream
abbrev pub coordinate : {A : Type 0} → A → List (List A) → ℕ → ℕ → A
coordinate d points axis ij = get_or (get_or points (place_of ij tensor_order.points) []) axis d

-- the names of the inner four, in the order of the stream: 11 12 22 21
abbrev pub inner_names : List ℕ
inner_names = drop 12 tensor_order.points

module _ {A B : Type 0} (T : Turning A B) where
  -- the inner point ij of the patch with these points on its border
  abbrev pub inner_point : List (List A) → ℕ → List B
  inner_point points ij =
      let along : ℕ → B = λ (axis : ℕ). inner_at T.inner (coordinate T.missing points axis) ij in
      along 0 ∷ along 1 ∷ []

  -- the border, then the inner four
  abbrev pub tensor_points : List (List A) → List (List B)
  tensor_points points = map (map T.border) points ++ map (inner_point points) inner_names

  unfoldable pub tensor_patch : Patch (List A) (List A) → Patch (List B) (List B)
  tensor_patch p = patch (tensor_points p.points) (map (map T.colour) p.colours)

-- what it is written as: the numbers of its points, then those of its colours
abbrev pub numbers_of : {B : Type 0} → Patch (List B) (List B) → List B
numbers_of p = patch_row (λ x. x) (λ x. x) p
