-- Types 6 and 7: the sides by the clauses' own names, and what the Type 7 list of 000 takes for sides. Each by computing. Assumes nothing.
use mathlib.Core.Path.{◌≡◌, refl}
use mathlib.Core.List.{[], ◌∷◌, ◌++◌, map}
use mathlib.Core.Option.{some}
use Prim.Native.Nat.{ℕ}
use native.Mathlib.Omega.{arith}
use Rattle.lists.specs.Lists.{flat, All}
use Rattle.rules.specs.Patches.{patch, Places, sides, list_sides, at, patch_of}
use Rattle.rules.specs.Clauses.{coons_order, coons, tensor_order, tensor, row_by_row, named}
use Rattle.rules.specs.Inner.Sides.{Fits}

-- 8.7.4.5.7 counts from 1
pub coons_table : map (named coons_order) sides ≡ coons
unfolding at flat
coons_table = refl

-- 8.7.4.5.8 names the same places pij and cij
pub tensor_table : map (named tensor_order) sides ≡ tensor
unfolding at flat
tensor_table = refl

module _ (own : Places) where
  -- After a patch whose points and colours go by their names in the clause, flags 1, 2 and 3 give a patch that has first the points and the
  -- colours that the clause's table names, and then its own.
  pub coons_joined : map (λ (f : ℕ). patch_of sides (some coons_order) f own) (1 ∷ 2 ∷ 3 ∷ [])
      ≡ map (λ (side : Places). some (patch (side.points ++ own.points) (side.colours ++ own.colours))) coons
  unfolding at flat
  coons_joined = refl

  pub tensor_joined : map (λ (f : ℕ). patch_of sides (some tensor_order) f own) (1 ∷ 2 ∷ 3 ∷ [])
      ≡ map (λ (side : Places). some (patch (side.points ++ own.points) (side.colours ++ own.colours))) tensor
  unfolding at flat
  tensor_joined = refl

-- the stream's order has every point, at the places given here
pub tensor_order_lem : at tensor_order.points (0 ∷ 1 ∷ 2 ∷ 3 ∷ 11 ∷ 12 ∷ 13 ∷ 4 ∷ 10 ∷ 15 ∷ 14 ∷ 5 ∷ 9 ∷ 8 ∷ 7 ∷ 6 ∷ []) ≡ row_by_row.points
unfolding at flat
tensor_order_lem = refl

-- the Type 7 list of 000 takes the points for written row by row, and has flags 2 and 3 exchanged
pub list_table : map (named row_by_row) list_sides ≡ at tensor (0 ∷ 2 ∷ 1 ∷ [])
unfolding at flat
list_table = refl

-- every side is there in a patch
pub sides_fit : All (Fits 12) sides × All (Fits 16) sides × All (Fits 16) list_sides
sides_fit = (omega arith, omega arith, omega arith)
