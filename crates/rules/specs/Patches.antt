-- Types 6 and 7, the Coons and the tensor-product patch mesh: ISO 32000-1, 8.7.4.5.7 and 8.7.4.5.8. P stands for a point and C for a colour,
-- raw or decoded: the rules move them and never look inside.
use Rattle.std.specs.Prelude.{List, [], ◌∷◌, ◌++◌, ℕ, zero, suc, take, drop}
use Rattle.std.proofs.Math.Option.{Option, none, some, map}
use Rattle.std.proofs.Math.ListN.{get_elem?}
use Rattle.lists.specs.Lists.{flat}

-- points, and the colours of the four corners
pub record Patch (P C : Type 0) : Type 0 where
  pub points : List P
  pub colours : List C

abbrev pub patch : {P C : Type 0} → List P → List C → Patch P C
patch ps cs = record { points = ps; colours = cs }

-- ---- the sides

-- which points and which colours of a patch, by their places
abbrev pub Places : Type 0
Places = Patch ℕ ℕ

-- the sides of the patch before that flags 1, 2 and 3 take over: document 01, "Records, binary", counted from 0
abbrev pub Table : Type 0
Table = List Places

-- Types 6 and 7, and the Type 6 list
abbrev pub sides : Table
sides =
    patch (3 ∷ 4 ∷ 5 ∷ 6 ∷ []) (1 ∷ 2 ∷ [])
    ∷ patch (6 ∷ 7 ∷ 8 ∷ 9 ∷ []) (2 ∷ 3 ∷ [])
    ∷ patch (9 ∷ 10 ∷ 11 ∷ 0 ∷ []) (3 ∷ 0 ∷ [])
    ∷ []

-- the Type 7 list in 000
abbrev pub list_sides : Table
list_sides =
    patch (3 ∷ 7 ∷ 11 ∷ 15 ∷ []) (1 ∷ 2 ∷ [])
    ∷ patch (12 ∷ 8 ∷ 4 ∷ 0 ∷ []) (3 ∷ 0 ∷ [])
    ∷ patch (15 ∷ 14 ∷ 13 ∷ 12 ∷ []) (2 ∷ 3 ∷ [])
    ∷ []

-- ---- the mesh

-- what a list has at the given places
unfoldable pub at : {A : Type 0} → List A → List ℕ → List A
at l is = flat (λ (i : ℕ). take 1 (drop i l)) is

-- a record of the data: its flag, and the points and colours that follow it
pub record Piece (P C : Type 0) : Type 0 where
  pub flag : ℕ
  pub body : Patch P C

module _ {P C : Type 0} where
  -- the side of the patch before, then what the record brings
  abbrev pub onto : Patch P C → Places → Patch P C → Patch P C
  onto before side body =
      patch (at before.points side.points ++ body.points) (at before.colours side.colours ++ body.colours)

  -- Flag 0: a patch joined to no other. Flags 1 to 3: joined to the patch before. None: there is no patch before, or no such side.
  abbrev pub patch_of : Table → Option (Patch P C) → ℕ → Patch P C → Option (Patch P C)
  patch_of T before zero body = some body
  patch_of T none (suc f) body = none
  patch_of T (some before) (suc f) body = map (λ (side : Places). onto before side body) (get_elem? T f)

  -- the patches of the records that come after `before`; a record that gives none ends the mesh
  unfoldable pub mesh : Table → Option (Patch P C) → List (Piece P C) → List (Patch P C)
  mesh T before [] = []
  mesh T before (q ∷ qs) = elim (patch_of T before q.flag q.body) [ none ↦ [] | some p ↦ p ∷ mesh T (some p) qs ]

-- what a patch is written as: its points, then its colours
unfoldable pub patch_row : {P C A : Type 0} → (P → List A) → (C → List A) → Patch P C → List A
patch_row point colour p = flat point p.points ++ flat colour p.colours
