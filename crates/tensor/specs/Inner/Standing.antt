-- The patches of a raw list, as the code holds them.
use Rattle.std.specs.Prelude.{ℕ, ◌≡◌, Bool, cond, List, [], ◌∷◌, ◌++◌, ◌*◌, length, take, drop, Option, Some, None}
use Rattle.std.proofs.Math.Option as maybe
use Rattle.std.proofs.Math.Option.{some, none}
use Rattle.rules.specs.Patches.{Patch, patch, sides, patch_of}
use Rattle.rules.specs.Meshes.{groups, piece, patches}
use Rattle.tensor.specs.declared.raw.Coons.{Coons}

abbrev pub Raw : Type 0
Raw = Patch (List ℕ) (List ℕ)

-- the patch that it is
unfoldable pub patch_in : ℕ → Coons → Raw
patch_in n c = patch (groups 0 c.side 0 4 2 ++ groups 0 c.others.now 0 8 2) (c.c00.now ∷ c.c03.now ∷ take n c.c33_c30.now ∷ drop n c.c33_c30.now ∷ [])

-- its first side has eight numbers, its other points have 16, and each colour n
pub record Sized (n : ℕ) (c : Coons) : Type 0 where
  pub side : length c.side ≡ 8
  pub others : length c.others.now ≡ 16
  pub c00 : length c.c00.now ≡ n
  pub c03 : length c.c03.now ≡ n
  pub c33_c30 : length c.c33_c30.now ≡ 2 * n

-- the patch that came before, if any did
abbrev pub before_in : ℕ → Option Coons → maybe.Option Raw
before_in n None = none
before_in n (Some c) = some (patch_in n c)

-- the record with flag f and the numbers `own` after it makes the patch c, where `before` came before
abbrev pub Takes : ℕ → Option Coons → ℕ → List ℕ → Coons → Type 0
Takes n before f own c = patch_of sides (before_in n before) f (piece 0 8 n f own).body ≡ some (patch_in n c)

-- the patches of a list
abbrev pub patches_of : ℕ → List ℕ → List Raw
patches_of n xs = patches 0 sides (λ x. x) 8 n xs

-- what the first pass finds
abbrev pub count_of : Bool → ℕ → Option ℕ
count_of whole count = cond whole (Some count) None
