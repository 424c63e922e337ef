-- The finished meshes of a list of numbers, raw ones or f64, with n components to a colour: document 01, "Records". What comes after the last whole
-- vertex or record counts for nothing.
use Rattle.std.specs.Prelude.{cond, List, [], ◌∷◌, ◌++◌, ℕ, zero, suc, ◌+◌, ◌*◌, ◌/◌, leb, length, get_or, take, drop}
use Rattle.std.proofs.Math.Option.{none}
use Rattle.lists.specs.Lists.{joined, part, flat}
use Rattle.records.specs.Format.{points_after, colours_after}
use Rattle.rules.specs.Triangles.{Tri, FlagRule, corners}
use Rattle.rules.specs.Lattice.{lattice}
use Rattle.rules.specs.Patches.{Patch, patch, Table, Piece, mesh, patch_row}

-- What the numbers of a list stand for: `missing` for a number that the list does not have, `flag` for the flag that a number is, `point` and
-- `colour` for what the two numbers of a point and the n numbers of a colour are written as.
pub record Source (A B : Type 0) : Type 0 where
  pub missing : A
  pub flag : A → ℕ
  pub point : List A → List B
  pub colour : List A → List B

-- how many triangles or patches, and what is written of them
pub record Finished (B : Type 0) : Type 0 where
  pub count : ℕ
  pub numbers : List B

-- ---- Types 4 and 5

module _ {A : Type 0} (d : A) where
  -- a Type 4 vertex is a flag, x, y and components: the flags, and vertex i after its flag
  unfoldable pub flags : (A → ℕ) → ℕ → List A → List ℕ
  flags flag_of n xs = joined (length xs / (n + 3)) (λ (i : ℕ). flag_of (get_or xs (i * (n + 3)) d) ∷ [])

  unfoldable pub vertex4 : ℕ → List A → ℕ → List A
  vertex4 n xs i = part d xs (i * (n + 3) + 1) (n + 2)

  -- a Type 5 vertex is x, y and components
  unfoldable pub vertex5 : ℕ → List A → ℕ → List A
  vertex5 n xs i = part d xs (i * (n + 2)) (n + 2)

-- triangles, where row i is what vertex i is written as
abbrev pub finished : {B : Type 0} → List Tri → (ℕ → List B) → Finished B
finished tris row = record { count = length tris; numbers = flat (corners row) tris }

module _ {A B : Type 0} where
  -- what x, y and components are written as
  abbrev pub vertex_row : Source A B → List A → List B
  vertex_row S xs = S.point (take 2 xs) ++ S.colour (drop 2 xs)

  unfoldable pub type4_mesh : FlagRule → Source A B → ℕ → List A → Finished B
  type4_mesh rule S n xs = finished (rule (flags S.missing S.flag n xs)) (λ (i : ℕ). vertex_row S (vertex4 S.missing n xs i))

  unfoldable pub type5_mesh : ℕ → Source A B → ℕ → List A → Finished B
  type5_mesh row_length S n xs = finished (lattice (length xs / (n + 2)) row_length) (λ (i : ℕ). vertex_row S (vertex5 S.missing n xs i))

-- ---- Types 6 and 7

-- how many numbers follow a flag: two to a point, n to a colour
abbrev pub size_after : ℕ → ℕ → ℕ → ℕ
size_after own n f = 2 * points_after own f + colours_after f * n

module _ {A : Type 0} (d : A) where
  -- k times m numbers, from index from
  unfoldable pub groups : List A → ℕ → ℕ → ℕ → List (List A)
  groups xs from k m = joined k (λ (i : ℕ). part d xs (from + i * m) m ∷ [])

  -- the record with flag f and the numbers xs after it
  abbrev pub piece : ℕ → ℕ → ℕ → List A → Piece (List A) (List A)
  piece own n f xs =
      record { flag = f; body = patch (groups xs 0 (points_after own f) 2) (groups xs (2 * points_after own f) (colours_after f) n) }

  -- the whole records that xs begins with, k at most
  unfoldable pub pieces_to : (A → ℕ) → ℕ → ℕ → ℕ → List A → List (Piece (List A) (List A))
  pieces_to flag_of own n zero xs = []
  pieces_to flag_of own n (suc k) [] = []
  pieces_to flag_of own n (suc k) (x ∷ xs) =
      cond (leb (size_after own n (flag_of x)) (length xs))
      (piece own n (flag_of x) xs ∷ pieces_to flag_of own n k (drop (size_after own n (flag_of x)) xs))
      []

  unfoldable pub pieces : (A → ℕ) → ℕ → ℕ → List A → List (Piece (List A) (List A))
  pieces flag_of own n xs = pieces_to flag_of own n (length xs) xs

  unfoldable pub patches : Table → (A → ℕ) → ℕ → ℕ → List A → List (Patch (List A) (List A))
  patches T flag_of own n xs = mesh T none (pieces flag_of own n xs)

-- a joined patch has so many points of its own: 8 in Type 6, 12 in Type 7
unfoldable pub patch_mesh : {A B : Type 0} → Table → ℕ → Source A B → ℕ → List A → Finished B
patch_mesh T own S n xs =
    let ps : List (Patch (List _) (List _)) = patches S.missing T S.flag own n xs in
    record { count = length ps; numbers = flat (patch_row S.point S.colour) ps }
