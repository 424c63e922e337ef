-- What the two functions answer and leave, for every input: document 02, Wish 2.
use Rattle.std.specs.Prelude.{ℕ, zero, suc, ◌+◌, ◌*◌, ◌/◌, ◌%◌, Bool, true, false, not, ◌&&◌, List, [], ◌∷◌, leb, ltb, eqb, ℤ, Float, length, drop, Some, None}
use Rattle.std.specs.Float.{nan}
use Rattle.lists.specs.Lists.{joined, flat}
use Rattle.answers.specs.declared.Refusal.TheVariants.{Components, Length, Record}
use Rattle.answers.specs.Limits.{most_components, most_numbers}
use Rattle.answers.specs.Outcome.{Outcome, refuse_if, fitted}
use Rattle.records.specs.declared.shape.Kind.TheVariants.{Six}
use Rattle.records.specs.Format.{shape_of}
use Rattle.rules.specs.Patches.{Patch, patch, sides}
use Rattle.rules.specs.Meshes.{groups, patches}
use Rattle.tensor.specs.Turning.{Turning, raw, rounded, tensor_patch, numbers_of}

-- COMPONENTS; LENGTH, by how many numbers there are; RECORD, where they aren't whole; ROOM; then the patches, each turned, and how many there are
unfoldable pub turned : {A B : Type 0} → Turning A B → ℕ → ℕ → Bool → List (Patch (List A) (List A)) → ℕ → Outcome B
turned T n size whole ps room =
    refuse_if (ltb most_components n) Components
    (refuse_if (ltb most_numbers size) Length
    (refuse_if (not whole) Record
    (fitted (length ps) (flat (λ p. numbers_of (tensor_patch T p)) ps) room)))

-- ---- raw numbers

-- The list is whole records, k at most, whose flags keep the writer's rule; `started` says whether a record came before.
unfoldable pub whole_records : ℕ → ℕ → Bool → List ℕ → Bool
whole_records zero n started [] = true
whole_records zero n started (x ∷ xs) = false
whole_records (suc k) n started [] = true
whole_records (suc k) n started (x ∷ xs) =
    elim (shape_of Six started x) [
      | Some shape ↦ leb (shape.coords + shape.colours * n) (length xs) && whole_records k n true (drop (shape.coords + shape.colours * n) xs)
      | None ↦ false
    ]

-- the patches of a raw Type 6 list, its sides filled in
unfoldable pub coons_to_tensor_raw : ℕ → List ℕ → ℕ → Outcome ℤ
coons_to_tensor_raw n xs room =
    turned raw n (length xs) (whole_records (length xs) n false xs) (patches 0 sides (λ x. x) 8 n xs) room

-- ---- f64

-- how many numbers a reader writes for a Type 6 patch: twelve points, and four colours of 8 + n numbers
abbrev pub coons_size : ℕ → ℕ
coons_size n = 24 + 4 * (8 + n)

-- the patches that stand in a reader's answer
unfoldable pub read_patches : ℕ → List Float → List (Patch (List Float) (List Float))
read_patches n vs =
    joined (length vs / coons_size n)
    (λ (k : ℕ). patch (groups nan vs (k * coons_size n) 12 2) (groups nan vs (k * coons_size n + 24) 4 (8 + n)) ∷ [])

unfoldable pub coons_to_tensor : ℕ → List Float → ℕ → Outcome Float
coons_to_tensor n vs room = turned rounded n (length vs) (eqb (length vs % coons_size n) 0) (read_patches n vs) room
