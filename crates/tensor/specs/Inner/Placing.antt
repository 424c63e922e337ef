-- The inner points as they are stored: along one axis after the other, each number at every second place. And a patch of f64 where it stands.
use Rattle.std.specs.Prelude.{ℕ, ◌+◌, List, [], ◌∷◌, map, set, Float}
use Rattle.std.specs.Float.{nan}
use Rattle.rules.specs.Patches.{Patch, patch}
use Rattle.rules.specs.Meshes.{groups}
use Rattle.tensor.specs.Formulas.{inner_at}
use Rattle.tensor.specs.Turning.{Turning, coordinate, inner_names}

-- l with xs at index at, at + 2 and on
abbrev pub spaced : {A : Type 0} → List A → ℕ → List A → List A
spaced l at [] = l
spaced l at (x ∷ xs) = spaced (set l at x) (at + 2) xs

-- the inner four along an axis, in the order of the stream, for the points of the border
abbrev pub inner_along : {A B : Type 0} → Turning A B → List (List A) → ℕ → List B
inner_along T points axis = map (inner_at T.inner (coordinate T.missing points axis)) inner_names

-- the patch of f64 that begins at index from
abbrev pub read_patch : ℕ → List Float → ℕ → Patch (List Float) (List Float)
read_patch n vs from = patch (groups nan vs from 12 2) (groups nan vs (from + 24) 4 (8 + n))
