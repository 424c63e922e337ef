-- What can follow the first number of a record, in each mesh type. Assumes nothing.
use mathlib.Core.Path.{◌≡◌, refl, sym}
use mathlib.Core.List.{List, ◌++◌}
use mathlib.Core.Option.{some, none-ne-some, some-injective}
use Prim.Native.Nat.{ℕ, ◌*◌, ◌≤◌}
use native.Mathlib.Nat.{mul-le-mul_left}
use native.Mathlib.Omega.{arith}
use lib.ListN.{replicate}
use Rattle.std.specs.Prelude.{Some, None}
use Rattle.records.specs.Following.{Following, follows}
use Rattle.records.specs.Format.{widths_of}

-- a product with a number of at most 32
pub times_few : (a b : ℕ) → b ≤ 32 → a * b ≤ 32 * a
times_few a b h = omega (arith, mul-le-mul_left a h)

-- a record whose widths are known
pub follows_some : (coord comp n : ℕ) (shape : Following) (due : List ℕ) → widths_of coord comp n shape ≡ some due
    → (coords colours : ℕ) × (shape ≡ follows coords colours) × (due ≡ replicate coords coord ++ replicate (colours * n) comp)
follows_some coord comp n (Some shape) due e = (shape.coords, shape.colours, refl, sym (some-injective _ _ e))
follows_some coord comp n None due e = absurd (none-ne-some due e)
