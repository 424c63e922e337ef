-- In every function of the archive the room lent decides nothing but ROOM. So `second_call` of answers holds of each: lent what ROOM told, the same call
-- writes all of it. Assumes nothing.
use Prim.Native.Nat.{ℕ}
use mathlib.Core.Path.{refl}
use mathlib.Core.Bool.{Bool, false, not}
use mathlib.Core.List.{List, []}
use mathlib.Core.Option.{Option, none, some}
use native.Mathlib.Omega.{arith}
use lib.Dec.{ltb}
use lib.ListN.{length}
use lib.Ieee.{Float}
use Rattle.lists.specs.Lists.{flat}
use Rattle.answers.specs.declared.Refusal.TheVariants.{Layout, Components, Length, Record, Thin}
use Rattle.answers.specs.Limits.{most_components, most_bytes, most_numbers}
use Rattle.answers.proofs.Asking.{ByRoom, never, by_fitting, by_refusing}
use Rattle.records.specs.declared.shape.Kind.{Kind}
use Rattle.records.specs.Layout.{widths_readable, layout_readable}
use Rattle.records.specs.Format.{format, raw_reading}
use Rattle.records.specs.Raw.{raw_read}
use Rattle.packing.specs.Packed.{bytes, packed}
use Rattle.packing.specs.Writer.{thin, in_bytes, raw_write}
use Rattle.rules.specs.Patches.{Patch}
use Rattle.rules.specs.Meshes.{Source, Finished}
use Rattle.meshes.specs.Decoded.{as_listed}
use Rattle.meshes.specs.Outcomes.{Stream, raw_of, decode_of, parsed, built}
use Rattle.tensor.specs.Turning.{Turning, tensor_patch, numbers_of}
use Rattle.tensor.specs.Outcomes.{turned, coons_to_tensor_raw, coons_to_tensor}

-- the eight readers of meshes, by `parse4` to `parse7`
pub readers : (m : Stream) (mesh : Source ℕ Float → ℕ → List ℕ → Finished Float) (s : List ℕ) → ByRoom (parsed m mesh s)
unfolding parsed
readers m mesh s =
    let M : Finished Float = mesh (decode_of m) m.n (raw_of m s) in
    by_refusing (not (layout_readable m.coord m.comp m.flag (length m.entries))) Layout (λ z. omega arith)
    (by_refusing (ltb most_components m.n) Components (λ z. omega arith)
    (by_refusing (ltb most_bytes (length s)) Length (λ z. omega arith) (by_fitting M.count M.numbers)))

-- the eight builders, by `build4` to `build7`
pub builders : (mesh : Source Float Float → ℕ → List Float → Finished Float) (n : ℕ) (vs : List Float) → ByRoom (built mesh n vs)
unfolding built
builders mesh n vs =
    let M : Finished Float = mesh as_listed n vs in
    by_refusing (ltb most_components n) Components (λ z. omega arith)
    (by_refusing (ltb most_numbers (length vs)) Length (λ z. omega arith) (by_fitting M.count M.numbers))

pub raw_readers : (kind : Kind) (first coord comp n : ℕ) (s : List ℕ) → ByRoom (raw_read kind first coord comp n s)
unfolding raw_read
raw_readers kind first coord comp n s =
    let xs : List ℕ = raw_reading (format kind first coord comp n) s in
    by_refusing (not (widths_readable first coord comp)) Layout (λ z. omega arith)
    (by_refusing (ltb most_components n) Components (λ z. omega arith)
    (by_refusing (ltb most_bytes (length s)) Length (λ z. omega arith) (by_fitting (length xs) xs)))

in_bytes_lem : (o : Option (List ℕ)) → ByRoom (in_bytes o)
unfolding in_bytes
in_bytes_lem none = never Record (λ z. omega arith) (λ room. refl)
in_bytes_lem (some bits) = by_fitting (length (bytes bits)) (bytes bits)

pub raw_writers : (kind : Kind) (first coord comp n : ℕ) (xs : List ℕ) → ByRoom (raw_write kind first coord comp n xs)
unfolding raw_write
raw_writers kind first coord comp n xs =
    by_refusing (not (widths_readable first coord comp)) Layout (λ z. omega arith)
    (by_refusing (ltb most_components n) Components (λ z. omega arith)
    (by_refusing (ltb most_numbers (length xs)) Length (λ z. omega arith)
    (by_refusing (thin kind first coord comp n) Thin (λ z. omega arith) (in_bytes_lem (packed (format kind first coord comp n) false [] xs)))))

-- the two that turn Coons patches
turning : {A B : Type 0} (T : Turning A B) (n size : ℕ) (whole : Bool) (ps : List (Patch (List A) (List A))) → ByRoom (turned T n size whole ps)
unfolding turned
turning T n size whole ps =
    by_refusing (ltb most_components n) Components (λ z. omega arith)
    (by_refusing (ltb most_numbers size) Length (λ z. omega arith)
    (by_refusing (not whole) Record (λ z. omega arith) (by_fitting (length ps) (flat (λ p. numbers_of (tensor_patch T p)) ps))))

pub turning_raw : (n : ℕ) (xs : List ℕ) → ByRoom (coons_to_tensor_raw n xs)
unfolding coons_to_tensor_raw
turning_raw n xs = turning _ _ _ _ _

pub turning_read : (n : ℕ) (vs : List Float) → ByRoom (coons_to_tensor n vs)
unfolding coons_to_tensor
turning_read n vs = turning _ _ _ _ _
