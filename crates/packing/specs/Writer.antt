-- What a raw writer answers and leaves, for every input: document 01, "Refusal numbers".
use Rattle.std.specs.Prelude.{Bool, false, not, List, [], ℕ, ◌+◌, ◌*◌, ltb, length}
use Rattle.std.proofs.Math.Option.{Option, none, some}
use Rattle.answers.specs.declared.Refusal.TheVariants.{Layout, Components, Length, Record, Thin}
use Rattle.answers.specs.Limits.{most_components, most_numbers}
use Rattle.answers.specs.Outcome.{Outcome, refused, refuse_if, fitted}
use Rattle.records.specs.declared.shape.Kind.{Kind}
use Rattle.records.specs.declared.shape.Kind.TheVariants.{Four, Five, Six, Seven}
use Rattle.records.specs.Layout.{widths_readable}
use Rattle.records.specs.Format.{format}
use Rattle.packing.specs.Packed.{bytes, packed}

-- THIN: in Types 4 and 5 one vertex takes under 8 bits
unfoldable pub thin : Kind → ℕ → ℕ → ℕ → ℕ → Bool
thin Four first coord comp n = ltb (first + (2 * coord + n * comp)) 8
thin Five first coord comp n = ltb (first + (coord + n * comp)) 8
thin Six first coord comp n = false
thin Seven first coord comp n = false

-- RECORD, ROOM; then the bytes, and how many there are
unfoldable pub in_bytes : Option (List ℕ) → ℕ → Outcome ℕ
in_bytes none room = refused Record
in_bytes (some bits) room = fitted (length (bytes bits)) (bytes bits) room

-- LAYOUT, COMPONENTS, LENGTH, THIN, RECORD, ROOM; then the bytes of the raw numbers xs. Of Type 5, first is coord.
unfoldable pub raw_write : Kind → ℕ → ℕ → ℕ → ℕ → List ℕ → ℕ → Outcome ℕ
raw_write kind first coord comp n xs room =
    refuse_if (not (widths_readable first coord comp)) Layout
    (refuse_if (ltb most_components n) Components
    (refuse_if (ltb most_numbers (length xs)) Length
    (refuse_if (thin kind first coord comp n) Thin
    (in_bytes (packed (format kind first coord comp n) false [] xs) room))))
