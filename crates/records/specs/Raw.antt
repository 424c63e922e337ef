-- What a raw reader answers and leaves, for every input: document 01, "Refusal numbers".
use Rattle.std.specs.Prelude.{not, List, ℕ, ltb, length}
use Rattle.answers.specs.declared.Refusal.TheVariants.{Layout, Components, Length}
use Rattle.answers.specs.Limits.{most_components, most_bytes}
use Rattle.answers.specs.Outcome.{Outcome, refuse_if, fitted}
use Rattle.records.specs.declared.shape.Kind.{Kind}
use Rattle.records.specs.Layout.{widths_readable}
use Rattle.records.specs.Format.{format, raw_reading}

-- LAYOUT, COMPONENTS, LENGTH, ROOM; then the raw reading of the bytes s, and how many numbers it has. Of Type 5, first is coord.
unfoldable pub raw_read : Kind → ℕ → ℕ → ℕ → ℕ → List ℕ → ℕ → Outcome ℕ
raw_read kind first coord comp n s room =
    let xs : List ℕ = raw_reading (format kind first coord comp n) s in
    refuse_if (not (widths_readable first coord comp)) Layout
    (refuse_if (ltb most_components n) Components
    (refuse_if (ltb most_bytes (length s)) Length
    (fitted (length xs) xs room)))
