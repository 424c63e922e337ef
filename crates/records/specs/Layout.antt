-- Which layouts can be read: document 01, "Refusal numbers", LAYOUT.
use Rattle.std.specs.Prelude.{ℕ, Bool, ◌&&◌, leb, Option, Some, None}
use Rattle.bits.specs.Reading.{readable}

-- the width of a record's first number: a flag, or x in Type 5, which has none
abbrev pub first_width : Option ℕ → ℕ → ℕ
first_width None coord = coord
first_width (Some flag) coord = flag

-- every width that the type uses is within 1..32; the component width counts even with no components
unfoldable pub widths_readable : ℕ → ℕ → ℕ → Bool
widths_readable first coord comp = readable coord && (readable comp && readable first)

-- in the binary readers Decode has four entries at least, too
unfoldable pub layout_readable : ℕ → ℕ → Option ℕ → ℕ → Bool
layout_readable coord comp flag entries = widths_readable (first_width flag coord) coord comp && leb 4 entries
