-- Decode: document 01, "Numbers and colours"; ISO 32000-1, 8.9.5.2. Each operation is rounded once, in the order written here. And the flag that a
-- float stands for.
use Rattle.std.specs.Prelude.{ℕ, ◌+◌, ◌-◌, ◌*◌, ◌^◌, cond, List, pos, nat_lt, slice_index_or, Float}
use Rattle.std.specs.Float.{binary64}
use Rattle.std.specs.Float.Ieee.{add, sub, mul, div, of_int, to_unsigned}
use Rattle.bits.specs.Reading.{readable}
use Rattle.decode.specs.declared.Range.{Range}
use Rattle.decode.specs.Floats.{float0, float1}

-- (max - min) / (2 ^ w - 1), and 0.0 for a width that no layout has
unfoldable pub scale_of : ℕ → Float → Float → Float
scale_of w min max = cond (readable w) (div binary64 (sub binary64 max min) (of_int binary64 (pos (2 ^ w - 1)))) float0

-- min + raw * scale
abbrev pub value_of : ℕ → Float → Float → Float
value_of raw scale min = add binary64 min (mul binary64 (of_int binary64 (pos raw)) scale)

-- The entries of Decode are xmin xmax ymin ymax c0min c0max ..: kind 0 is x, kind 1 is y, and kind 2 + i is component i, with the entries
-- 4 + 2i and 5 + 2i. A missing entry is 0.0 for the least and 1.0 for the greatest.
abbrev pub min_of : List Float → ℕ → Float
min_of entries kind = slice_index_or entries (2 * kind) float0

abbrev pub max_of : List Float → ℕ → Float
max_of entries kind = slice_index_or entries (2 * kind + 1) float1

-- the range of a kind at a width
abbrev pub range_of : List Float → ℕ → ℕ → Range
range_of entries kind w =
    record { min = min_of entries kind; scale = scale_of w (min_of entries kind) (max_of entries kind) }

-- where the numbers of each kind start, and how far apart they are
abbrev pub Ranges : Type 0
Ranges = ℕ → Range

-- of Decode's entries, at the widths of a coordinate and a component
abbrev pub ranges : List Float → ℕ → ℕ → Ranges
ranges entries coord comp kind = range_of entries kind (cond (nat_lt kind 2) coord comp)

-- Document 01, "Records, number list": Rust's `as u32`: fraction cut off, NaN and below 0 to 0, too large to the largest
abbrev pub flag_of : Float → ℕ
flag_of x = to_unsigned 32 x
