-- The numbers of a mesh, by where they stand: in bits, or in a list, in which each takes one place. And the ranges of Decode in one list.
use Rattle.std.specs.Prelude.{ℕ, ◌*◌, List, [], ◌∷◌, length, get_or, Float, Option, Some, None}
use Rattle.std.specs.Int.Bits.{bit_and}
use Rattle.std.specs.Float.{nan}
use Rattle.lists.specs.Lists.{joined}
use Rattle.bits.specs.declared.BitPos.{BitPos}
use Rattle.bits.specs.Bits.{field_at}
use Rattle.bits.specs.Reading.{read_at}
use Rattle.decode.specs.declared.Range.{Range}
use Rattle.decode.specs.Decode.{Ranges, ranges, flag_of}
use Rattle.colour.specs.Inner.Places.{Numbers, bit_numbers, list_numbers}
use Rattle.rows.specs.declared.Source.{Source}
use Rattle.rows.specs.declared.Source.TheVariants.{Bits, List as Listed}

-- how many places there are: bits, or numbers
abbrev pub places : Source → ℕ
places (Bits s) = 8 * length s.now
places (Listed vs) = length vs.now

-- how many places a number of so many bits takes
abbrev pub width_in : Source → ℕ → ℕ
width_in (Bits s) width = width
width_in (Listed vs) width = 1

-- the numbers by their places
unfoldable pub numbers_of : Source → Ranges → Numbers
numbers_of (Bits s) R = bit_numbers s.now R
numbers_of (Listed vs) R = list_numbers vs.now

-- ---- flags

-- what a flag means where only the bits of a mask count
abbrev pub masked : ℕ → ℕ → ℕ
masked mask x = bit_and x mask

-- which bits of a flag count
abbrev pub mask_in : Source → ℕ → ℕ
mask_in (Bits s) mask = mask
mask_in (Listed vs) mask = 4294967295

-- what the flag of so many bits at a place means, where there is one; that of a list is left whole
unfoldable pub flag_in : Source → ℕ → ℕ → ℕ → ℕ
flag_in (Bits s) width mask p = masked mask (field_at s.now p width)
flag_in (Listed vs) width mask p = flag_of (get_or vs.now p nan)

abbrev pub number_read : Option (ℕ × BitPos) → ℕ
number_read (Some number) = number.0
number_read None = 0

-- the flag at any place as a whole number; 0 where there is none
unfoldable pub flag_at : Source → ℕ → ℕ → ℕ
flag_at (Bits s) width p = number_read (read_at s.now p width)
flag_at (Listed vs) width p = flag_of (get_or vs.now p nan)

-- ---- ranges in a list

-- x, y and as many components as a record may have
abbrev pub kinds : ℕ
kinds = 34

unfoldable pub range_list : List Float → ℕ → ℕ → List Range
range_list entries coord comp = joined kinds (λ (k : ℕ). ranges entries coord comp k ∷ [])

-- the ranges that such a list holds
abbrev pub held_ranges : List Range → Ranges
held_ranges l kind = get_or l kind (record { min = nan; scale = nan })

-- such a list, which held entry, once it is filled: with Decode's ranges for bits, while the numbers of a list need none
abbrev pub filled_ranges : Source → List Range → List Range → List Range
filled_ranges (Bits s) filled entry = filled
filled_ranges (Listed vs) filled entry = entry
