-- The records of the four mesh types, and the raw reading of bytes: document 01, "Records, binary".
use Rattle.std.specs.Prelude.{Some, None, Bool, true, false, ◌&&◌, ◌||◌, cond, List, [], ◌∷◌, ◌++◌, ℕ, zero, suc, ◌+◌, ◌*◌, ◌%◌, leb, eqb, length, take, drop, replicate}
use Rattle.std.proofs.Math.Option.{Option, none, some}
use Rattle.bits.specs.Bits.{number, stream}
use Rattle.records.specs.declared.shape.Kind.{Kind}
use Rattle.records.specs.declared.shape.Kind.TheVariants.{Four, Five, Six, Seven}
use Rattle.records.specs.Following.{Following, follows, ends}

-- ---- numbers side by side

unfoldable pub sum : List ℕ → ℕ
sum [] = 0
sum (w ∷ ws) = w + sum ws

-- the numbers of the given widths that bits begin with
unfoldable pub numbers : List ℕ → List ℕ → List ℕ
numbers [] bits = []
numbers (w ∷ ws) bits = number (take w bits) ∷ numbers ws (drop w bits)

-- ---- a flag

-- What a flag means, by the number read. The ported reading, the raw readers, the writers and the lists take the whole number. ISO 32000-1 uses
-- only the least significant two bits (8.7.4.5.5 and 8.7.4.5.7), and so does the published reading of bytes.
abbrev pub Meaning : Type 0
Meaning = ℕ → ℕ

abbrev pub whole_number : Meaning
whole_number x = x

abbrev pub two_low_bits : Meaning
two_low_bits x = x % 4

-- ---- a mesh type

-- A mesh type at given widths. Each record begins with a number of `first` bits. `more started x` has the widths of what follows the
-- first number x; none: the mesh ends there. `started` says whether a record came before.
pub record Format : Type 0 where
  pub first : ℕ
  pub more : Bool → ℕ → Option (List ℕ)

-- how many points and colours follow a flag, where a joined patch has so many points of its own: 8 in Type 6, 12 in Type 7
abbrev pub points_after : ℕ → ℕ → ℕ
points_after own zero = 4 + own
points_after own (suc flag) = own

abbrev pub colours_after : ℕ → ℕ
colours_after zero = 4
colours_after (suc flag) = 2

-- Types 6 and 7: they follow flag 0, and flags 1 to 3 once there is a patch; else the mesh ends
abbrev pub patch_shape : ℕ → Bool → ℕ → Following
patch_shape own started flag =
    cond (eqb flag 0 || (started && leb flag 3)) (follows (2 * points_after own flag) (colours_after flag)) ends

-- how many coordinates and colours follow a record's first number: x and y after a Type 4 flag, y after a Type 5 x
abbrev pub shape_of : Kind → Bool → ℕ → Following
shape_of Four started x = follows 2 1
shape_of Five started x = follows 1 1
shape_of Six started x = patch_shape 8 started x
shape_of Seven started x = patch_shape 12 started x

-- their widths, with n components to a colour
abbrev pub widths_of : ℕ → ℕ → ℕ → Following → Option (List ℕ)
widths_of coord comp n (Some shape) = some (replicate shape.coords coord ++ replicate (shape.colours * n) comp)
widths_of coord comp n None = none

-- a mesh type, where a record's first number, if it is a flag, has a meaning
abbrev pub format_by : Meaning → Kind → ℕ → ℕ → ℕ → ℕ → Format
format_by flag kind first coord comp n =
    record { first = first; more = λ started x. widths_of coord comp n (shape_of kind started (flag x)) }

-- a mesh type, where a flag is the whole number
abbrev pub format : Kind → ℕ → ℕ → ℕ → ℕ → Format
format kind first coord comp n = format_by whole_number kind first coord comp n

-- ---- the raw reading: the numbers before Decode, flags included, complete records only

-- the widths h ∷ ws, if that many bits are there
unfoldable pub whole : ℕ → ℕ → Option (List ℕ) → Option (List ℕ)
whole h l none = none
whole h l (some ws) = cond (leb (h + sum ws) l) (some (h ∷ ws)) none

-- the widths of the complete record that bits begin with; none: the reading ends here
unfoldable pub next : Format → Bool → List ℕ → Option (List ℕ)
next F started bits = whole F.first (length bits) (F.more started (number (take F.first bits)))

-- the numbers of the complete records that bits begin with, k records at most
unfoldable pub readings : Format → ℕ → Bool → List ℕ → List ℕ
readings F zero started bits = []
readings F (suc k) started bits =
    elim (next F started bits) [ none ↦ [] | some ws ↦ numbers ws bits ++ readings F k true (drop (sum ws) bits) ]

-- the raw reading of bytes. A record takes a bit at least, so there are no more records than bits
unfoldable pub raw_reading : Format → List ℕ → List ℕ
raw_reading F s = readings F (length (stream s)) false (stream s)
