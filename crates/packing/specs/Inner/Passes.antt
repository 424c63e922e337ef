-- What the writer's inner functions promise one another.
use Rattle.std.specs.Prelude.{Some, None, ◌≡◌, Bool, true, ◌&&◌, List, [], ◌∷◌, ◌++◌, ℕ, ◌+◌, ◌*◌, ◌^◌, ◌≤◌, ltb, leb, length, take, drop, get_or}
use Rattle.std.proofs.Math.Option.{Option, none, some}
use Rattle.lists.specs.Lists.{AllBelow, flat}
use Rattle.lists.specs.Writing.{Written}
use Rattle.bits.specs.Bits.{bits_of, stream}
use Rattle.records.specs.declared.mesh.Mesh.{Mesh}
use Rattle.packing.specs.declared.waiting.Waiting.{Waiting}
use Rattle.packing.specs.Packed.{bytes}
use Rattle.packing.specs.Inner.Measure.{Measured}

-- ---- a list, run by run

-- count numbers from an index on
abbrev pub run_at : List ℕ → ℕ → ℕ → List ℕ
run_at xs from count = take count (drop from xs)

-- every number fits w bits
unfoldable pub fits : ℕ → List ℕ → Bool
fits w [] = true
fits w (x ∷ xs) = ltb x (2 ^ w) && fits w xs

-- the bits of numbers of one width
abbrev pub run_bits : ℕ → List ℕ → List ℕ
run_bits w xs = flat (bits_of w) xs

-- ---- a record: its first number, so many coordinates and components

-- the record at index i is there, and each number of it fits
abbrev pub record_fits : Mesh → ℕ → ℕ → List ℕ → ℕ → Bool
record_fits m coords comps xs i =
    leb (i + (1 + coords + comps)) (length xs)
    && (ltb (get_or xs i 0) (2 ^ m.first)
    && (fits m.coord (run_at xs (i + 1) coords)
    && fits m.comp (run_at xs (i + 1 + coords) comps)))

abbrev pub record_bits : Mesh → ℕ → ℕ → List ℕ → ℕ → List ℕ
record_bits m coords comps xs i =
    bits_of m.first (get_or xs i 0)
    ++ (run_bits m.coord (run_at xs (i + 1) coords)
    ++ run_bits m.comp (run_at xs (i + 1 + coords) comps))

-- ---- the two passes

-- what the first pass finds
unfoldable pub measure_of : Option (List ℕ) → Measured
measure_of none = None
measure_of (some bits) = Some (length bits)

-- the list is accepted, and its bits have room in so many bytes
unfoldable pub Roomy : Option (List ℕ) → ℕ → Type 0
Roomy none room = ⊥
Roomy (some bits) room = length bits ≤ 8 * room

-- the bytes of a list that is accepted have been written
unfoldable pub Filled : Option (List ℕ) → List ℕ → List ℕ → ℕ → Type 0
Filled none entry exit p = ⊥
Filled (some bits) entry exit p = Written entry exit 0 (bytes bits) p

-- so many bytes have been stored from an index: the low digits of a number
pub record Stored (entry exit : List ℕ) (at count number : ℕ) : Type 0 where
  pub bytes : List ℕ
  pub written : Written entry exit at bytes (at + count)
  pub clean : AllBelow 256 bytes
  pub same : stream bytes ≡ bits_of (8 * count) number

-- bits have been put: from the bits that waited, some bytes have gone out, and others wait
pub record Put (a b : Waiting) (entry exit bits : List ℕ) : Type 0 where
  pub bytes : List ℕ
  pub written : Written entry exit a.at bytes b.at
  pub clean : AllBelow 256 bytes
  pub same : stream bytes ++ bits_of b.count b.bits ≡ bits_of a.count a.bits ++ bits
