-- Which lists of raw numbers a writer accepts, and the bytes that it packs them into: document 01, "Records, binary" and RECORD.
use Rattle.std.specs.Prelude.{Bool, true, cond, List, [], ◌∷◌, ◌++◌, ℕ, ◌^◌, zero, suc, ◌+◌, ◌-◌, ◌*◌, ◌/◌, ltb, length, take, drop, replicate}
use Rattle.std.proofs.Math.Option.{Option, none, some, map}
use Rattle.bits.specs.Bits.{bits_of, number}
use Rattle.records.specs.Format.{Format}

-- the bits b, then those of the rest, if the rest is accepted
abbrev pub prefixed : List ℕ → Option (List ℕ) → Option (List ℕ)
prefixed b rest = map (λ (r : List ℕ). b ++ r) rest

-- the w bits of a number, then the rest; none: the number doesn't fit its width
unfoldable pub field : ℕ → ℕ → Option (List ℕ) → Option (List ℕ)
field w x rest = cond (ltb x (2 ^ w)) (prefixed (bits_of w x) rest) none

-- The bits of a list of raw numbers. `due` are the widths that the record begun still wants. none: a number doesn't fit its width, the list
-- ends inside a record, or a record begins with a flag at which the mesh ends (above 3; or not 0, where no record came before).
unfoldable pub packed : Format → Bool → List ℕ → List ℕ → Option (List ℕ)
packed F started [] [] = some []
packed F started (w ∷ due) [] = none
packed F started [] (x ∷ xs) = elim (F.more started x) [ none ↦ none | some due ↦ field F.first x (packed F true due xs) ]
packed F started (w ∷ due) (x ∷ xs) = field w x (packed F started due xs)

-- how many bytes hold so many bits
abbrev pub byte_count : ℕ → ℕ
byte_count count = (count + 7) / 8

-- so many bytes, of eight bits each
unfoldable pub octets : ℕ → List ℕ → List ℕ
octets zero bits = []
octets (suc k) bits = number (take 8 bits) ∷ octets k (drop 8 bits)

-- the bytes that hold bits, the last filled with zeros
unfoldable pub bytes : List ℕ → List ℕ
bytes bits =
    let k : ℕ = byte_count (length bits) in
    octets k (bits ++ replicate (8 * k - length bits) 0)
