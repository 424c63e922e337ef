-- Bits are taken from the high end of each byte, bytes in order: document 01, "Bits". A bit is 0 or 1, a byte is below 256.
use Rattle.std.specs.Prelude.{ℕ, zero, suc, ◌+◌, ◌*◌, ◌/◌, ◌%◌, ◌^◌, List, [], ◌∷◌, ◌++◌, length, take, drop}

-- the w low binary digits of x, high first
unfoldable pub bits_of : ℕ → ℕ → List ℕ
bits_of zero x = []
bits_of (suc w) x = x / 2 ^ w % 2 ∷ bits_of w x

-- the number whose binary digits, high first, are the list's
unfoldable pub number : List ℕ → ℕ
number [] = 0
number (b ∷ bs) = b * 2 ^ length bs + number bs

-- the bits of a list of bytes
unfoldable pub stream : List ℕ → List ℕ
stream [] = []
stream (b ∷ bs) = bits_of 8 b ++ stream bs

-- the number of the w bits at bit p of the bytes s
unfoldable pub field_at : List ℕ → ℕ → ℕ → ℕ
field_at s p w = number (take w (drop p (stream s)))
