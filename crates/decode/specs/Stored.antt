-- Numbers that a file stores high byte first, as document 01's "Dump program" has them. s is the file's bytes.
use Rattle.std.specs.Prelude.{ℕ, zero, suc, ◌+◌, ◌*◌, List, [], ◌∷◌, from_bits, slice_index, Float}
use Rattle.std.specs.Float.{binary64}
use Rattle.lists.specs.Lists.{joined}

-- the number that k bytes make from index at, high byte first
unfoldable pub big_endian : List ℕ → ℕ → ℕ → ℕ
big_endian s at zero = 0
big_endian s at (suc k) = 256 * big_endian s at k + slice_index s (at + k)

-- the k floats from index at on, 8 bytes each
unfoldable pub floats_at : List ℕ → ℕ → ℕ → List Float
floats_at s at k = joined k (λ (i : ℕ). from_bits binary64 (big_endian s (at + 8 * i) 8) ∷ [])
