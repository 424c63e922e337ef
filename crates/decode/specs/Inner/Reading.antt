-- What the readers of stored numbers answer for every input.
use Rattle.std.specs.Prelude.{ℕ, ◌+◌, ◌*◌, ◌/◌, ◌&&◌, cond, List, length, min, nat_le, Float}
use Rattle.lists.specs.Writing.{put}
use Rattle.decode.specs.Stored.{big_endian, floats_at}

-- the number of at most 8 bytes, else 0
unfoldable pub big_endian_or0 : List ℕ → ℕ
big_endian_or0 s = cond (nat_le (length s) 8) (big_endian s 0 (length s)) 0

-- entry with the floats of s at its front, as many as there is room for
unfoldable pub with_floats : List Float → List ℕ → List Float
with_floats entry s = put entry 0 (floats_at s 0 (min (length s / 8) (length entry)))

-- the same of k bytes from an index on, where all of them are there
unfoldable pub big_endian_at_or0 : List ℕ → ℕ → ℕ → ℕ
big_endian_at_or0 s at k = cond (nat_le k 8 && nat_le (at + k) (length s)) (big_endian s at k) 0

unfoldable pub with_floats_at : List Float → List ℕ → ℕ → ℕ → List Float
with_floats_at entry s at k = cond (nat_le (at + 8 * k) (length s) && nat_le k (length entry)) (put entry 0 (floats_at s at k)) entry
