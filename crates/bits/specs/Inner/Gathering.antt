-- What the reader's inner functions promise one another.
use Rattle.std.specs.Prelude.{ℕ, ◌*◌, ◌^◌, ◌<◌, ◌≡◌, List, take, drop}
use Rattle.bits.specs.Bits.{bits_of, stream}

-- r is the number of the bits of the count bytes from a byte place
pub record Gathers (s : List ℕ) (from count r : ℕ) : Type 0 where
  pub small : r < 2 ^ (8 * count)
  pub same : stream (take count (drop from s)) ≡ bits_of (8 * count) r
