-- The sums as they run: one number more. Assumes nothing.
use Rattle.std.proofs.Common.{◌≡◌, ℕ, ◌+◌, ◌<◌, List, length, get_or, drop, add-one, drop-cons}
use lib.Seq.{drop-length}
use lib.Ieee.{Float, nan}
use Rattle.replay.specs.declared.digests.Sums.{Sums}
use Rattle.replay.specs.Digest.{more, sums_from}

pub sums_more : (d : Sums) (xs : List Float) (i : ℕ) (whole : Sums) → i < length xs → sums_from d (drop i xs) ≡ whole
    → sums_from (more d (get_or xs i nan)) (drop (i + 1) xs) ≡ whole
unfolding sums_from
sums_more d xs i whole h e = rw add-one (rw (drop-cons xs i nan h) at e)

pub sums_end : (d : Sums) (xs : List Float) → sums_from d (drop (length xs) xs) ≡ d
unfolding sums_from
sums_end d xs = rw drop-length
