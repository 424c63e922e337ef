-- The digest of a list of numbers. One wrong number always changes the first sum; the second tells the order of the numbers too.
use Rattle.std.specs.Prelude.{ℕ, ◌+◌, ◌%◌, ◌^◌, List, [], ◌∷◌, to_bits, Float}
use Rattle.std.specs.Float.{nan, inf, fin, binary64}
use Rattle.replay.specs.declared.digests.Sums.{Sums}

-- a number's bits, and those of one NaN for all
unfoldable pub pattern_of : Float → ℕ
pattern_of nan = 9221120237041090560
pattern_of (inf s) = to_bits binary64 (inf s)
pattern_of (fin s m e) = to_bits binary64 (fin s m e)

-- with one number more
unfoldable pub more : Sums → Float → Sums
more d x =
    let first : ℕ = (d.first + pattern_of x) % 2 ^ 64 in
    record { first = first; second = (d.second + first) % 2 ^ 64 }

-- the sums d, with the numbers of a list
unfoldable pub sums_from : Sums → List Float → Sums
sums_from d [] = d
sums_from d (x ∷ xs) = sums_from (more d x) xs

abbrev pub digest : List Float → Sums
digest xs = sums_from (record { first = 0; second = 0 }) xs
