-- A number's bits, where it is a NaN and where it is none. Assumes nothing.
use Rattle.std.proofs.Common.{◌≡◌, true, false, refl}
use lib.Ieee.{Float, nan, inf, fin, binary64, is_nan, to_bits}
use Rattle.replay.specs.Digest.{pattern_of}

pub pattern_at_nan : (x : Float) → true ≡ is_nan x → 9221120237041090560 ≡ pattern_of x
unfolding is_nan pattern_of
pattern_at_nan nan h = refl
pattern_at_nan (inf s) h = absurd cc
pattern_at_nan (fin s m e) h = absurd cc

pub pattern_off_nan : (x : Float) → false ≡ is_nan x → to_bits binary64 x ≡ pattern_of x
unfolding is_nan pattern_of
pattern_off_nan nan h = absurd cc
pattern_off_nan (inf s) h = refl
pattern_off_nan (fin s m e) h = refl
