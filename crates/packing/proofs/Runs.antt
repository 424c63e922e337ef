-- A run of numbers of one width: one number more, and the bits that it takes. Assumes nothing.
use mathlib.Core.Path.{◌≡◌, refl, sym}
use mathlib.Core.Bool.{Bool, true, false, ◌&&◌, and_assoc, and-true, false≢true}
use mathlib.Core.List.{List, [], ◌∷◌, ◌++◌}
use Prim.Native.Nat.{ℕ, zero, suc, ◌+◌, ◌*◌, ◌^◌, ◌≤◌, ◌<◌}
use native.Mathlib.Numerals.{add-one}
use native.Mathlib.Omega.{arith}
use lib.Bits.{bit_or, bit_and, or_lt, or_add_and, and_le_l, and_le_r}
use lib.Dec.{ltb}
use lib.Pow.{pow_pos}
use borrow.Author.Tests.{ltb-true, ltb-false, lt-ltb, le-ltb}
use lib.ListN.{length, get_or, take, drop, length-drop}
use lib.Seq.{take-suc, length-take-le}
use Rattle.lists.proofs.Pieces.{flat_more, length-flat}
use Rattle.bits.specs.Bits.{bits_of}
use Rattle.bits.proofs.Digits.{length-bits}
use Rattle.packing.specs.Inner.Passes.{run_at, fits, run_bits}

pub length_run : (xs : List ℕ) (from count : ℕ) → from + count ≤ length xs → length (run_at xs from count) ≡ count
length_run xs from count h = length-take-le count (drop from xs) (omega (arith, length-drop from xs))

run_more : (xs : List ℕ) (k : ℕ) → k < length xs → take (k + 1) xs ≡ take k xs ++ (get_or xs k 0 ∷ [])
run_more xs k h = rw (add-one, take-suc xs k 0 h)

pub and_left : (a b : Bool) → (a && b) ≡ true → a ≡ true
and_left true b e = refl
and_left false b e = e

pub and_right : (a b : Bool) → (a && b) ≡ true → b ≡ true
and_right true b e = e
and_right false b e = absurd (false≢true e)

-- ---- the bits of a run

pub run_bits-more : (w : ℕ) (xs : List ℕ) (k : ℕ) → k < length xs → run_bits w (take (k + 1) xs) ≡ run_bits w (take k xs) ++ bits_of w (get_or xs k 0)
run_bits-more w xs k h = rw (run_more xs k h) (flat_more (bits_of w) (take k xs) (get_or xs k 0))

pub length-run_bits : (w : ℕ) (xs : List ℕ) → length (run_bits w xs) ≡ length xs * w
length-run_bits w xs = length-flat (bits_of w) w xs (length-bits w)

-- ---- whether a run fits

fits_append : (w : ℕ) (xs ys : List ℕ) → fits w (xs ++ ys) ≡ (fits w xs && fits w ys)
unfolding fits
fits_append w [] ys = refl
fits_append w (x ∷ xs) ys = rw (fits_append w xs ys) (sym (and_assoc (ltb x (2 ^ w)) (fits w xs) (fits w ys)))

fits_more : (w : ℕ) (xs : List ℕ) (k : ℕ) → k < length xs → fits w (take (k + 1) xs) ≡ (fits w (take k xs) && ltb (get_or xs k 0) (2 ^ w))
unfolding fits
fits_more w xs k h = rw (run_more xs k h, fits_append w (take k xs) (get_or xs k 0 ∷ []), and-true)

-- every number of a run that fits
pub fits_at : (w : ℕ) (xs : List ℕ) (k : ℕ) → k < length xs → fits w xs ≡ true → get_or xs k 0 < 2 ^ w
unfolding fits
fits_at w [] k h e = absurd (omega arith)
fits_at w (x ∷ xs) zero h e = ltb-true x (2 ^ w) (and_left (ltb x (2 ^ w)) (fits w xs) e)
fits_at w (x ∷ xs) (suc k) h e = fits_at w xs k (omega arith) (and_right (ltb x (2 ^ w)) (fits w xs) e)

-- ---- the or of numbers fits exactly when each does

or_fits : (w a b : ℕ) → ltb (bit_or a b) (2 ^ w) ≡ (ltb a (2 ^ w) && ltb b (2 ^ w))
or_fits w a b = go (ltb a (2 ^ w)) (ltb b (2 ^ w)) refl refl
  where
    sum : bit_or a b + bit_and a b ≡ a + b
    sum = or_add_and a b

    go : (s t : Bool) → ltb a (2 ^ w) ≡ s → ltb b (2 ^ w) ≡ t → ltb (bit_or a b) (2 ^ w) ≡ (s && t)
    go true true p q = lt-ltb (bit_or a b) (2 ^ w) (or_lt w a b (ltb-true a (2 ^ w) p) (ltb-true b (2 ^ w) q))
    go true false p q = le-ltb (bit_or a b) (2 ^ w) (omega (arith, sum, and_le_l a b, ltb-false b (2 ^ w) q))
    go false t p q = le-ltb (bit_or a b) (2 ^ w) (omega (arith, sum, and_le_r a b, ltb-false a (2 ^ w) p))

pub or_none : (w : ℕ) → ltb 0 (2 ^ w) ≡ fits w []
unfolding fits
or_none w = lt-ltb 0 (2 ^ w) (pow_pos w)

pub or_more : (w r : ℕ) (xs : List ℕ) (k : ℕ) → k < length xs → ltb r (2 ^ w) ≡ fits w (take k xs)
    → ltb (bit_or r (get_or xs k 0)) (2 ^ w) ≡ fits w (take (k + 1) xs)
or_more w r xs k h e = rw (or_fits w r (get_or xs k 0), e) (sym (fits_more w xs k h))
