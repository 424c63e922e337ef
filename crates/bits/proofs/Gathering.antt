-- Bytes put together into a number, and bits taken out of it. Assumes nothing.
use Prim.Native.Nat.{ℕ, zero, suc, ◌+◌, ◌-◌, ◌*◌, ◌/◌, ◌%◌, ◌^◌, ◌≤◌, ◌<◌}
use mathlib.Core.Path.{◌≡◌, refl, sym, ap, ◌∙◌, subst}
use mathlib.Core.List.{List, [], ◌∷◌, ◌++◌, append-nil}
use native.Mathlib.Nat.{add-zero, add_assoc, mul-add, one-mul, mod-lt, lt_of_lt_of_le, zero-add}
use native.Mathlib.Omega.{arith}
use lib.ListN.{length, take, drop, get_or, replicate, length-append}
use lib.Seq.{drop-drop, take-add, drop-cons, get_or-take, get_or-drop}
use Rattle.std.specs.Int.{w64, from_be_bytes}
use lib.Pow.{pow_pos, pow-add, pow_mono, shl_exact, shl-shr, shr-shr, field}
use lib.Arith.{digits_lt}
use lib.Bits.{bit_or, or_shifted}
use lib.Dec.{lit<}
use Rattle.bits.specs.Bits.{bits_of, number, stream, field_at}
use Rattle.bits.specs.Inner.Gathering.{Gathers}
use Rattle.bits.proofs.Digits.{number_bits, take-bits, drop_bits, bits_join}
use Rattle.bits.proofs.Streams.{stream_append, bytes_window, field_before}

-- no byte
pub gathers_none : (s : List ℕ) (from : ℕ) → Gathers s from 0 0
unfolding stream bits_of
gathers_none s from = record { small = omega arith; same = refl }

-- one byte
pub gathers_one : (s : List ℕ) (from : ℕ) → from < length s → get_or s from 0 < 256 → Gathers s from 1 (get_or s from 0)
unfolding stream
gathers_one s from h b = record { small = b; same = rw (drop-cons s from 0 h) (append-nil (bits_of 8 (get_or s from 0))) }

-- a bytes, and b right after them
pub gathers_join : {s : List ℕ} {from : ℕ} (a b : ℕ) {x y : ℕ} → Gathers s from a x → Gathers s (from + a) b y
    → Gathers s from (a + b) (x * 2 ^ (8 * b) + y)
gathers_join {s} {from} a b {x} {y} g h =
    record {
      small = rw (mul-add 8 a b, pow-add 2 (8 * a) (8 * b)) (digits_lt g.small h.small);
      same =
          rw (mul-add 8 a b, bits_join (8 * a) (8 * b) x y h.small, take-add a b (drop from s), stream_append, drop-drop, g.same, h.same) refl;
    }

-- how the code puts a number of k bits below another: a shift and an or, at a width that holds both
pub put_below : (w j k x y : ℕ) → x < 2 ^ j → j + k ≤ w → y < 2 ^ k → bit_or (x * 2 ^ k % 2 ^ w) y ≡ x * 2 ^ k + y
put_below w j k x y hx h hy = ap (λ (z : ℕ). bit_or z y) (shl_exact j k w hx h) ∙ or_shifted x k y hy

-- both at once
pub gathers_put : {s : List ℕ} {from : ℕ} (w a b : ℕ) {x y : ℕ} → 8 * a + 8 * b ≤ w → Gathers s from a x → Gathers s (from + a) b y
    → Gathers s from (a + b) (bit_or (x * 2 ^ (8 * b) % 2 ^ w) y)
gathers_put w a b {x} {y} fits g h = rw (put_below w (8 * a) (8 * b) x y g.small fits h.small) (gathers_join a b g h)

-- one more byte after the first k
pub gathers_next : {s : List ℕ} (w k : ℕ) {x y : ℕ} → 8 * k + 8 ≤ w → Gathers s 0 k x → Gathers s k 1 y
    → Gathers s 0 (k + 1) (bit_or (x * 2 ^ 8 % 2 ^ w) y)
gathers_next w k fits g h = gathers_put w k 1 fits g (rw (zero-add k) h)

-- eight bytes, as std's `from_be_bytes` puts them together
module _ (s : List ℕ) (from : ℕ) (there : from + 8 ≤ length s) (small : (i : ℕ) → get_or s i 0 < 256) where
  byte : ℕ → ℕ
  byte k = get_or s (from + k) 0

  in_chunk : (k : ℕ) → k < 8 → get_or (take 8 (drop from s)) k 0 ≡ byte k
  unfolding byte
  in_chunk k h = get_or-take 8 (drop from s) k 0 h ∙ get_or-drop from s k 0

  one : (k : ℕ) → k < 8 → Gathers s (from + k) 1 (byte k)
  unfolding byte
  one k h = gathers_one s (from + k) (omega arith) (small (from + k))

  before : (k j : ℕ) {y : ℕ} → k < 8 → Gathers s (from + (k + 1)) j y → Gathers s (from + k) (1 + j) (byte k * 2 ^ (8 * j) + y)
  before k j {y} h g = gathers_join 1 j (one k h) (subst (λ (i : ℕ). Gathers s i j y) (sym (add_assoc from k 1)) g)

  pub gathers_eight : Gathers s from 8 (from_be_bytes w64 (take 8 (drop from s)))
  gathers_eight =
      let all = before 0 7 (omega arith) (before 1 6 (omega arith) (before 2 5 (omega arith) (before 3 4 (omega arith)
      (before 4 3 (omega arith) (before 5 2 (omega arith) (before 6 1 (omega arith) (one 7 (omega arith)))))))) in
      subst (λ (n : ℕ). Gathers s from 8 n) same (rw add-zero at all)
    where
      same : byte 0 * 2 ^ 56 + (byte 1 * 2 ^ 48 + (byte 2 * 2 ^ 40 + (byte 3 * 2 ^ 32 + (byte 4 * 2 ^ 24 + (byte 5 * 2 ^ 16 + (byte 6 * 2 ^ 8 + byte 7))))))
          ≡ from_be_bytes w64 (take 8 (drop from s))
      same =
          omega (
            arith,
            in_chunk 0 (omega arith),
            in_chunk 1 (omega arith),
            in_chunk 2 (omega arith),
            in_chunk 3 (omega arith),
            in_chunk 4 (omega arith),
            in_chunk 5 (omega arith),
            in_chunk 6 (omega arith),
            in_chunk 7 (omega arith),
          )

-- how code makes the bound of n bits; the crates above use it
pub one_shl : (n : ℕ) → n ≤ 32 → 1 * 2 ^ n % 2 ^ 64 ≡ 2 ^ n
one_shl n h = shl_exact {a = 1} 1 n 64 (lit< tt) (omega arith) ∙ one-mul (2 ^ n)

-- how the code takes n bits at an offset out of 64
pub shifted : (x off n : ℕ) → off + n ≤ 64 → x * 2 ^ off % 2 ^ 64 / 2 ^ (64 - n) ≡ x / 2 ^ (64 - off - n) % 2 ^ n
shifted x off n h =
    let rest : ℕ = 64 - off - n in
    let after : 64 - n ≡ off + rest = omega arith in
    let all : 64 ≡ n + (off + rest) = omega arith in
    ap (λ (k : ℕ). x * 2 ^ off % 2 ^ 64 / 2 ^ k) after
    ∙ ap (λ (k : ℕ). x * 2 ^ off % 2 ^ k / 2 ^ (off + rest)) all
    ∙ field (x * 2 ^ off) n (off + rest)
    ∙ ap (λ (y : ℕ). y % 2 ^ n) (sym (shr-shr (x * 2 ^ off) off rest) ∙ ap (λ (y : ℕ). y / 2 ^ rest) (shl-shr x off))

pub shifted_fits : (x off n : ℕ) → off + n ≤ 64 → n ≤ 32 → x * 2 ^ off % 2 ^ 64 / 2 ^ (64 - n) < 2 ^ 32
shifted_fits x off n h small = rw (shifted x off n h) (lt_of_lt_of_le (mod-lt (x / 2 ^ (64 - off - n)) (pow_pos n)) (pow_mono small))

-- n bits at an offset into gathered bytes
pub gathers_window : {s : List ℕ} {from count r : ℕ} (off n : ℕ) → Gathers s from count r → from + count ≤ length s → off + n ≤ 8 * count
    → field_at s (8 * from + off) n ≡ r / 2 ^ (8 * count - off - n) % 2 ^ n
unfolding field_at
gathers_window {s} {from} {count} {r} off n g fits inside =
    let rest : ℕ = 8 * count - off - n in
    let w : 8 * count ≡ off + (n + rest) = omega arith in
    ap number
    (bytes_window s from count off n fits inside
    ∙ ap (λ (l : List ℕ). take n (drop off l)) (g.same ∙ ap (λ (k : ℕ). bits_of k r) w)
    ∙ ap (take n) (drop_bits off (n + rest) r)
    ∙ take-bits n rest r)
    ∙ number_bits n (r / 2 ^ rest)

-- one of the first eight bytes, or a zero in its place
pub gathers_padded : (s : List ℕ) (k : ℕ) → k < 8 → get_or s k 0 < 256 → Gathers (s ++ replicate 8 0) k 1 (get_or s k 0)
gathers_padded s k h b =
    rw (← padded s 8 k)
    (gathers_one (s ++ replicate 8 0) k (rw length-append (omega arith)) (rw (padded s 8 k) b))
  where
    zeros : (m i : ℕ) → ◌≡◌ {A = ℕ} (get_or (replicate m 0) i 0) 0
    zeros zero i = refl
    zeros (suc m) zero = refl
    zeros (suc m) (suc i) = zeros m i

    padded : (t : List ℕ) (m i : ℕ) → get_or (t ++ replicate m 0) i 0 ≡ get_or t i 0
    padded [] m i = zeros m i
    padded (x ∷ t) m zero = refl
    padded (x ∷ t) m (suc i) = padded t m i

-- n bits at an offset into the first eight bytes, all of which exist
pub padded_window : (s : List ℕ) {r : ℕ} (off n : ℕ) → Gathers (s ++ replicate 8 0) 0 8 r → off + n ≤ 64 → off + n ≤ 8 * length s
    → field_at s off n ≡ r / 2 ^ (64 - off - n) % 2 ^ n
padded_window s off n g fits inside =
    sym (field_before s (replicate 8 0) off n inside)
    ∙ ap (λ (p : ℕ). field_at (s ++ replicate 8 0) p n) (sym (zero-add off))
    ∙ gathers_window off n g (rw length-append (omega arith)) fits
