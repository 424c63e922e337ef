-- What `read_at` is, case by case, and what a caller learns from an answer. Assumes nothing.
use Prim.Native.Nat.{ℕ, ◌+◌, ◌*◌, ◌^◌, ◌≤◌, ◌<◌}
use mathlib.Core.Path.{◌≡◌, refl, sym, ap, ◌∙◌}
use mathlib.Core.Bool.{Bool, true, false, ◌&&◌}
use mathlib.Core.List.{List}
use native.Mathlib.Nat.{lt_of_not-le}
use native.Mathlib.Decide.{dec_le}
use native.Mathlib.Omega.{arith}
use lib.ListN.{length}
use borrow.Author.Tests.{eq-eqb, ne_eqb, lt-ltb, le-ltb, le-leb, lt-leb}
use Rattle.bits.specs.declared.BitPos.{BitPos}
use Rattle.std.specs.Prelude.{Some, None}
use Rattle.bits.specs.Bits.{field_at}
use Rattle.bits.specs.Reading.{BitRead, read_at}
use Rattle.bits.proofs.Streams.{field_below}

and-false : (b : Bool) → b && false ≡ false
and-false true = refl
and-false false = refl

module _ (s : List ℕ) (p n : ℕ) where
  pub answer_none : n ≡ 0 → Some (0, record { 0 = p }) ≡ read_at s p n
  unfolding read_at
  answer_none z = simp (eq-eqb n 0 z)

  pub answer_wide : 32 < n → None ≡ read_at s p n
  unfolding read_at
  answer_wide h = simp (ne_eqb n 0 (λ (z : n ≡ 0). omega arith), lt-leb n 32 h)

  pub answer_short : 1 ≤ n → 8 * length s < p + n → None ≡ read_at s p n
  unfolding read_at
  answer_short nz h = simp (ne_eqb n 0 (λ (z : n ≡ 0). omega arith), lt-leb (p + n) (8 * length s) h, and-false)

  pub answer_unplaced : 1 ≤ n → 2 ^ 64 ≤ p + n → None ≡ read_at s p n
  unfolding read_at
  answer_unplaced nz h = simp (ne_eqb n 0 (λ (z : n ≡ 0). omega arith), le-ltb (p + n) (2 ^ 64) h, and-false)

  pub answer_number : 1 ≤ n → n ≤ 32 → p + n ≤ 8 * length s → p + n < 2 ^ 64
      → Some (field_at s p n, record { 0 = p + n }) ≡ read_at s p n
  unfolding read_at
  answer_number nz small h fits =
      simp (ne_eqb n 0 (λ (z : n ≡ 0). omega arith), le-leb n 32 small, le-leb (p + n) (8 * length s) h, lt-ltb (p + n) (2 ^ 64) fits)

-- what a number says
pub record Found (s : List ℕ) (p n v : ℕ) (q : BitPos) : Type 0 where
  pub wide : n ≤ 32
  pub whole : p + n ≤ 8 * length s
  pub value : v ≡ field_at s p n
  pub small : v < 2 ^ n
  pub next : q.0 ≡ p + n

module _ (s : List ℕ) (p n : ℕ) (nz : 1 ≤ n) where
  pub found : (v : ℕ) (q : BitPos) → Some (v, q) ≡ read_at s p n → Found s p n v q
  found v q e = by_wide (dec_le n 32)
    where
      never : ◌≡◌ {A = BitRead} (Some (v, q)) None → Found s p n v q
      never z = let y : ◌≡◌ {A = ℕ} 0 1 = cc in absurd (omega arith)

      by_place : n ≤ 32 → p + n ≤ 8 * length s → Dec (2 ^ 64 ≤ p + n) → Found s p n v q
      by_place w h (yes u) = never (e ∙ sym (answer_unplaced s p n nz u))
      by_place w h (no u) =
          let f : ◌≡◌ {A = BitRead} (Some (v, q)) (Some (field_at s p n, record { 0 = p + n })) = e ∙ sym (answer_number s p n nz w h (lt_of_not-le u)) in
          let pair : ◌≡◌ {A = ℕ × BitPos} (v, q) (field_at s p n, record { 0 = p + n }) = cc f in
          let ev : v ≡ field_at s p n = ap (λ (x : ℕ × BitPos). x.0) pair in
          let eq : q ≡ record { 0 = p + n } = ap (λ (x : ℕ × BitPos). x.1) pair in
          record { wide = w; whole = h; value = ev; small = rw ev (field_below s p n h); next = ap (λ (b : BitPos). b.0) eq }

      by_whole : n ≤ 32 → Dec (p + n ≤ 8 * length s) → Found s p n v q
      by_whole w (yes h) = by_place w h (dec_le (2 ^ 64) (p + n))
      by_whole w (no h) = never (e ∙ sym (answer_short s p n nz (lt_of_not-le h)))

      by_wide : Dec (n ≤ 32) → Found s p n v q
      by_wide (yes w) = by_whole w (dec_le (p + n) (8 * length s))
      by_wide (no w) = never (e ∙ sym (answer_wide s p n (lt_of_not-le w)))

  -- what the end says, of a slice short enough for its bits to be counted in a usize
  pub ended : n ≤ 32 → length s < 2 ^ 61 → None ≡ read_at s p n → 8 * length s < p + n
  ended w small e = by_whole (dec_le (p + n) (8 * length s))
    where
      by_whole : Dec (p + n ≤ 8 * length s) → 8 * length s < p + n
      by_whole (no h) = lt_of_not-le h
      by_whole (yes h) =
          let f : ◌≡◌ {A = BitRead} None (Some (field_at s p n, record { 0 = p + n })) = e ∙ sym (answer_number s p n nz w h (omega arith)) in
          let y : ◌≡◌ {A = ℕ} 0 1 = cc f in omega arith
