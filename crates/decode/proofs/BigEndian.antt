-- Numbers that stand high byte first: one byte more, up to eight fit a word, and what is read where all or not all is there. Assumes nothing.
use Rattle.std.proofs.Common.{◌≡◌, ℕ, zero, suc, ◌+◌, ◌*◌, ◌^◌, ◌<◌, ◌≤◌, List, length, get_or, take, drop, refl, sym, ap, ap₂, zero-add, length-take, length-drop, ◌-◌, ◌∙◌, add-one, arith, le-leb}
use native.Mathlib.Nat.{pow-succ', pow-le-pow_right}
use Rattle.std.proofs.lemmas.List.{get_or-take, get_or-drop}
use borrow.Author.Tests.{lt-leb}
use lib.Ieee.{Float, binary64, of_bits}
use Rattle.lists.specs.Writing.{put, Written}
use Rattle.lists.proofs.Pieces.{length_singles}
use Rattle.decode.specs.Stored.{big_endian, floats_at}
use Rattle.decode.specs.Inner.Reading.{big_endian_or0, big_endian_at_or0, with_floats_at}

pub big_endian-more : (s : List ℕ) (at k : ℕ) → big_endian s at (k + 1) ≡ 256 * big_endian s at k + get_or s (at + k) 0
unfolding big_endian
big_endian-more s at k = rw add-one

pub length_floats : (s : List ℕ) (at k : ℕ) → length (floats_at s at k) ≡ k
unfolding floats_at
length_floats s at k = length_singles (λ (i : ℕ). of_bits binary64 (big_endian s (at + 8 * i) 8)) k

pub no_bytes : (k : ℕ) → 0 < 256 ^ k
no_bytes k = let p : 256 ^ 0 ≤ 256 ^ k = pow-le-pow_right {n = 256} (omega arith) {i = 0} {j = k} (omega arith) in omega arith

module _ {x b : ℕ} (k : ℕ) (h : x < 256 ^ k) (byte : b < 256) where
  pub byte_more : 256 * x + b < 256 ^ (k + 1)
  byte_more = rw (add-one, pow-succ') (omega arith)

  pub byte_fits : k < 8 → 256 * x + b < 18446744073709551616
  byte_fits l =
      let p : 256 ^ (k + 1) ≤ 256 ^ 8 = pow-le-pow_right {n = 256} (omega arith) {i = k + 1} {j = 8} (omega arith) in
      omega (arith, byte_more)

module _ (s : List ℕ) where
  pub number_too_long : 8 < length s → 0 ≡ big_endian_or0 s
  unfolding big_endian_or0
  number_too_long h = rw (lt-leb _ _ h)

  pub number_there : length s ≤ 8 → big_endian_or0 s ≡ big_endian s 0 (length s)
  unfolding big_endian_or0
  number_there few = rw (le-leb _ _ few)

-- the number of a part of a list
module _ (s : List ℕ) (at k : ℕ) (there : at + k ≤ length s) where
  first_of_part : (j : ℕ) → j ≤ k → big_endian (take k (drop at s)) 0 j ≡ big_endian s at j
  unfolding big_endian
  first_of_part zero h = refl
  first_of_part (suc j) h =
      let e : get_or (take k (drop at s)) j 0 ≡ get_or s (at + j) 0 = get_or-take k (drop at s) j 0 (omega arith) ∙ get_or-drop at s j 0 in
      rw zero-add (ap₂ (λ (x y : ℕ). 256 * x + y) (first_of_part j (omega arith)) e)

  number_of_part : k ≤ 8 → big_endian_or0 (take k (drop at s)) ≡ big_endian s at k
  number_of_part few =
      let l : length (take k (drop at s)) ≡ k = simp (length-take, length-drop) (omega arith) in
      number_there (take k (drop at s)) (omega arith) ∙ ap (big_endian (take k (drop at s)) 0) l ∙ first_of_part k (omega arith)

-- the same of a slice of it, by where the slice begins and ends
pub part_there : (s : List ℕ) (from to at k : ℕ) → from ≡ at → to ≡ at + k → to ≤ length s → k ≤ 8
    → big_endian_or0 (take (to - from) (drop from s)) ≡ big_endian s at k
part_there s from to at k e f there few =
    let size : to - from ≡ k = omega arith in
    rw (size, e) (number_of_part s at k (omega arith) few)

-- ---- from any index on

module _ (s : List ℕ) (at k : ℕ) where
  pub long_at : 8 < k → 0 ≡ big_endian_at_or0 s at k
  unfolding big_endian_at_or0
  long_at h = rw (lt-leb _ _ h)

  module _ (few : k ≤ 8) where
    pub cut_at : length s < at + k → 0 ≡ big_endian_at_or0 s at k
    unfolding big_endian_at_or0
    cut_at h = rw (le-leb _ _ few, lt-leb _ _ h)

    pub number_at : at + k ≤ length s → big_endian s at k ≡ big_endian_at_or0 s at k
    unfolding big_endian_at_or0
    number_at h = rw (le-leb _ _ few, le-leb _ _ h)

  module _ (entry : List Float) where
    pub floats_cut : length s < at + 8 * k → entry ≡ with_floats_at entry s at k
    unfolding with_floats_at
    floats_cut h = rw (lt-leb _ _ h)

    module _ (there : at + 8 * k ≤ length s) where
      pub floats_crowded : length entry < k → entry ≡ with_floats_at entry s at k
      unfolding with_floats_at
      floats_crowded h = rw (le-leb _ _ there, lt-leb _ _ h)

      pub floats_put : k ≤ length entry → put entry 0 (floats_at s at k) ≡ with_floats_at entry s at k
      unfolding with_floats_at
      floats_put room = rw (le-leb _ _ there, le-leb _ _ room)

      module _ (room : k ≤ length entry) where
        pub floats_held : {exit : List Float} → Written entry exit 0 (floats_at s at k) k → exit ≡ with_floats_at entry s at k
        floats_held w = w.held ∙ floats_put room

        -- all bytes are there, and room
        pub floats_there : {exit : List Float} → exit ≡ with_floats_at entry s at k → Written entry exit 0 (floats_at s at k) k
        floats_there e =
            let n = length_floats s at k in
            record { held = e ∙ sym (floats_put room); room = omega arith; after = omega arith }
