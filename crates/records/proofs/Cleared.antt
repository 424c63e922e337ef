-- Bits with the upper bits of their flags cleared have the records that the published reading finds. Assumes nothing.
use mathlib.Core.Path.{◌≡◌, refl, sym, ap, ◌∙◌}
use mathlib.Core.Bool.{Bool, true}
use mathlib.Core.List.{List, ◌∷◌, ◌++◌}
use mathlib.Core.Option.{Option, none, some}
use Prim.Native.Nat.{ℕ, zero, suc, ◌+◌, ◌-◌, ◌%◌, ◌≤◌, ◌<◌}
use native.Mathlib.Nat.{zero-add, add-sub_cancel_left, zero-mul, lt_of_not-le, lt_of_lt_of_le, mod-lt, mod-eq_of_lt}
use native.Mathlib.Decide.{dec_le}
use native.Mathlib.Omega.{arith}
use lib.Dec.{lit<}
use lib.Pow.{pow_mono}
use lib.Seq.{length-take-le, take_at, drop_at, drop-drop}
use borrow.Author.Tests.{le-leb, lt-leb}
use lib.ListN.{length, take, drop, replicate, length-append, length-replicate, length-drop, take-append-drop}
use Rattle.lists.specs.Lists.{AllBelow}
use Rattle.lists.proofs.Members.{all_take, all_drop}
use Rattle.bits.specs.Bits.{bits_of, number}
use Rattle.bits.proofs.Digits.{number_bits, number_below, bits_of_number, drop_bits}
use Rattle.records.specs.declared.shape.Kind.{Kind}
use Rattle.records.specs.Format.{sum, numbers, Meaning, two_low_bits, Format, format_by, next, readings}
use Rattle.records.specs.Flags.{lowered, cleared}
use Rattle.records.proofs.Readings.{numbers_append, next_size}
use Rattle.records.proofs.Meanings.{size_by, Alike, alike_none, alike_step}

-- ---- a flag

number_zeros : (k : ℕ) (bs : List ℕ) → number (replicate k 0 ++ bs) ≡ number bs
unfolding number
number_zeros zero bs = refl
number_zeros (suc k) bs = rw (zero-mul, zero-add) (number_zeros k bs)

pub length-lowered : (bs : List ℕ) → length (lowered bs) ≡ length bs
unfolding lowered
length-lowered bs = rw (length-append, length-replicate, length-drop) (omega arith)

-- what is left is the number of the two low bits
pub number_lowered : (bs : List ℕ) → AllBelow 2 bs → number (lowered bs) ≡ number bs % 4
unfolding lowered
number_lowered bs p = number_zeros (length bs - 2) (drop (length bs - 2) bs) ∙ by_size (dec_le 2 (length bs))
  where
    by_size : Dec (2 ≤ length bs) → number (drop (length bs - 2) bs) ≡ number bs % 4
    by_size (yes h) =
        let e : length bs ≡ length bs - 2 + 2 = omega arith in
        ap (λ (l : List ℕ). number (drop (length bs - 2) l)) (sym (bits_of_number bs p) ∙ ap (λ (w : ℕ). bits_of w (number bs)) e)
        ∙ ap number (drop_bits (length bs - 2) 2 (number bs))
        ∙ number_bits 2 (number bs)
    by_size (no h) =
        let g = lt_of_not-le h in
        let z : length bs - 2 ≡ 0 = omega arith in
        let w : length bs ≤ 2 = omega arith in
        rw z (sym (mod-eq_of_lt (lt_of_lt_of_le (number_below bs p) (pow_mono w))))

-- ---- the bits of a mesh

-- what comes after a cleared flag
abbrev behind : Format → ℕ → List ℕ → Option (List ℕ) → List ℕ
behind F k b none = drop F.first b
behind F k b (some vs) = take (sum vs - F.first) (drop F.first b) ++ cleared F k true (drop (sum vs) b)

pub cleared_flag : (F : Format) (k : ℕ) (started : Bool) (b : List ℕ) → F.first ≤ length b → (o : Option (List ℕ)) → next F started b ≡ o
    → cleared F (suc k) started b ≡ lowered (take F.first b) ++ behind F k b o
unfolding cleared
cleared_flag F k started b h none e = rw (le-leb F.first (length b) h, e, cleared)
cleared_flag F k started b h (some vs) e = rw (le-leb F.first (length b) h, e, cleared)

length-flag : (w : ℕ) (b : List ℕ) → w ≤ length b → length (lowered (take w b)) ≡ w
length-flag w b h = length-lowered (take w b) ∙ length-take-le w b h

length-behind : (F : Format) (k : ℕ) (started : Bool) (b : List ℕ) (o : Option (List ℕ)) → next F started b ≡ o
    → ((c : List ℕ) → length (cleared F k true c) ≡ length c) → length (behind F k b o) ≡ length b - F.first
length-behind F k started b none e ih = length-drop F.first b
length-behind F k started b (some vs) e ih =
    let r = next_size F started b vs e in
    rw (length-append, length-take-le (sum vs - F.first) (drop F.first b) (rw length-drop (omega arith)), ih, length-drop) (omega arith)

pub length-cleared : (F : Format) (k : ℕ) (started : Bool) (b : List ℕ) → length (cleared F k started b) ≡ length b
unfolding cleared
length-cleared F zero started b = refl
length-cleared F (suc k) started b = by_size (dec_le F.first (length b)) (λ c. length-cleared F k true c)
  where
    by_size : Dec (F.first ≤ length b) → ((c : List ℕ) → length (cleared F k true c) ≡ length c) → length (cleared F (suc k) started b) ≡ length b
    by_size (yes h) ih =
        rw (
          cleared_flag F k started b h (next F started b) refl,
          length-append,
          length-flag F.first b h,
          length-behind F k started b (next F started b) refl ih,
        )
        (omega arith)
    by_size (no h) ih = rw (lt-leb F.first (length b) (lt_of_not-le h))

module _ (F : Format) (k : ℕ) (started : Bool) (b : List ℕ) where
  -- where a record may begin, the cleared bits begin with its flag's two low bits
  cleared_number : AllBelow 2 b → F.first ≤ length b → number (take F.first (cleared F (suc k) started b)) ≡ number (take F.first b) % 4
  cleared_number p h =
      rw (
        cleared_flag F k started b h (next F started b) refl,
        take_at (lowered (take F.first b)) (behind F k b (next F started b)) F.first (length-flag F.first b h),
      )
      (number_lowered (take F.first b) (all_take (λ (x : ℕ). x < 2) F.first b p))

  module _ (ws : List ℕ) (e : next F started b ≡ some (F.first ∷ ws)) where
    fits : F.first + sum ws ≤ length b
    unfolding sum
    fits = (next_size F started b (F.first ∷ ws) e).1

    run : length (take (sum ws) (drop F.first b)) ≡ sum ws
    run = length-take-le (sum ws) (drop F.first b) (rw length-drop (omega (arith, fits)))

    -- after the flag of a whole record its bits follow as they are, and then the cleared rest
    cleared_after : drop F.first (cleared F (suc k) started b)
        ≡ take (sum ws) (drop F.first b) ++ cleared F k true (drop (F.first + sum ws) b)
    unfolding sum
    cleared_after =
        let h : F.first ≤ length b = omega (arith, fits) in
        rw (
          cleared_flag F k started b h (some (F.first ∷ ws)) e,
          drop_at (lowered (take F.first b)) _ F.first (length-flag F.first b h),
          add-sub_cancel_left,
        )

    cleared_rest : drop (F.first + sum ws) (cleared F (suc k) started b) ≡ cleared F k true (drop (F.first + sum ws) b)
    cleared_rest =
        sym (drop-drop (sum ws) F.first (cleared F (suc k) started b))
        ∙ ap (drop (sum ws)) cleared_after
        ∙ drop_at (take (sum ws) (drop F.first b)) (cleared F k true (drop (F.first + sum ws) b)) (sum ws) run

    cleared_numbers : numbers ws (drop F.first b) ≡ numbers ws (drop F.first (cleared F (suc k) started b))
    cleared_numbers =
        let t : List ℕ = take (sum ws) (drop F.first b) in
        ap (numbers ws) (sym (take-append-drop (sum ws) (drop F.first b)))
        ∙ numbers_append ws t (drop (sum ws) (drop F.first b)) (omega (arith, run))
        ∙ sym (numbers_append ws t (cleared F k true (drop (F.first + sum ws) b)) (omega (arith, run)))
        ∙ ap (numbers ws) (sym cleared_after)

-- The published reading has the records that a reading of the cleared bits has, where a flag below 4 means itself.
module _ (kind : Kind) (first coord comp n : ℕ) (flag' : Meaning) (fixed : (x : ℕ) → x < 4 → flag' x ≡ x) where
  pub cleared_alike : (k : ℕ) (started : Bool) (b : List ℕ) → AllBelow 2 b
      → let F : Format = format_by two_low_bits kind first coord comp n in
      Alike two_low_bits flag' (size_by kind n) (readings F k started b)
      (readings (format_by flag' kind first coord comp n) k started (cleared F k started b))
  unfolding readings
  cleared_alike zero started b p = alike_none two_low_bits flag' (size_by kind n)
  cleared_alike (suc k) started b p =
      let F : Format = format_by two_low_bits kind first coord comp n in
      alike_step kind first coord comp n two_low_bits flag' k started b (cleared F (suc k) started b) (sym (length-cleared F (suc k) started b))
      (λ h. rw (cleared_number F k started b p h) (sym (fixed (number (take first b) % 4) (mod-lt (number (take first b)) (lit< tt)))))
      (λ ws e. (
        cleared_numbers F k started b ws e,
        rw (cleared_rest F k started b ws e)
            (cleared_alike k true (drop (first + sum ws) b) (all_drop (λ (x : ℕ). x < 2) (first + sum ws) b p)),
      ))
