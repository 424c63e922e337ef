-- Another flag with the same two low bits, put in the place of one that the published reading meets, leaves the cleared bits as they were. Assumes nothing.
use mathlib.Core.Path.{◌≡◌, refl, sym, ap, ap₂, ◌∙◌}
use mathlib.Core.Bool.{Bool, true}
use mathlib.Core.List.{List, [], ◌∷◌, ◌++◌}
use mathlib.Core.Option.{Option, none, some}
use Prim.Native.Nat.{ℕ, zero, suc, ◌+◌, ◌-◌, ◌%◌, ◌≤◌, ◌<◌}
use native.Mathlib.Decide.{dec_le}
use native.Mathlib.Omega.{arith}
use lib.Dec.{lit<}
use lib.Seq.{take-append-le, drop-append-le, take_at, drop_at, drop-drop}
use lib.ListN.{length, take, drop, replicate, length-append, length-drop}
use Rattle.lists.specs.Lists.{AllBelow}
use Rattle.lists.proofs.Members.{all_append, all_drop, all_replicate}
use Rattle.bits.specs.Bits.{bits_of, number}
use Rattle.bits.proofs.Digits.{bits_of_number}
use Rattle.records.specs.declared.shape.Kind.{Kind}
use Rattle.records.specs.Format.{sum, two_low_bits, Format, format_by, next}
use Rattle.records.specs.Flags.{lowered, cleared, left}
use Rattle.records.proofs.Readings.{next_size}
use Rattle.records.proofs.Filling.{nothing}
use Rattle.records.proofs.Meanings.{next_same}
use Rattle.records.proofs.Cleared.{length-lowered, number_lowered, cleared_flag}
use Rattle.records.proofs.Parting.{left_none, left_some}

-- ---- a flag

lowered_bits : (bs : List ℕ) → AllBelow 2 bs → AllBelow 2 (lowered bs)
unfolding lowered
lowered_bits bs p =
    let k : ℕ = length bs - 2 in
    all_append (λ (d : ℕ). d < 2) (replicate k 0) (drop k bs) (all_replicate (λ (d : ℕ). d < 2) k 0 (lit< tt)) (all_drop (λ (d : ℕ). d < 2) k bs p)

-- flags of one width with the same two low bits are the same once cleared
lowered_same : (x y : List ℕ) → length x ≡ length y → AllBelow 2 x → AllBelow 2 y → number x % 4 ≡ number y % 4 → lowered x ≡ lowered y
lowered_same x y l p q e =
    sym (bits_of_number (lowered x) (lowered_bits x p))
    ∙ ap₂ bits_of (length-lowered x ∙ l ∙ sym (length-lowered y)) (number_lowered x p ∙ e ∙ sym (number_lowered y q))
    ∙ bits_of_number (lowered y) (lowered_bits y q)

-- ---- one record

module _ (F : Format) where
  -- bits that begin with a flag
  flag_first : (k : ℕ) (started : Bool) (z after : List ℕ) → length z ≡ F.first → (o : Option (List ℕ)) → next F started (z ++ after) ≡ o
      → cleared F (suc k) started (z ++ after)
      ≡ lowered z ++ elim o [ none ↦ after | some vs ↦ take (sum vs - F.first) after ++ cleared F k true (drop (sum vs - F.first) after) ]
  flag_first k started z after l none e =
      cleared_flag F k started (z ++ after) (omega (arith, length-append z after)) none e ∙ rw (take_at z after F.first l, drop_at z after F.first l)
  flag_first k started z after l (some vs) e =
      let r = next_size F started (z ++ after) vs e in
      let s : sum vs ≡ F.first + (sum vs - F.first) = omega arith in
      let d : drop (sum vs) (z ++ after) ≡ drop (sum vs - F.first) (drop F.first (z ++ after)) =
      ap (λ (m : ℕ). drop m (z ++ after)) s ∙ sym (drop-drop (sum vs - F.first) F.first (z ++ after)) in
      cleared_flag F k started (z ++ after) (omega arith) (some vs) e ∙ rw (take_at z after F.first l, d, drop_at z after F.first l)

  -- bits whose first record ends within `before`
  record_within : (k : ℕ) (started : Bool) (before t vs : List ℕ) → next F started (before ++ t) ≡ some vs → sum vs ≤ length before
      → cleared F (suc k) started (before ++ t)
      ≡ lowered (take F.first before) ++ (take (sum vs - F.first) (drop F.first before) ++ cleared F k true (drop (sum vs) before ++ t))
  record_within k started before t vs e h =
      let r = next_size F started (before ++ t) vs e in
      let f : F.first ≤ length before = omega arith in
      cleared_flag F k started (before ++ t) (omega arith) (some vs) e
      ∙ rw (
        take-append-le F.first before t f,
        drop-append-le F.first before t f,
        drop-append-le (sum vs) before t h,
        take-append-le (sum vs - F.first) (drop F.first before) t (rw length-drop (omega arith)),
      )

  left_length : (j : ℕ) (started : Bool) (b : List ℕ) → length (left F j started b).bits ≤ length b
  unfolding left
  left_length zero started b = omega arith
  left_length (suc j) started b = by_next (next F started b) refl (left_length j true)
    where
      by_next : (o : Option (List ℕ)) → next F started b ≡ o → ((c : List ℕ) → length (left F j true c).bits ≤ length c)
          → length (left F (suc j) started b).bits ≤ length b
      by_next none e ih = rw (left_none F (suc j) started b e) (omega arith)
      by_next (some vs) e ih = rw (left_some F j started b vs e) (omega (arith, ih (drop (sum vs) b), length-drop (sum vs) b))

-- ---- a flag changed

-- Two flags of one width with the same two low bits.
module _ (kind : Kind) (first coord comp n : ℕ) (x y after : List ℕ) (wx : length x ≡ first) (wy : length y ≡ first) (px : AllBelow 2 x) (py : AllBelow 2 y)
    (low : number x % 4 ≡ number y % 4) where
  abbrev F : Format
  F = format_by two_low_bits kind first coord comp n

  lengths : (before : List ℕ) → length (before ++ (x ++ after)) ≡ length (before ++ (y ++ after))
  lengths before = rw (length-append before (x ++ after), length-append before (y ++ after), length-append x after, length-append y after, wx, wy)

  -- where the bits begin with the flag
  changed_first : (k : ℕ) (started : Bool) → cleared F (suc k) started (x ++ after) ≡ cleared F (suc k) started (y ++ after)
  changed_first k started =
      let o : Option (List ℕ) = next F started (y ++ after) in
      let same : next F started (x ++ after) ≡ o =
      next_same kind first coord comp n two_low_bits two_low_bits started (x ++ after) (y ++ after) (lengths [])
      (λ h. rw (take_at x after first wx, take_at y after first wy) low) in
      flag_first F k started x after wx o same
      ∙ rw (lowered_same x y (wx ∙ sym wy) px py low) (sym (flag_first F k started y after wy o refl))

  changed_here : (k : ℕ) (started : Bool) (before : List ℕ) → length (before ++ (x ++ after)) ≡ length (x ++ after)
      → cleared F (suc k) started (before ++ (x ++ after)) ≡ cleared F (suc k) started (before ++ (y ++ after))
  changed_here k started [] e = changed_first k started
  changed_here k started (b ∷ bs) e = absurd (omega (arith, length-append bs (x ++ after)))

  -- each record before the flag takes a bit at least, so k is enough to come to it
  changed : 1 ≤ first → (j k : ℕ) (started : Bool) (before : List ℕ) → length before < k
      → length (left F j started (before ++ (x ++ after))).bits ≡ length (x ++ after)
      → cleared F k started (before ++ (x ++ after)) ≡ cleared F k started (before ++ (y ++ after))
  unfolding left
  changed f j zero started before h e = absurd (omega arith)
  changed f zero (suc k) started before h e = changed_here k started before e
  changed f (suc j) (suc k) started before h e = by_next (next F started b) refl (changed f j k true)
    where
      b : List ℕ
      b = before ++ (x ++ after)

      c : List ℕ
      c = before ++ (y ++ after)

      by_next : (o : Option (List ℕ)) → next F started b ≡ o
          → ((bs : List ℕ) → length bs < k → length (left F j true (bs ++ (x ++ after))).bits ≡ length (x ++ after)
          → cleared F k true (bs ++ (x ++ after)) ≡ cleared F k true (bs ++ (y ++ after)))
          → cleared F (suc k) started b ≡ cleared F (suc k) started c
      by_next none q ih = changed_here k started before (rw (left_none F (suc j) started b q) at e)
      by_next (some vs) q ih =
          let s = next_size F started b vs q in
          let g : length (left F j true (drop (sum vs) b)).bits ≡ length (x ++ after) = rw (left_some F j started b vs q) at e in
          let m : sum vs ≤ length before =
          omega (arith, left_length F j true (drop (sum vs) b), length-drop (sum vs) b, length-append before (x ++ after)) in
          let same : next F started c ≡ some vs =
          sym (next_same kind first coord comp n two_low_bits two_low_bits started b c (lengths before)
          (λ i. rw (take-append-le first before (x ++ after) (omega arith), take-append-le first before (y ++ after) (omega arith))))
          ∙ q in
          record_within F k started before (x ++ after) vs q m
          ∙ rw (ih (drop (sum vs) before) (rw length-drop (omega arith)) (rw (drop-append-le (sum vs) before (x ++ after) m) at g))
          (sym (record_within F k started before (y ++ after) vs same m))

  -- The flag x stands where a reading of j records ends. With y in its place the cleared bits are the same.
  pub flag_changed : (j k : ℕ) (started : Bool) (before : List ℕ) → length (before ++ (x ++ after)) ≤ k
      → length (left F j started (before ++ (x ++ after))).bits ≡ length (x ++ after)
      → cleared F k started (before ++ (x ++ after)) ≡ cleared F k started (before ++ (y ++ after))
  flag_changed j k started before h e = by_width (dec_le 1 first)
    where
      by_width : Dec (1 ≤ first) → cleared F k started (before ++ (x ++ after)) ≡ cleared F k started (before ++ (y ++ after))
      by_width (yes f) = changed f j k started before (omega (arith, length-append before (x ++ after), length-append x after)) e
      by_width (no g) = rw (nothing x (omega arith), nothing y (omega arith))
