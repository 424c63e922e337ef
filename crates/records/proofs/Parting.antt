-- Where the reading by whole flags ends, and that the reading by their two low bits has the same records up to there. Assumes nothing.
use mathlib.Core.Path.{◌≡◌, refl, sym, ap, ◌∙◌}
use mathlib.Core.Bool.{Bool, true, false}
use mathlib.Core.List.{List, [], ◌∷◌, ◌++◌, append_assoc}
use mathlib.Core.Option.{Option, none, some, none-ne-some}
use Prim.Native.Nat.{ℕ, zero, suc, ◌+◌, ◌%◌, ◌≤◌, ◌<◌}
use native.Mathlib.Nat.{mod-eq_of_lt, lt_of_not-le}
use native.Mathlib.Decide.{dec_le}
use native.Mathlib.Omega.{arith}
use borrow.Author.Tests.{lt-leb, ne_eqb}
use lib.ListN.{length, take, drop, replicate, length-drop}
use Rattle.bits.specs.Bits.{bits_of, number, stream}
use Rattle.records.specs.declared.shape.Kind.{Kind}
use Rattle.records.specs.declared.shape.Kind.TheVariants.{Four, Five, Six, Seven}
use Rattle.records.specs.Following.{ends}
use Rattle.records.specs.Format.{sum, numbers, whole_number, two_low_bits, Format, patch_shape, shape_of, widths_of, format_by, whole, next, readings, raw_reading}
use Rattle.records.specs.Flags.{Left, left}
use Rattle.records.proofs.Readings.{length-numbers, next_some, next_fits, next_none, next_size, readings_none, readings_some, readings_enough}
use Rattle.records.proofs.Meanings.{Alike, alike_none, alike_more, widths_size, size_by}

-- ---- where a reading ends

module _ (F : Format) where
  pub left_none : (k : ℕ) (started : Bool) (b : List ℕ) → next F started b ≡ none → left F k started b ≡ record { started = started; bits = b }
  unfolding left
  left_none zero started b e = refl
  left_none (suc k) started b e = rw (e, left)

  pub left_some : (k : ℕ) (started : Bool) (b vs : List ℕ) → next F started b ≡ some vs
      → left F (suc k) started b ≡ left F k true (drop (sum vs) b)
  unfolding left
  left_some k started b vs e = rw (e, left)

  -- no record begins there
  pub left_ends : 1 ≤ F.first → (k : ℕ) (started : Bool) (b : List ℕ) → length b ≤ k
      → next F (left F k started b).started (left F k started b).bits ≡ none
  unfolding left
  left_ends f zero started b h = next_none F started b (λ ws e. omega arith)
  left_ends f (suc k) started b h = by_next (next F started b) refl (left_ends f k true)
    where
      by_next : (o : Option (List ℕ)) → next F started b ≡ o
          → ((c : List ℕ) → length c ≤ k → next F (left F k true c).started (left F k true c).bits ≡ none)
          → next F (left F (suc k) started b).started (left F (suc k) started b).bits ≡ none
      by_next none e ih = rw (left_none (suc k) started b e) e
      by_next (some vs) e ih =
          let r = next_size F started b vs e in
          rw (left_some k started b vs e) (ih (drop (sum vs) b) (rw length-drop (omega arith)))

-- ---- a flag above 3

-- Types 6 and 7, with the points that a joined patch has of its own
pub data PatchKind : Kind → ℕ → Type 0 where
  type6 : PatchKind Six 8
  type7 : PatchKind Seven 12

above_ends : (own : ℕ) (started : Bool) (x : ℕ) → 3 < x → patch_shape own started x ≡ ends
above_ends own true x h = rw (ne_eqb x 0 (λ e. omega arith), lt-leb x 3 h)
above_ends own false x h = rw (ne_eqb x 0 (λ e. omega arith))

module _ (coord comp n : ℕ) where
  patch_below_4 : (own : ℕ) (started : Bool) (x : ℕ) (ws : List ℕ) → widths_of coord comp n (patch_shape own started x) ≡ some ws → x < 4
  patch_below_4 own started x ws e = by_size (dec_le 4 x)
    where
      by_size : Dec (4 ≤ x) → x < 4
      by_size (yes h) = absurd (none-ne-some ws (sym (ap (widths_of coord comp n) (above_ends own started x h)) ∙ e))
      by_size (no g) = lt_of_not-le g

  below_4 : {kind : Kind} {own : ℕ} → PatchKind kind own → (started : Bool) (x : ℕ) (ws : List ℕ)
      → widths_of coord comp n (shape_of kind started x) ≡ some ws → x < 4
  below_4 type6 = patch_below_4 8
  below_4 type7 = patch_below_4 12

  -- what follows a flag follows its two low bits
  low_widths : (kind : Kind) (started : Bool) (x : ℕ) (ws : List ℕ) → widths_of coord comp n (shape_of kind started x) ≡ some ws
      → widths_of coord comp n (shape_of kind started (x % 4)) ≡ some ws
  low_widths Four started x ws e = e
  low_widths Five started x ws e = e
  low_widths Six started x ws e = rw (mod-eq_of_lt (below_4 type6 started x ws e)) e
  low_widths Seven started x ws e = rw (mod-eq_of_lt (below_4 type7 started x ws e)) e

-- ---- the two readings

module _ (kind : Kind) (first coord comp n : ℕ) where
  abbrev F : Format
  F = format_by whole_number kind first coord comp n

  abbrev F' : Format
  F' = format_by two_low_bits kind first coord comp n

  -- a record by its whole flag is one by the two low bits
  pub low_next : (started : Bool) (b vs : List ℕ) → next F started b ≡ some vs → next F' started b ≡ some vs
  low_next started b vs e =
      let r = next_some F started b vs e in
      next_fits F' started b r.0 (low_widths coord comp n kind started (number (take first b)) r.0 r.1) (omega arith) ∙ ap some (sym r.2)

  -- where only the two low bits give a record, the flag is above 3
  pub part_above_3 : (started : Bool) (b vs : List ℕ) → next F started b ≡ none → next F' started b ≡ some vs → 3 < number (take first b)
  unfolding next
  part_above_3 started b vs e q = by_size (dec_le 4 (number (take first b)))
    where
      by_size : Dec (4 ≤ number (take first b)) → 3 < number (take first b)
      by_size (yes h) = h
      by_size (no g) =
          absurd (none-ne-some vs
          (sym e ∙ sym (ap (λ (x : ℕ). whole first (length b) (widths_of coord comp n (shape_of kind started x))) (mod-eq_of_lt (lt_of_not-le g))) ∙ q))

  -- the two low bits read on where the whole flags end, by any bound that is no less than the number of bits
  pub readings_part : 1 ≤ first → (k m : ℕ) (started : Bool) (b : List ℕ) → length b ≤ k → length b ≤ m
      → let e : Left = left F k started b in readings F' k started b ≡ readings F k started b ++ readings F' m e.started e.bits
  unfolding readings left
  readings_part f zero m started b h g = readings_enough F' zero m started b f h g
  readings_part f (suc k) m started b h g = by_next (next F started b) refl (readings_part f k m true)
    where
      by_next : (o : Option (List ℕ)) → next F started b ≡ o
          → ((c : List ℕ) → length c ≤ k → length c ≤ m
          → readings F' k true c ≡ readings F k true c ++ readings F' m (left F k true c).started (left F k true c).bits)
          → readings F' (suc k) started b
          ≡ readings F (suc k) started b ++ readings F' m (left F (suc k) started b).started (left F (suc k) started b).bits
      by_next none e ih = rw (readings_none F (suc k) started b e, left_none F (suc k) started b e) (readings_enough F' (suc k) m started b f h g)
      by_next (some vs) e ih =
          let r = next_size F started b vs e in
          rw (
            readings_some F k started b vs e,
            left_some F k started b vs e,
            readings_some F' k started b vs (low_next started b vs e),
            append_assoc,
          )
          (ap (λ (l : List ℕ). numbers vs b ++ l) (ih (drop (sum vs) b) (rw length-drop (omega arith)) (rw length-drop (omega arith))))

  -- the records by whole flags mean the same by the two low bits
  pub part_alike : {own : ℕ} → PatchKind kind own → (k : ℕ) (started : Bool) (b : List ℕ)
      → Alike whole_number two_low_bits (size_by kind n) (readings F k started b) (readings F k started b)
  unfolding readings numbers sum
  part_alike t zero started b = alike_none whole_number two_low_bits (size_by kind n)
  part_alike t (suc k) started b = by_next (next F started b) refl (part_alike t k true)
    where
      by_next : (o : Option (List ℕ)) → next F started b ≡ o
          → ((c : List ℕ) → Alike whole_number two_low_bits (size_by kind n) (readings F k true c) (readings F k true c))
          → Alike whole_number two_low_bits (size_by kind n) (readings F (suc k) started b) (readings F (suc k) started b)
      by_next none e ih = rw (readings_none F (suc k) started b e) (alike_none whole_number two_low_bits (size_by kind n))
      by_next (some vs) e ih =
          let r = next_some F started b vs e in
          let x : ℕ = number (take first b) in
          let ws : List ℕ = r.0 in
          rw (readings_some F k started b (first ∷ ws) (e ∙ ap some r.2))
          (alike_more whole_number two_low_bits (size_by kind n) x x (numbers ws (drop first b))
          (sym (mod-eq_of_lt (below_4 coord comp n t started x ws r.1)))
          (length-numbers ws (drop first b) ∙ widths_size coord comp n kind started x ws r.1) (ih (drop (first + sum ws) b)))

-- Type 6, flags of 3 bits, coordinates of 1, no components, bytes 80 00 00 00: a first flag of 4 begins a patch by its two low bits, and ends the mesh by
-- the whole number
pub first_flag_4 : let s : List ℕ = 128 ∷ 0 ∷ 0 ∷ 0 ∷ [] in
    (raw_reading (format_by two_low_bits Six 3 1 1 0) s ≡ 4 ∷ replicate 24 0) × (raw_reading (format_by whole_number Six 3 1 1 0) s ≡ [])
unfolding raw_reading readings next whole numbers sum number stream bits_of
first_flag_4 = (refl, refl)
