-- The raw reading: where it goes on, where it ends, and that a cut gives a beginning. Assumes nothing.
use mathlib.Core.Path.{◌≡◌, refl, sym, ap, ap₂, ◌∙◌}
use mathlib.Core.Bool.{Bool, true, false, cond}
use mathlib.Core.List.{List, [], ◌∷◌, ◌++◌}
use mathlib.Core.Option.{Option, none, some, none-ne-some}
use Prim.Native.Nat.{ℕ, zero, suc, ◌+◌, ◌*◌, ◌≤◌, ◌<◌}
use native.Mathlib.Nat.{zero-add, zero-mul, le_of_suc-le-suc}
use native.Mathlib.Omega.{arith}
use lib.Dec.{leb}
use borrow.Author.Tests.{leb-true, le-leb, lt-leb}
use lib.ListN.{length, take, drop, replicate, length-append, length-drop}
use lib.Seq.{take-append-le, drop-append-le, drop-drop}
use Rattle.lists.specs.Lists.{Begins}
use Rattle.lists.proofs.Members.{begins_nothing, begins_after, begins_of_take}
use Rattle.bits.specs.Bits.{number, stream}
use Rattle.bits.proofs.Streams.{length-stream, stream_append}
use Rattle.records.specs.Format.{sum, numbers, Format, whole, next, readings, raw_reading}

-- the bits from a place on
pub length_from : (s : List ℕ) (p : ℕ) → p ≤ 8 * length s → p + length (drop p (stream s)) ≡ 8 * length s
length_from s p h = rw (length-drop, length-stream) (omega arith)

-- ---- numbers side by side

pub sum-append : (vs ws : List ℕ) → sum (vs ++ ws) ≡ sum vs + sum ws
unfolding sum
sum-append [] ws = sym (zero-add (sum ws))
sum-append (v ∷ vs) ws = omega (arith, sum-append vs ws)

pub sum-replicate : (k w : ℕ) → sum (replicate k w) ≡ k * w
unfolding sum
sum-replicate zero w = sym (zero-mul w)
sum-replicate (suc k) w = omega (arith, sum-replicate k w)

pub length-numbers : (ws b : List ℕ) → length (numbers ws b) ≡ length ws
unfolding numbers
length-numbers [] b = refl
length-numbers (w ∷ ws) b = ap suc (length-numbers ws (drop w b))

-- the bits that come after the numbers do not count
pub numbers_append : (ws b t : List ℕ) → sum ws ≤ length b → numbers ws (b ++ t) ≡ numbers ws b
unfolding numbers sum
numbers_append [] b t h = refl
numbers_append (w ∷ ws) b t h =
    ap₂ (λ (a : ℕ) (r : List ℕ). a ∷ r)
    (ap number (take-append-le w b t (omega arith)))
    (ap (numbers ws) (drop-append-le w b t (omega arith)) ∙ numbers_append ws (drop w b) t (omega (arith, length-drop w b)))

-- some widths, then others
pub numbers_then : (vs ws b : List ℕ) → numbers (vs ++ ws) b ≡ numbers vs b ++ numbers ws (drop (sum vs) b)
unfolding numbers sum
numbers_then [] ws b = refl
numbers_then (v ∷ vs) ws b = rw (numbers_then vs ws (drop v b), drop-drop)

-- ---- one record

-- what `whole` found
pub whole_some : (h l : ℕ) (o : Option (List ℕ)) (vs : List ℕ) → whole h l o ≡ some vs
    → (ws : List ℕ) × (o ≡ some ws) × (vs ≡ h ∷ ws) × (h + sum ws ≤ l)
unfolding whole
whole_some h l none vs e = absurd (none-ne-some vs e)
whole_some h l (some ws) vs e = go (leb (h + sum ws) l) refl e
  where
    go : (t : Bool) → leb (h + sum ws) l ≡ t → cond t (some (h ∷ ws)) none ≡ some vs
        → (us : List ℕ) × (some ws ≡ some us) × (vs ≡ h ∷ us) × (h + sum us ≤ l)
    go true q e = (ws, refl, cc, leb-true (h + sum ws) l q)
    go false q e = absurd (none-ne-some vs e)

pub whole_fits : (h l : ℕ) (ws : List ℕ) → h + sum ws ≤ l → whole h l (some ws) ≡ some (h ∷ ws)
unfolding whole
whole_fits h l ws q = rw (le-leb (h + sum ws) l q)

-- a complete record: its widths, and its bits are there
pub next_some : (F : Format) (started : Bool) (b vs : List ℕ) → next F started b ≡ some vs
    → (ws : List ℕ) × (F.more started (number (take F.first b)) ≡ some ws) × (vs ≡ F.first ∷ ws) × (F.first + sum ws ≤ length b)
unfolding next
next_some F started b vs e = whole_some F.first (length b) (F.more started (number (take F.first b))) vs e

pub next_fits : (F : Format) (started : Bool) (b ws : List ℕ) → F.more started (number (take F.first b)) ≡ some ws
    → F.first + sum ws ≤ length b → next F started b ≡ some (F.first ∷ ws)
unfolding next
next_fits F started b ws e h = ap (whole F.first (length b)) e ∙ whole_fits F.first (length b) ws h

-- no record: the mesh ends at its first number, or its bits are not there
pub next_none : (F : Format) (started : Bool) (b : List ℕ)
    → ((ws : List ℕ) → F.more started (number (take F.first b)) ≡ some ws → length b < F.first + sum ws) → next F started b ≡ none
unfolding next whole
next_none F started b h = go (F.more started (number (take F.first b))) refl
  where
    go : (o : Option (List ℕ)) → F.more started (number (take F.first b)) ≡ o → whole F.first (length b) o ≡ none
    go none e = refl
    go (some ws) e = rw (lt-leb (F.first + sum ws) (length b) (h ws e))

-- it takes its first number's bits at least
pub next_size : (F : Format) (started : Bool) (b vs : List ℕ) → next F started b ≡ some vs → (F.first ≤ sum vs) × (sum vs ≤ length b)
unfolding sum
next_size F started b vs e = let r = next_some F started b vs e in rw r.2 (omega arith, omega arith)

-- what stands after a complete record does not count
pub next_append : (F : Format) (started : Bool) (b t vs : List ℕ) → next F started b ≡ some vs → next F started (b ++ t) ≡ some vs
next_append F started b t vs e =
    let r = next_some F started b vs e in
    next_fits F started (b ++ t) r.0
    (ap (λ (l : List ℕ). F.more started (number l)) (take-append-le F.first b t (omega arith)) ∙ r.1)
    (omega (arith, length-append b t))
    ∙ ap some (sym r.2)

-- ---- the records one after the other

pub readings_none : (F : Format) (k : ℕ) (started : Bool) (b : List ℕ) → next F started b ≡ none → readings F k started b ≡ []
unfolding readings
readings_none F zero started b e = refl
readings_none F (suc k) started b e = rw (e, readings)

pub readings_some : (F : Format) (k : ℕ) (started : Bool) (b vs : List ℕ) → next F started b ≡ some vs
    → readings F (suc k) started b ≡ numbers vs b ++ readings F k true (drop (sum vs) b)
unfolding readings
readings_some F k started b vs e = rw (e, readings)

-- a record takes a bit at least, so any bound that is no less than the number of bits gives the same
enough_step : (F : Format) (k m : ℕ) (started : Bool) (b : List ℕ) (o : Option (List ℕ)) → next F started b ≡ o → 1 ≤ F.first
    → length b ≤ suc k → length b ≤ suc m
    → ((c : List ℕ) → length c ≤ k → length c ≤ m → readings F k true c ≡ readings F m true c)
    → readings F (suc k) started b ≡ readings F (suc m) started b
enough_step F k m started b none e f h g ih = readings_none F (suc k) started b e ∙ sym (readings_none F (suc m) started b e)
enough_step F k m started b (some vs) e f h g ih =
    let r = next_size F started b vs e in
    readings_some F k started b vs e
    ∙ ap (λ (l : List ℕ). numbers vs b ++ l) (ih (drop (sum vs) b) (rw length-drop (omega arith)) (rw length-drop (omega arith)))
    ∙ sym (readings_some F m started b vs e)

next_empty : (F : Format) (started : Bool) (b : List ℕ) → 1 ≤ F.first → length b ≤ 0 → next F started b ≡ none
next_empty F started b f h = next_none F started b (λ ws e. omega arith)

pub readings_enough : (F : Format) (k m : ℕ) (started : Bool) (b : List ℕ) → 1 ≤ F.first → length b ≤ k → length b ≤ m
    → readings F k started b ≡ readings F m started b
readings_enough F zero m started b f h g =
    let e = next_empty F started b f h in readings_none F zero started b e ∙ sym (readings_none F m started b e)
readings_enough F (suc k) zero started b f h g =
    let e = next_empty F started b f g in readings_none F (suc k) started b e ∙ sym (readings_none F zero started b e)
readings_enough F (suc k) (suc m) started b f h g =
    enough_step F k m started b (next F started b) refl f h g (λ c. readings_enough F k m true c f)

-- so at such a bound a record is read off, and the bound stays
pub readings_on : (F : Format) (k : ℕ) (started : Bool) (b vs : List ℕ) → 1 ≤ F.first → length b ≤ k → next F started b ≡ some vs
    → readings F k started b ≡ numbers vs b ++ readings F k true (drop (sum vs) b)
readings_on F k started b vs f h e =
    let r = next_size F started b vs e in
    readings_enough F k (suc k) started b f h (omega arith) ∙ readings_some F k started b vs e

-- ---- a cut

-- a record that the bits hold whole is read from more bits too
begin_step : (F : Format) (k m : ℕ) (started : Bool) (b t : List ℕ) (o : Option (List ℕ)) → next F started b ≡ o
    → ((c : List ℕ) → Begins (readings F k true c) (readings F m true (c ++ t)))
    → Begins (readings F (suc k) started b) (readings F (suc m) started (b ++ t))
unfolding sum
begin_step F k m started b t none e ih = rw (readings_none F (suc k) started b e) (begins_nothing _)
begin_step F k m started b t (some vs) e ih =
    let le : sum vs ≤ length b = (next_size F started b vs e).1 in
    rw (
      readings_some F k started b vs e,
      readings_some F m started (b ++ t) vs (next_append F started b t vs e),
      numbers_append vs b t le,
      drop-append-le (sum vs) b t le,
    )
    (begins_after (numbers vs b) (ih (drop (sum vs) b)))

-- bits that go on, and records that may be more, give a reading that goes on
pub readings_begin : (F : Format) (k m : ℕ) (started : Bool) (b t : List ℕ) → k ≤ m
    → Begins (readings F k started b) (readings F m started (b ++ t))
unfolding readings
readings_begin F zero m started b t h = begins_nothing _
readings_begin F (suc k) zero started b t h = absurd (omega arith)
readings_begin F (suc k) (suc m) started b t h =
    begin_step F k m started b t (next F started b) refl (λ c. readings_begin F k m true c t (le_of_suc-le-suc h))

-- bytes that go on give a reading that goes on, in every format
pub reading_begins : (F : Format) {s t : List ℕ} → Begins s t → Begins (raw_reading F s) (raw_reading F t)
unfolding raw_reading
reading_begins F {s} {t} b =
    rw (b.is, stream_append s b.rest)
    (readings_begin F (length (stream s)) (length (stream s ++ stream b.rest)) false (stream s) (stream b.rest)
    (omega (arith, length-append (stream s) (stream b.rest))))

-- a cut anywhere gives a beginning
pub cut_begins : (F : Format) (s : List ℕ) (k : ℕ) → Begins (raw_reading F (take k s)) (raw_reading F s)
cut_begins F s k = reading_begins F (begins_of_take k s)
