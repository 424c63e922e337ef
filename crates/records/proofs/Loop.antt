-- After a cut patch the loop of 000 finds no other, since the read that failed wanted no more bits than any later record does. So the loop
-- ends and gives the raw reading. Assumes nothing.
use mathlib.Core.Path.{◌≡◌, refl, sym, ap, ◌∙◌}
use mathlib.Core.Bool.{Bool, true, false}
use mathlib.Core.List.{List, [], ◌∷◌}
use mathlib.Core.Option.{Option, none, some, none-ne-some, some-injective}
use Prim.Native.Nat.{ℕ, zero, suc, ◌+◌, ◌-◌, ◌*◌, ◌/◌, ◌^◌, ◌≤◌, ◌<◌}
use native.Mathlib.Nat.{add-zero, add_assoc, mul-le-mul, mul-zero, le_refl, lt_of_not-le}
use native.Mathlib.Decide.{dec_le}
use native.Mathlib.Omega.{arith}
use borrow.Author.Tests.{le-leb, lt-leb}
use lib.ListN.{length, take, drop, replicate, length-drop}
use lib.Seq.{drop-drop}
use Rattle.lists.specs.Lists.{All}
use Rattle.lists.proofs.Members.{all_append, all_replicate}
use Rattle.bits.specs.Bits.{bits_of, number, stream, field_at}
use Rattle.bits.specs.Reading.{read_at}
use Rattle.bits.proofs.Streams.{length-stream}
use Rattle.bits.proofs.Answers.{answer_number, answer_short}
use Rattle.records.specs.declared.shape.Kind.{Kind}
use Rattle.records.specs.declared.shape.Kind.TheVariants.{Four, Five, Six, Seven}
use Rattle.std.specs.Prelude.{Some, None}
use Rattle.records.specs.Following.{Following}
use Rattle.records.specs.Layout.{widths_readable}
use Rattle.records.specs.Format.{sum, numbers, Format, patch_shape, shape_of, widths_of, format, next, readings, raw_reading}
use Rattle.records.specs.Loop.{ok, cut, prepend, reads, pushed, patch_round, flagged, loop}
use Rattle.records.proofs.Layouts.{widths_readable_lem}
use Rattle.records.proofs.Shapes.{every_patch}
use Rattle.records.proofs.Readings.{sum-append, sum-replicate, next_fits, next_none, readings_none, readings_some}

-- a width that can be read, m bits at most
abbrev Width : ℕ → ℕ → Type 0
Width m w = (1 ≤ w) × (w ≤ 32) × (w ≤ m)

-- each record can be read, and takes m bits at least after its first number, which is no less than any of its widths
record Level (F : Format) (m : ℕ) : Type 0 where
  first_some : 1 ≤ F.first
  first_few : F.first ≤ 32
  widths : (started : Bool) (x : ℕ) (ws : List ℕ) → F.more started x ≡ some ws → All (Width m) ws × (m ≤ sum ws)

-- ---- the reads of a patch

module _ (s : List ℕ) (short : length s < 2 ^ 61) (m : ℕ) where
  read_some : (p w : ℕ) → Width m w → p + w ≤ 8 * length s → read_at s p w ≡ Some (number (take w (drop p (stream s))), record { 0 = p + w })
  unfolding field_at
  read_some p w l e = sym (answer_number s p w l.0 l.1 e (omega arith))

  -- all the bits are there
  reads_ok : (p : ℕ) (ws : List ℕ) → All (Width m) ws → p + sum ws ≤ 8 * length s → reads s p ws ≡ ok (numbers ws (drop p (stream s))) (p + sum ws)
  unfolding reads numbers sum
  reads_ok p [] a h = rw add-zero
  reads_ok p (w ∷ ws) a h =
      rw (read_some p w a.0 (omega arith), reads) (rw (reads_ok (p + w) ws a.1 (omega arith), drop-drop w p (stream s), add_assoc))

  -- a read fails for want of at most m bits
  record Cut (p : ℕ) (ws : List ℕ) : Type 0 where
    place : ℕ
    failed : reads s p ws ≡ cut place
    onward : p ≤ place
    within : place ≤ 8 * length s
    wanting : 8 * length s < place + m

  reads_cut : (p : ℕ) (ws : List ℕ) → All (Width m) ws → p ≤ 8 * length s → 8 * length s < p + sum ws → Cut p ws
  unfolding sum reads
  reads_cut p [] a q h = absurd (omega arith)
  reads_cut p (w ∷ ws) a q h = by_bits (dec_le (p + w) (8 * length s)) (λ l. reads_cut (p + w) ws a.1 l (omega arith))
    where
      by_bits : Dec (p + w ≤ 8 * length s) → (p + w ≤ 8 * length s → Cut (p + w) ws) → Cut p (w ∷ ws)
      by_bits (yes l) ih =
          let r = ih l in
          record {
            place = r.place;
            failed = rw (read_some p w a.0 l, reads) (ap (prepend (number (take w (drop p (stream s))))) r.failed);
            onward = omega (arith, r.onward);
            within = r.within;
            wanting = r.wanting;
          }
      by_bits (no l) ih =
          let b = lt_of_not-le l in
          record {
            place = p;
            failed = rw (sym (answer_short s p w a.0.0 b), reads);
            onward = omega arith;
            within = q;
            wanting = omega (arith, a.0.2);
          }

-- ---- the loop

module _ (F : Format) (m : ℕ) (lv : Level F m) (s : List ℕ) (short : length s < 2 ^ 61) where
  -- the bits from place p on, and the first number there
  abbrev bits : ℕ → List ℕ
  bits p = drop p (stream s)

  abbrev flag : ℕ → ℕ
  flag p = number (take F.first (bits p))

  length-bits : (p : ℕ) → length (bits p) ≡ 8 * length s - p
  length-bits p = length-drop p (stream s) ∙ ap (λ (n : ℕ). n - p) (length-stream s)

  -- where no record has its bits, none stands
  too_few : (started : Bool) (p : ℕ) → 8 * length s < p + F.first + m → next F started (bits p) ≡ none
  too_few started p h = next_none F started (bits p) (λ ws e. omega (arith, length-bits p, (lv.widths started _ ws e).1))

  -- what the loop comes to from place p on, and the raw reading, where k bounds the rounds and n the records
  abbrev Same : ℕ → ℕ → Bool → ℕ → Type 0
  Same k n started p = p ≤ 8 * length s → 8 * length s < p + k → 8 * length s ≤ p + n → loop F s k started p ≡ some (readings F n started (bits p))

  -- a round, by what the rounds after it come to
  module _ (k : ℕ) (started : Bool) (p : ℕ) (rest : (n : ℕ) (t : Bool) (q : ℕ) → Same k n t q) where
    both_end : (n : ℕ) → loop F s (suc k) started p ≡ some [] → next F started (bits p) ≡ none
        → loop F s (suc k) started p ≡ some (readings F n started (bits p))
    both_end n e z = e ∙ ap some (sym (readings_none F n started (bits p) z))

    loop_flag : p / 8 < length s → p + F.first ≤ 8 * length s
        → loop F s (suc k) started p ≡ patch_round s (loop F s k) started (flag p) (p + F.first) (F.more started (flag p))
    unfolding loop flagged field_at
    loop_flag h e =
        rw (lt-leb (length s) (p / 8) h, sym (answer_number s p F.first lv.first_some lv.first_few e (omega arith)))

    by_bits : (n : ℕ) (ws : List ℕ) → p / 8 < length s → p + F.first ≤ 8 * length s → F.more started (flag p) ≡ some ws
        → Dec (p + F.first + sum ws ≤ 8 * length s) → Same (suc k) n started p
    unfolding patch_round pushed numbers sum
    by_bits zero ws l e z (yes b) h f g = absurd (omega (arith, lv.first_some))
    by_bits (suc n) ws l e z (yes b) h f g =
        let few = lv.first_some in
        let fits : F.first + sum ws ≤ length (bits p) = rw length-bits (omega arith) in
        let r = rest n true (p + F.first + sum ws) b (omega arith) (omega arith) in
        loop_flag l e
        ∙ rw (z, reads_ok s short m (p + F.first) ws (lv.widths started _ ws z).0 b, r)
        (rw (
          readings_some F n started (bits p) (F.first ∷ ws) (next_fits F started (bits p) ws z fits),
          drop-drop F.first p (stream s),
          drop-drop (F.first + sum ws) p (stream s),
          add_assoc,
        ))
    by_bits n ws l e z (no b) h f g =
        let few = lv.first_some in
        let c = reads_cut s short m (p + F.first) ws (lv.widths started _ ws z).0 e (lt_of_not-le b) in
        let on = c.onward in
        let there = rest n started c.place c.within (omega arith) (omega arith) in
        let none-there = readings_none F n started (bits c.place) (too_few started c.place (omega (arith, c.wanting))) in
        let wants = lt_of_not-le b in
        let none_here = next_none F started (bits p) (λ vs y. let u : vs ≡ ws = cc in rw u (omega (arith, length-bits p))) in
        both_end n (loop_flag l e ∙ rw (z, c.failed, there, none-there)) none_here

    by_more : (n : ℕ) (o : Option (List ℕ)) → p / 8 < length s → p + F.first ≤ 8 * length s → F.more started (flag p) ≡ o → Same (suc k) n started p
    unfolding patch_round
    by_more n none l e z h f g = both_end n (loop_flag l e ∙ rw z) (next_none F started (bits p) (λ ws y. absurd (none-ne-some ws (sym z ∙ y))))
    by_more n (some ws) l e z h f g = by_bits n ws l e z (dec_le (p + F.first + sum ws) (8 * length s)) h f g

    by_flag : (n : ℕ) → p / 8 < length s → Dec (p + F.first ≤ 8 * length s) → Same (suc k) n started p
    unfolding loop flagged
    by_flag n l (yes e) h f g = by_more n (F.more started (flag p)) l e refl h f g
    by_flag n l (no e) h f g =
        let b = lt_of_not-le e in
        both_end n (rw (lt-leb (length s) (p / 8) l, sym (answer_short s p F.first lv.first_some b))) (too_few started p (omega arith))

    by_place : (n : ℕ) → Dec (length s ≤ p / 8) → Same (suc k) n started p
    unfolding loop
    by_place n (yes l) h f g = both_end n (rw (le-leb (length s) (p / 8) l)) (too_few started p (omega (arith, lv.first_some)))
    by_place n (no l) h f g = by_flag n (lt_of_not-le l) (dec_le (p + F.first) (8 * length s)) h f g

  loop_reading : (k n : ℕ) (started : Bool) (p : ℕ) → Same k n started p
  loop_reading zero n started p h f g = absurd (omega arith)
  loop_reading (suc k) n started p h f g = by_place k started p (λ i t q a b c. loop_reading k i t q a b c) n (dec_le (length s) (p / 8)) h f g

  loop_is_reading : (rounds : ℕ) → 8 * length s < rounds → loop F s rounds false 0 ≡ some (raw_reading F s)
  unfolding raw_reading
  loop_is_reading rounds h = loop_reading rounds (length (stream s)) false 0 (omega arith) (omega arith) (omega (arith, length-stream s))

-- ---- the four mesh types

-- a coordinate and a colour at least follow a record's first number
Filled : Following → Type 0
Filled (Some shape) = (1 ≤ shape.coords) × (1 ≤ shape.colours)
Filled None = Unit {0}

patch_filled : (own : ℕ) → 1 ≤ own → (started : Bool) (x : ℕ) → Filled (patch_shape own started x)
unfolding Filled
patch_filled own o started x = every_patch Filled own started x (omega arith) (omega arith) tt

shape_filled : (kind : Kind) (started : Bool) (x : ℕ) → Filled (shape_of kind started x)
unfolding Filled
shape_filled Four started x = omega arith
shape_filled Five started x = omega arith
shape_filled Six started x = patch_filled 8 (omega arith) started x
shape_filled Seven started x = patch_filled 12 (omega arith) started x

module _ (coord comp : ℕ) (c : (1 ≤ coord) × (coord ≤ 32)) (d : (1 ≤ comp) × (comp ≤ 32)) where
  component_widths : (n colours : ℕ) → All (Width (coord + n * comp)) (replicate (colours * n) comp)
  component_widths zero colours = rw mul-zero tt
  component_widths (suc n) colours = all_replicate (Width (coord + suc n * comp)) (colours * suc n) comp (omega arith)

  shape_widths : (n : ℕ) (sh : Following) (ws : List ℕ) → widths_of coord comp n sh ≡ some ws → Filled sh
      → All (Width (coord + n * comp)) ws × (coord + n * comp ≤ sum ws)
  unfolding Filled
  shape_widths n (Some shape) ws e f =
      rw (← some-injective _ ws e) (
        all_append (Width (coord + n * comp)) (replicate shape.coords coord) (replicate (shape.colours * n) comp)
            (all_replicate (Width (coord + n * comp)) shape.coords coord (omega arith)) (component_widths n shape.colours),
        omega (
          arith,
          sum-append (replicate shape.coords coord) (replicate (shape.colours * n) comp),
          sum-replicate shape.coords coord,
          sum-replicate (shape.colours * n) comp,
          mul-le-mul f.0 (le_refl coord),
          mul-le-mul f.1 (le_refl (n * comp)),
        ),
      )
  shape_widths n None ws e f = absurd (none-ne-some ws e)

  every_level : (kind : Kind) (first n : ℕ) → (1 ≤ first) × (first ≤ 32) → Level (format kind first coord comp n) (coord + n * comp)
  every_level kind first n f =
      record {
        first_some = f.0;
        first_few = f.1;
        widths = λ started x ws e. shape_widths n (shape_of kind started x) ws e (shape_filled kind started x);
      }

-- AFTER A CUT PATCH NO PATCH COMES. The loop that 000 has for Types 6 and 7 reads on from the bits left over. It is over within a round more than
-- there are bits, and has pushed the raw reading, which stops at the first record that is not complete. It would do so in any format; under
-- 2 ^ 61 bytes are as many as have their bits counted in a usize.
pub loop_gives_raw_reading : (kind : Kind) (first coord comp n : ℕ) → widths_readable first coord comp ≡ true → (s : List ℕ) → length s < 2 ^ 61
    → (rounds : ℕ) → 8 * length s < rounds
    → loop (format kind first coord comp n) s rounds false 0 ≡ some (raw_reading (format kind first coord comp n) s)
loop_gives_raw_reading kind first coord comp n e s short =
    let w = widths_readable_lem first coord comp e in
    loop_is_reading (format kind first coord comp n) (coord + n * comp)
    (every_level coord comp (w.of_coord.some_bits, w.of_coord.few_bits) (w.of_comp.some_bits, w.of_comp.few_bits) kind first n
    (w.of_first.some_bits, w.of_first.few_bits))
    s short

-- it does go on: of three bytes of zeros, with flags of 2 bits and coordinates of 32, the first patch is cut at once, and eleven more flags are read
-- before the data end
pub goes_on : let F : Format = format Six 2 32 8 0 in
    (loop F (0 ∷ 0 ∷ 0 ∷ []) 12 false 0 ≡ none) × (loop F (0 ∷ 0 ∷ 0 ∷ []) 13 false 0 ≡ some [])
unfolding loop flagged patch_round pushed reads read_at field_at number stream bits_of
goes_on = (refl, refl)
