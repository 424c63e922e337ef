-- The loop over vertices in 000 keeps what the raw reading has, wherever it asks whether the data is exhausted: where a vertex stands the
-- data is not. Assumes nothing.
use Prim.Native.Nat.{ℕ, zero, suc, ◌+◌, ◌*◌, ◌/◌, ◌≤◌, ◌<◌}
use mathlib.Core.Path.{◌≡◌, refl, sym, ap, ◌∙◌}
use mathlib.Core.Bool.{Bool, true, false, ◌&&◌, cond, and-false}
use mathlib.Core.List.{List, [], ◌∷◌, ◌++◌}
use mathlib.Core.Option.{some}
use native.Mathlib.Nat.{add-zero, add_assoc, lt_of_not-le}
use native.Mathlib.Decide.{dec_le}
use native.Mathlib.Omega.{arith}
use borrow.Author.Tests.{lt-leb}
use lib.ListN.{length, drop, replicate}
use lib.Seq.{drop-drop}
use Rattle.lists.specs.Lists.{All}
use Rattle.answers.specs.Limits.{most_bytes}
use Rattle.bits.specs.Bits.{stream, field_at}
use Rattle.bits.specs.Reading.{exhausted_at}
use Rattle.bits.proofs.Answers.{answer_number, answer_short}
use Rattle.bits.proofs.Streams.{length-stream}
use Rattle.records.specs.declared.shape.Kind.{Kind}
use Rattle.records.specs.Following.{follows}
use Rattle.records.specs.Layout.{widths_readable}
use Rattle.records.specs.Format.{sum, numbers, Format, shape_of, format, readings, raw_reading}
use Rattle.records.specs.Loop.{ok, cut, prepend, reads, kept_vertex, vertex_loop}
use Rattle.bits.proofs.Widths.{Width}
use Rattle.records.proofs.Layouts.{widths_readable_lem, record_widths}
use Rattle.records.proofs.Readings.{length_from, readings_none, readings_some, readings_enough}
use Rattle.records.proofs.Counts.{same_next, same_none, vertex_more}

-- ---- one vertex

module _ (s : List ℕ) (short : length s ≤ most_bytes) where
  read_there : (w : ℕ) (ws : List ℕ) (p : ℕ) → Width w → p + w ≤ 8 * length s → reads s p (w ∷ ws) ≡ prepend (field_at s p w) (reads s (p + w) ws)
  unfolding reads
  read_there w ws p a h = rw (sym (answer_number s p w a.some_bits a.few_bits h (omega arith)), reads)

  reads_whole : (ws : List ℕ) (p : ℕ) → All Width ws → p + sum ws ≤ 8 * length s
      → reads s p ws ≡ ok (numbers ws (drop p (stream s))) (p + sum ws)
  unfolding reads numbers sum field_at
  reads_whole [] p a h = rw add-zero
  reads_whole (w ∷ ws) p a h =
      read_there w ws p a.0 (omega arith)
      ∙ ap (prepend (field_at s p w)) (reads_whole ws (p + w) a.1 (omega arith))
      ∙ rw (drop-drop, add_assoc)

  reads_cut : (ws : List ℕ) (p : ℕ) → All Width ws → p ≤ 8 * length s → 8 * length s < p + sum ws → (q : ℕ) × (reads s p ws ≡ cut q)
  unfolding sum reads
  reads_cut [] p a b h = absurd (omega arith)
  reads_cut (w ∷ ws) p a b h = by_place (dec_le (p + w) (8 * length s)) (λ g. reads_cut ws (p + w) a.1 g (omega arith))
    where
      by_place : Dec (p + w ≤ 8 * length s) → (p + w ≤ 8 * length s → (q : ℕ) × (reads s (p + w) ws ≡ cut q)) → (q : ℕ) × (reads s p (w ∷ ws) ≡ cut q)
      by_place (yes g) ih = let r = ih g in (r.0, read_there w ws p a.0 g ∙ ap (prepend (field_at s p w)) r.1)
      by_place (no g) ih = (p, rw (sym (answer_short s p w a.0.some_bits (lt_of_not-le g)), reads))

-- ---- the loop

either : (b : Bool) → cond {A = List ℕ} b [] [] ≡ []
either true = refl
either false = refl

module _ (asks : ℕ → Bool) (ws s : List ℕ) where
  loop_whole : (k p : ℕ) (xs : List ℕ) (q : ℕ) → exhausted_at s p ≡ false → reads s p ws ≡ ok xs q
      → vertex_loop asks ws s (suc k) p ≡ xs ++ vertex_loop asks ws s k q
  unfolding vertex_loop kept_vertex
  loop_whole k p xs q e f = rw (e, and-false, f)

  loop_cut : (k p q : ℕ) → reads s p ws ≡ cut q → vertex_loop asks ws s (suc k) p ≡ []
  unfolding vertex_loop kept_vertex
  loop_cut k p q f = rw f (either (asks p && exhausted_at s p))

-- where a vertex stands, the data is not exhausted
not_exhausted : (s : List ℕ) (p : ℕ) → p < 8 * length s → exhausted_at s p ≡ false
not_exhausted s p h = lt-leb (length s) (p / 8) (omega arith)

module _ (asks : ℕ → Bool) (F : Format) (ws : List ℕ) (same : (started : Bool) (x : ℕ) → F.more started x ≡ some ws)
    (widths : All Width (F.first ∷ ws)) (s : List ℕ) (short : length s ≤ most_bytes) where
  loop_turn : (k p : ℕ) (started : Bool) → p ≤ 8 * length s → Dec (p + sum (F.first ∷ ws) ≤ 8 * length s)
      → ((q : ℕ) → q ≤ 8 * length s → vertex_loop asks (F.first ∷ ws) s k q ≡ readings F k true (drop q (stream s)))
      → vertex_loop asks (F.first ∷ ws) s (suc k) p ≡ readings F (suc k) started (drop p (stream s))
  unfolding sum
  loop_turn k p started b (yes g) ih =
      let f = widths.0 in
      let d = length_from s p b in
      loop_whole asks (F.first ∷ ws) s k p _ _ (not_exhausted s p (omega arith)) (reads_whole s short (F.first ∷ ws) p widths g)
      ∙ ap (λ (l : List ℕ). numbers (F.first ∷ ws) (drop p (stream s)) ++ l) (ih (p + (F.first + sum ws)) g ∙ rw (← (drop-drop (F.first + sum ws) p (stream s))))
      ∙ sym (readings_some F k started (drop p (stream s)) (F.first ∷ ws) (same_next F ws same started (drop p (stream s)) (omega arith)))
  loop_turn k p started b (no g) ih =
      let d = length_from s p b in
      let c = reads_cut s short (F.first ∷ ws) p widths b (lt_of_not-le g) in
      loop_cut asks (F.first ∷ ws) s k p c.0 c.1
      ∙ sym (readings_none F (suc k) started (drop p (stream s)) (same_none F ws same started (drop p (stream s)) (omega arith)))

  loop_from : (k p : ℕ) (started : Bool) → p ≤ 8 * length s → vertex_loop asks (F.first ∷ ws) s k p ≡ readings F k started (drop p (stream s))
  unfolding vertex_loop readings
  loop_from zero p started b = refl
  loop_from (suc k) p started b =
      loop_turn k p started b (dec_le (p + sum (F.first ∷ ws)) (8 * length s)) (λ q h. loop_from k q true h)

  loop_reads : (k : ℕ) → 8 * length s ≤ k → vertex_loop asks (F.first ∷ ws) s k 0 ≡ raw_reading F s
  unfolding raw_reading
  loop_reads k h =
      let n = length-stream s in
      loop_from k 0 false (omega arith)
      ∙ readings_enough F k (length (stream s)) false (stream s) widths.0.some_bits (omega arith) (omega arith)

-- the vertices of Types 4 and 5, with as many turns as there may be
pub vertex_loop_lem : (asks : ℕ → Bool) (kind : Kind) (first coord comp n coords : ℕ)
    → ((started : Bool) (x : ℕ) → shape_of kind started x ≡ follows coords 1) → widths_readable first coord comp ≡ true
    → (s : List ℕ) → length s ≤ most_bytes → (k : ℕ) → 8 * length s ≤ k
    → vertex_loop asks (first ∷ (replicate coords coord ++ replicate n comp)) s k 0 ≡ raw_reading (format kind first coord comp n) s
vertex_loop_lem asks kind first coord comp n coords shape readable s short k h =
    loop_reads asks (format kind first coord comp n) (replicate coords coord ++ replicate n comp) (vertex_more kind first coord comp n coords shape)
    (record_widths coords n (widths_readable_lem first coord comp readable)) s short k h
