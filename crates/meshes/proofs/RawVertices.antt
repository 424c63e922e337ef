-- The raw reading of a Type 4 or Type 5 mesh is its vertices one after the other, each as many bits after the one before. Assumes nothing.
use Prim.Native.Nat.{ℕ, zero, suc, ◌+◌, ◌*◌, ◌/◌, ◌≤◌, ◌<◌}
use mathlib.Core.Path.{◌≡◌, refl, sym, ap, ◌∙◌}
use mathlib.Core.Bool.{Bool, true, false}
use mathlib.Core.List.{List, ◌∷◌, ◌++◌}
use mathlib.Core.Option.{some}
use native.Mathlib.Nat.{add_comm, zero-mul, suc-mul, div-eq_of_lt, div-eq-sub-div, lt_of_not-le}
use native.Mathlib.Numerals.{add-one}
use native.Mathlib.Decide.{dec_le}
use native.Mathlib.Omega.{arith}
use lib.ListN.{length, drop, replicate, length-drop}
use lib.Seq.{drop-drop}
use Rattle.lists.specs.Lists.{joined}
use Rattle.lists.proofs.Pieces.{joined_same}
use Rattle.bits.specs.Bits.{stream}
use Rattle.bits.proofs.Streams.{length-stream}
use Rattle.records.specs.declared.shape.Kind.TheVariants.{Four, Five}
use Rattle.records.specs.Format.{sum, numbers, Meaning, Format, format_by, format, readings, raw_reading}
use Rattle.records.proofs.Readings.{readings_none, readings_some, sum-append, sum-replicate}
use Rattle.records.proofs.Counts.{same_next, same_none, vertex_more}
use Rattle.meshes.proofs.Parts.{joined_first}

-- ---- records that all have the same widths

module _ (F : Format) (ws : List ℕ) (same : (started : Bool) (x : ℕ) → F.more started x ≡ some ws) (first : 1 ≤ F.first) where
  abbrev bits : ℕ
  bits = F.first + sum ws

  abbrev records : List ℕ → ℕ → List ℕ
  records b i = numbers (F.first ∷ ws) (drop (i * bits) b)

  one_more : (b : List ℕ) → bits ≤ length b
      → joined (length b / bits) (records b) ≡ numbers (F.first ∷ ws) b ++ joined (length (drop bits b) / bits) (records (drop bits b))
  one_more b h =
      let k : ℕ = length (drop bits b) / bits in
      let e : length b / bits ≡ suc k = rw (div-eq-sub-div (omega arith) h, length-drop, add-one) in
      ap (λ (m : ℕ). joined m (records b)) e
      ∙ joined_first k (records b)
      ∙ ap (λ (m : ℕ). numbers (F.first ∷ ws) (drop m b) ++ joined k (λ (i : ℕ). records b (suc i))) (zero-mul bits)
      ∙ ap (λ (r : List ℕ). numbers (F.first ∷ ws) b ++ r)
      (joined_same k _ _ (λ i l. ap (numbers (F.first ∷ ws)) (ap (λ (m : ℕ). drop m b) (suc-mul i bits ∙ add_comm (i * bits) bits) ∙ sym (drop-drop (i * bits) bits b))))

  none_here : (k : ℕ) (started : Bool) (b : List ℕ) → length b < bits → readings F k started b ≡ joined (length b / bits) (records b)
  unfolding joined
  none_here k started b h = rw (readings_none F k started b (same_none F ws same started b h), div-eq_of_lt h)

  one_here : (k : ℕ) (started : Bool) (b : List ℕ) → bits ≤ length b
      → readings F k true (drop bits b) ≡ joined (length (drop bits b) / bits) (records (drop bits b))
      → readings F (suc k) started b ≡ joined (length b / bits) (records b)
  unfolding sum
  one_here k started b g rest =
      readings_some F k started b (F.first ∷ ws) (same_next F ws same started b g)
      ∙ ap (λ (r : List ℕ). numbers (F.first ∷ ws) b ++ r) rest
      ∙ sym (one_more b g)

  same_readings : (k : ℕ) (started : Bool) (b : List ℕ) → length b ≤ k → readings F k started b ≡ joined (length b / bits) (records b)
  same_readings zero started b h = none_here zero started b (omega arith)
  same_readings (suc k) started b h = by (dec_le bits (length b)) (λ g. same_readings k true (drop bits b) (rw length-drop (omega arith)))
    where
      by : Dec (bits ≤ length b)
          → (bits ≤ length b → readings F k true (drop bits b) ≡ joined (length (drop bits b) / bits) (records (drop bits b)))
          → readings F (suc k) started b ≡ joined (length b / bits) (records b)
      by (yes g) rest = one_here k started b g (rest g)
      by (no g) rest = none_here (suc k) started b (lt_of_not-le g)

  pub same_records : (size : ℕ) → bits ≡ size → (s : List ℕ)
      → raw_reading F s ≡ joined (8 * length s / size) (λ (i : ℕ). numbers (F.first ∷ ws) (drop (i * size) (stream s)))
  unfolding raw_reading
  same_records size e s = rw (← e, ← (length-stream s)) (same_readings (length (stream s)) false (stream s) (omega arith))

-- ---- vertices

vertex_bits : (first coords coord n comp : ℕ) → first + sum (replicate coords coord ++ replicate n comp) ≡ first + (coords * coord + n * comp)
vertex_bits first coords coord n comp =
    rw (sum-append (replicate coords coord) (replicate n comp), sum-replicate coords coord, sum-replicate n comp)

-- how many places a vertex takes, with so many for its flag
abbrev pub vertex_size : ℕ → ℕ → ℕ → ℕ → ℕ
vertex_size lead coord comp n = lead + (2 * coord + n * comp)

module _ (s : List ℕ) (coord comp n : ℕ) where
  -- flag, x, y and components
  pub raw_type4 : (meaning : Meaning) (flag : ℕ) → 1 ≤ flag
      → let size : ℕ = vertex_size flag coord comp n in
      raw_reading (format_by meaning Four flag coord comp n) s
      ≡ joined (8 * length s / size) (λ (i : ℕ). numbers (flag ∷ coord ∷ coord ∷ replicate n comp) (drop (i * size) (stream s)))
  raw_type4 meaning flag h =
      same_records (format_by meaning Four flag coord comp n) (coord ∷ coord ∷ replicate n comp) (vertex_more Four flag coord comp n 2 (λ started x. refl)) h
      (vertex_size flag coord comp n) (vertex_bits flag 2 coord n comp) s

  -- x, y and components
  pub raw_type5 : 1 ≤ coord
      → let size : ℕ = vertex_size 0 coord comp n in
      raw_reading (format Five coord coord comp n) s
      ≡ joined (8 * length s / size) (λ (i : ℕ). numbers (coord ∷ coord ∷ replicate n comp) (drop (i * size) (stream s)))
  raw_type5 h =
      same_records (format Five coord coord comp n) (coord ∷ replicate n comp) (vertex_more Five coord coord comp n 1 (λ started x. refl)) h
      (vertex_size 0 coord comp n) (vertex_bits coord 1 coord n comp ∙ omega arith) s
