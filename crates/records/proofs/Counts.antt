-- Types 4 and 5, where all records have the same size: as many are read as the bits hold. Assumes nothing.
use Prim.Native.Nat.{ℕ, zero, suc, ◌+◌, ◌*◌, ◌/◌, ◌^◌, ◌≤◌, ◌<◌}
use mathlib.Core.Path.{◌≡◌, refl, sym, ◌∙◌}
use mathlib.Core.Bool.{Bool, false, true}
use mathlib.Core.List.{List, ◌∷◌, ◌++◌}
use mathlib.Core.Option.{none, some, some-injective}
use native.Mathlib.Nat.{zero-mul, one-mul, div-eq_of_lt, div-eq-sub-div, div-le_self, mul-le-mul, le_trans, lt_of_not-le}
use native.Mathlib.Decide.{dec_le}
use native.Mathlib.Omega.{arith}
use lib.ListN.{length, drop, replicate, length-append, length-drop, length-replicate}
use Rattle.answers.specs.Limits.{most_bytes}
use Rattle.bits.specs.Bits.{stream}
use Rattle.bits.proofs.Streams.{length-stream}
use Rattle.records.specs.declared.shape.Kind.{Kind}
use Rattle.records.specs.declared.shape.Kind.TheVariants.{Four, Five}
use Rattle.records.specs.Following.{follows}
use Rattle.records.specs.Format.{sum, Format, shape_of, format, next, readings, raw_reading}
use Rattle.records.proofs.Readings.{sum-append, sum-replicate, length-numbers, next_none, next_fits, readings_none, readings_some}

-- ---- records that all have the same widths

module _ (F : Format) (ws : List ℕ) (same : (started : Bool) (x : ℕ) → F.more started x ≡ some ws) where
  pub same_next : (started : Bool) (b : List ℕ) → F.first + sum ws ≤ length b → next F started b ≡ some (F.first ∷ ws)
  same_next started b h = next_fits F started b ws (same started _) h

  pub same_none : (started : Bool) (b : List ℕ) → length b < F.first + sum ws → next F started b ≡ none
  same_none started b h = next_none F started b (λ vs e. rw (← some-injective _ _ (sym (same started _) ∙ e)) h)

  abbrev AsMany : ℕ → Bool → List ℕ → Type 0
  AsMany k started b = length (readings F k started b) ≡ length b / (F.first + sum ws) * (1 + length ws)

  count_none : (k : ℕ) (started : Bool) (b : List ℕ) → length b < F.first + sum ws → AsMany k started b
  count_none k started b h = rw (readings_none F k started b (same_none started b h), div-eq_of_lt h, zero-mul)

  count_some : (k : ℕ) (started : Bool) (b : List ℕ) → 1 ≤ F.first → F.first + sum ws ≤ length b
      → AsMany k true (drop (F.first + sum ws) b) → AsMany (suc k) started b
  unfolding sum
  count_some k started b f h ih =
      let e = readings_some F k started b (F.first ∷ ws) (same_next started b h) in
      rw (e, length-append, length-numbers, ih, length-drop, div-eq-sub-div (omega arith) h) (omega arith)

  count_same : 1 ≤ F.first → (k : ℕ) (started : Bool) (b : List ℕ) → length b ≤ k → AsMany k started b
  count_same f zero started b h = count_none zero started b (omega arith)
  count_same f (suc k) started b h =
      by_size (dec_le (F.first + sum ws) (length b)) (λ g. count_same f k true (drop (F.first + sum ws) b) (rw length-drop (omega arith)))
    where
      by_size : Dec (F.first + sum ws ≤ length b) → (F.first + sum ws ≤ length b → AsMany k true (drop (F.first + sum ws) b)) → AsMany (suc k) started b
      by_size (yes g) ih = count_some k started b f g (ih g)
      by_size (no g) ih = count_none (suc k) started b (lt_of_not-le g)

-- ---- vertices

module _ (kind : Kind) (first coord comp n coords : ℕ) (shape : (started : Bool) (x : ℕ) → shape_of kind started x ≡ follows coords 1) where
  pub vertex_more : (started : Bool) (x : ℕ) → (format kind first coord comp n).more started x ≡ some (replicate coords coord ++ replicate n comp)
  vertex_more started x = rw (shape started x, one-mul)

  -- as many vertices as the bits hold, each with its first number, the coordinates after it and the components
  pub vertex_count : 1 ≤ first → (s : List ℕ)
      → length (raw_reading (format kind first coord comp n) s) ≡ 8 * length s / (first + (coords * coord + n * comp)) * (1 + coords + n)
  unfolding raw_reading
  vertex_count f s =
      let ws : List ℕ = replicate coords coord ++ replicate n comp in
      let a : sum ws ≡ coords * coord + n * comp = rw (sum-append (replicate coords coord) (replicate n comp), sum-replicate coords coord, sum-replicate n comp) in
      let b : 1 + length ws ≡ 1 + coords + n = rw (length-append, length-replicate coords coord, length-replicate n comp) (omega arith) in
      count_same (format kind first coord comp n) ws vertex_more f (length (stream s)) false (stream s) (omega arith)
      ∙ rw (length-stream, a, b)

pub type4_count : (flag coord comp n : ℕ) → 1 ≤ flag → (s : List ℕ)
    → length (raw_reading (format Four flag coord comp n) s) ≡ 8 * length s / (flag + (2 * coord + n * comp)) * (3 + n)
type4_count flag coord comp n = vertex_count Four flag coord comp n 2 (λ started x. refl)

pub type5_count : (coord comp n : ℕ) → 1 ≤ coord → (s : List ℕ)
    → length (raw_reading (format Five coord coord comp n) s) ≡ 8 * length s / (2 * coord + n * comp) * (2 + n)
type5_count coord comp n h s =
    let e : coord + (1 * coord + n * comp) ≡ 2 * coord + n * comp = omega arith in
    rw (← e) (vertex_count Five coord coord comp n 1 (λ started x. refl) h s)

-- of the bytes that LENGTH allows, a usize counts them
pub vertices_fit : (bytes bits each : ℕ) → bytes ≤ most_bytes → each ≤ 35 → 8 * bytes / bits * each < 2 ^ 64
vertices_fit bytes bits each h g =
    let v : 8 * bytes / bits ≤ 134217728 = le_trans (div-le_self (8 * bytes) bits) (omega arith) in
    omega (arith, mul-le-mul v g)
