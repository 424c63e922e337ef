-- The records of a patch mesh in bits: the raw reading and Decode against the places of the bits. Assumes nothing.
use Prim.Native.Nat.{ℕ, zero, suc, ◌+◌, ◌*◌, ◌≤◌, ◌<◌}
use mathlib.Core.Path.{◌≡◌, refl, sym, ap, ◌∙◌}
use mathlib.Core.Bool.{Bool, true}
use mathlib.Core.List.{List, [], ◌∷◌, ◌++◌}
use mathlib.Core.Option.{Option, none, some, none-ne-some, some-injective}
use native.Mathlib.Nat.{lt_of_not-le}
use native.Mathlib.Decide.{dec_le}
use native.Mathlib.Omega.{arith}
use borrow.Author.Tests.{le-leb, lt-leb}
use lib.Dec.{eqb-suc-zero}
use lib.ListN.{length, take, drop, replicate, length-drop}
use lib.Seq.{drop-drop}
use Rattle.bits.specs.Bits.{number, stream, field_at}
use Rattle.decode.specs.Decode.{Ranges}
use Rattle.colour.specs.Inner.Places.{bit_numbers}
use Rattle.records.specs.Format.{sum, Meaning, Format, patch_shape, widths_of, readings, raw_reading, points_after, colours_after}
use Rattle.records.proofs.Readings.{sum-append, sum-replicate, next_fits, next_none, readings_none, readings_enough, length_from}
use Rattle.rules.specs.Patches.{Table, mesh}
use Rattle.rules.specs.Meshes.{piece, pieces, patch_mesh}
use Rattle.rules.proofs.Meshes.{pieces_none}
use Rattle.rules.proofs.RawReading.{there, patch_format, pieces_reading}
use Rattle.meshes.specs.Decoded.{by_decode}
use Rattle.meshes.proofs.Standing.{reads_decode, body_numbers, in_bits}
use Rattle.meshes.proofs.PatchRecords.{RowPatch, highest, record_places, Records, row_pieces, records_of}

module _ (flag : Meaning) (own first coord comp n : ℕ) where
  abbrev F : Format
  F = patch_format flag own first coord comp n

  abbrev size : ℕ → ℕ
  size f = record_places own first coord comp n f

  -- the widths after a flag
  abbrev after : ℕ → List ℕ
  after f = replicate (2 * points_after own f) coord ++ replicate (colours_after f * n) comp

  sum-after : (f : ℕ) → first + sum (after f) ≡ size f
  sum-after f =
      omega (
        arith,
        sum-append (replicate (2 * points_after own f) coord) (replicate (colours_after f * n) comp),
        sum-replicate (2 * points_after own f) coord,
        sum-replicate (colours_after f * n) comp,
      )

  more_allowed : {P : Type 0} (b : Option P) (f : ℕ) → f ≤ highest b → widths_of coord comp n (patch_shape own (there b) f) ≡ some (after f)
  more_allowed b zero h = refl
  more_allowed none (suc f) h = absurd (omega arith)
  more_allowed (some b) (suc f) h = rw (eqb-suc-zero f, le-leb (suc f) 3 h)

  more_ends : {P : Type 0} (b : Option P) (f : ℕ) → highest b < f → widths_of coord comp n (patch_shape own (there b) f) ≡ none
  more_ends b zero h = absurd (omega arith)
  more_ends none (suc f) h = rw (eqb-suc-zero f)
  more_ends (some b) (suc f) h = rw (eqb-suc-zero f, lt-leb (suc f) 3 h)

  module _ (some_bits : 1 ≤ first) (s : List ℕ) where
    -- the raw numbers from bit p on, once there is a patch or not
    abbrev rest : Bool → ℕ → List ℕ
    rest started p = readings F (length (stream s)) started (drop p (stream s))

    left : (p : ℕ) → length (drop p (stream s)) ≤ length (stream s)
    left p = rw length-drop (omega arith)

    -- the numbers of the record at bit p, after its flag
    abbrev body : ℕ → ℕ → List ℕ
    body p f = body_numbers s coord comp (2 * points_after own f) (colours_after f * n) (p + first)

    takes : {P : Type 0} (b : Option P) (p f : ℕ) → f ≡ flag (field_at s p first) → f ≤ highest b → p + size f ≤ 8 * length s
        → pieces 0 flag own n (rest (there b) p) ≡ piece 0 own n f (body p f) ∷ pieces 0 flag own n (rest true (p + size f))
    unfolding field_at
    takes b p f e a h =
        let bits : List ℕ = drop p (stream s) in
        let m : F.more (there b) (number (take first bits)) ≡ some (after f) = rw (← e) (more_allowed b f a) in
        let w = sum-after f in
        let fits : first + sum (after f) ≤ length bits = omega (arith, length_from s p (omega arith)) in
        let stands = next_fits F (there b) bits (after f) m fits in
        let k : ℕ = length (stream s) in
        rw (
          readings_enough F k (suc k) (there b) bits some_bits (left p) (omega (arith, left p)),
          pieces_reading flag own first coord comp n k (there b) bits (after f) m stands,
          ← e,
          drop-drop first p (stream s),
          drop-drop (first + sum (after f)) p (stream s),
          w,
        )

    stops : {P : Type 0} (b : Option P) (p : ℕ) → p ≤ 8 * length s
        → (flag (field_at s p first) ≤ highest b → 8 * length s < p + size (flag (field_at s p first))) → pieces 0 flag own n (rest (there b) p) ≡ []
    unfolding field_at
    stops b p within h =
        ap (pieces 0 flag own n) (readings_none F (length (stream s)) (there b) bits (next_none F (there b) bits (λ ws e. cut ws e (dec_le f (highest b)))))
        ∙ pieces_none 0 own n flag
      where
        bits : List ℕ
        bits = drop p (stream s)

        f : ℕ
        f = flag (number (take first bits))

        cut : (ws : List ℕ) → F.more (there b) (number (take first bits)) ≡ some ws → Dec (f ≤ highest b) → length bits < first + sum ws
        cut ws e (yes a) =
            let same : after f ≡ ws = some-injective _ _ (sym (more_allowed b f a) ∙ e) in
            rw (← same) (omega (arith, h a, sum-after f, length_from s p within))
        cut ws e (no a) = absurd (none-ne-some ws (sym (more_ends b _ (lt_of_not-le a)) ∙ e))

    ends_there : (T : Table) (R : Ranges) (b : Option RowPatch) (p : ℕ) → pieces 0 flag own n (rest (there b) p) ≡ []
        → mesh T b (row_pieces (reads_decode flag R) own n (rest (there b) p)) ≡ []
    unfolding mesh
    ends_there T R b p e = rw e

    pub records_of_bytes : (T : Table) (R : Ranges)
        → Records T own first coord comp n (8 * length s) (λ (p : ℕ). flag (field_at s p first)) (bit_numbers s R)
        (patch_mesh T own (by_decode flag R) n (raw_reading F s))
    unfolding raw_reading
    records_of_bytes T R =
        records_of (reads_decode flag R) own n T first coord comp (8 * length s) (λ (p : ℕ). flag (field_at s p first)) (bit_numbers s R) rest
        (λ b p f e a h. (body p f, takes b p f e a h, in_bits s coord comp (2 * points_after own f) (colours_after f * n) (p + first) flag R))
        (λ b p within h. ends_there T R b p (stops b p within h))
