-- The rules over the raw reading of bytes: each of its Type 6 and 7 records gives a patch, and cut bytes give a beginning of the mesh. Assumes
-- nothing.
use mathlib.Core.Path.{◌≡◌, refl, ap, ap₂, ◌∙◌}
use mathlib.Core.Bool.{Bool, true, false, ◌&&◌, ◌||◌}
use mathlib.Core.List.{List, ◌∷◌, ◌++◌}
use mathlib.Core.Option.{Option, none, some, none-ne-some}
use Prim.Native.Nat.{ℕ, zero, suc, ◌+◌, ◌*◌}
use native.Mathlib.Omega.{arith}
use borrow.Author.Tests.{lt-leb}
use lib.Dec.{leb, eqb, eqb-suc-zero}
use lib.ListN.{length, take, drop, length-append}
use lib.Seq.{drop_at}
use Rattle.lists.specs.Lists.{Begins}
use Rattle.bits.specs.Bits.{number, stream}
use Rattle.records.specs.declared.shape.Kind.TheVariants.{Six, Seven}
use Rattle.records.specs.Format.{sum, numbers, Meaning, Format, points_after, colours_after, patch_shape, widths_of, format_by, next, readings, raw_reading}
use Rattle.records.proofs.Meanings.{patch_size_lem}
use Rattle.records.proofs.Readings.{length-numbers, next_some, readings_none, readings_some, reading_begins}
use Rattle.rules.specs.Triangles.{Rule, triangles}
use Rattle.rules.specs.Patches.{Patch, Piece, Table, sides, patch_of, mesh}
use Rattle.rules.specs.Meshes.{Source, size_after, piece, pieces, patches, type4_mesh, type5_mesh, patch_mesh}
use Rattle.rules.proofs.Patches.{mesh_more}
use Rattle.rules.proofs.Meshes.{MeshBegins, pieces_none, pieces_more, piece_begins, type4_begins, type5_begins, patch_mesh_begins}

-- ---- each record gives a patch

abbrev pub there : {P : Type 0} → Option P → Bool
there none = false
there (some p) = true

-- Type 6 or 7 by what a flag means, where a joined patch has so many points of its own
abbrev pub patch_format : Meaning → ℕ → ℕ → ℕ → ℕ → ℕ → Format
patch_format flag own first coord comp n =
    record { first = first; more = λ started x. widths_of coord comp n (patch_shape own started (flag x)) }

module _ (flag : Meaning) (own first coord comp n : ℕ) where
  abbrev F : Format
  F = patch_format flag own first coord comp n

  -- a record has as many numbers as its flag asks for
  more_size : (started : Bool) (x : ℕ) (ws : List ℕ) → F.more started x ≡ some ws → length ws ≡ size_after own n (flag x)
  more_size started x ws e =
      patch_size_lem coord comp n (eqb (flag x) 0 || (started && leb (flag x) 3)) (2 * points_after own (flag x)) (colours_after (flag x)) ws e

  -- and gives a patch
  pub more_gives : {P C : Type 0} (b : Option (Patch P C)) (f : ℕ) (o : Patch P C) (ws : List ℕ)
      → widths_of coord comp n (patch_shape own (there b) f) ≡ some ws → (p : Patch P C) × (patch_of sides b f o ≡ some p)
  more_gives b zero o ws e = (o, refl)
  more_gives none (suc f) o ws e = absurd (none-ne-some ws (rw (eqb-suc-zero f) at e))
  more_gives (some b) (suc zero) o ws e = (_, refl)
  more_gives (some b) (suc (suc zero)) o ws e = (_, refl)
  more_gives (some b) (suc (suc (suc zero))) o ws e = (_, refl)
  more_gives (some b) (suc (suc (suc (suc f)))) o ws e =
      absurd (none-ne-some ws (rw (eqb-suc-zero (suc (suc (suc f))), lt-leb (suc (suc (suc (suc f)))) 3 (omega arith)) at e))

  abbrev found : ℕ → Bool → List ℕ → List (Piece (List ℕ) (List ℕ))
  found k started b = pieces 0 flag own n (readings F k started b)

  -- a record of the raw reading is a record of the list
  pub pieces_reading : (k : ℕ) (started : Bool) (b ws : List ℕ) → F.more started (number (take first b)) ≡ some ws
      → next F started b ≡ some (first ∷ ws)
      → found (suc k) started b ≡ piece 0 own n (flag (number (take first b))) (numbers ws (drop first b)) ∷ found k true (drop (first + sum ws) b)
  unfolding numbers sum
  pieces_reading k started b ws q e =
      let x : ℕ = number (take first b) in
      let ns : List ℕ = numbers ws (drop first b) in
      let rest : List ℕ = readings F k true (drop (first + sum ws) b) in
      let l : length ns ≡ size_after own n (flag x) = length-numbers ws (drop first b) ∙ more_size started x ws q in
      let on : Begins ns (ns ++ rest) = record { rest = rest; is = refl } in
      rw (readings_some F k started b (first ∷ ws) e)
      (pieces_more 0 own n flag x (ns ++ rest) (omega (arith, length-append ns rest))
      ∙ ap₂ (λ (a : Piece (List ℕ) (List ℕ)) (c : List ℕ). a ∷ pieces 0 flag own n c)
      (piece_begins 0 own n (flag x) on (omega arith)) (drop_at ns rest (size_after own n (flag x)) l))

  gives : (k : ℕ) (started : Bool) (b : List ℕ) (before : Option (Patch (List ℕ) (List ℕ))) → there before ≡ started
      → length (mesh sides before (found k started b)) ≡ length (found k started b)
  unfolding mesh readings
  gives zero started b before h = rw (pieces_none 0 own n flag)
  gives (suc k) started b before h = go (next F started b) refl (λ c p. gives k true c (some p) refl)
    where
      go : (o : Option (List ℕ)) → next F started b ≡ o
          → ((c : List ℕ) (p : Patch (List ℕ) (List ℕ)) → length (mesh sides (some p) (found k true c)) ≡ length (found k true c))
          → length (mesh sides before (found (suc k) started b)) ≡ length (found (suc k) started b)
      go none e ih = rw (readings_none F (suc k) started b e, pieces_none 0 own n flag)
      go (some vs) e ih =
          let r = next_some F started b vs e in
          let x = number (take first b) in
          let q = piece 0 own n (flag x) (numbers r.0 (drop first b)) in
          let g = more_gives before (flag x) q.body r.0 (ap (λ (t : Bool). F.more t x) h ∙ r.1) in
          rw (
            pieces_reading k started b r.0 r.1 (e ∙ ap some r.2),
            mesh_more sides before q (found k true (drop (first + sum r.0) b)) g.0 g.1,
          )
          (ap suc (ih (drop (first + sum r.0) b) g.0))

  each_gives : (s : List ℕ) → length (patches 0 sides flag own n (raw_reading F s)) ≡ length (pieces 0 flag own n (raw_reading F s))
  unfolding patches raw_reading
  each_gives s = gives (length (stream s)) false (stream s) none refl

-- the raw reading has the records that give patches, and no others, whatever a flag means
module _ (flag : Meaning) (first coord comp n : ℕ) (s : List ℕ) where
  pub type6_each_gives : let xs : List ℕ = raw_reading (format_by flag Six first coord comp n) s in
      length (patches 0 sides flag 8 n xs) ≡ length (pieces 0 flag 8 n xs)
  type6_each_gives = each_gives flag 8 first coord comp n s

  pub type7_each_gives : let xs : List ℕ = raw_reading (format_by flag Seven first coord comp n) s in
      length (patches 0 sides flag 12 n xs) ≡ length (pieces 0 flag 12 n xs)
  type7_each_gives = each_gives flag 12 first coord comp n s

-- ---- cut bytes, in every format

module _ {B : Type 0} (F : Format) (S : Source ℕ B) (n : ℕ) {s t : List ℕ} (b : Begins s t) where
  pub bytes4_begins : (r : Rule) → MeshBegins (type4_mesh (triangles r) S n (raw_reading F s)) (type4_mesh (triangles r) S n (raw_reading F t))
  bytes4_begins r = type4_begins S n (reading_begins F b) r

  pub bytes5_begins : (row_length : ℕ) → MeshBegins (type5_mesh row_length S n (raw_reading F s)) (type5_mesh row_length S n (raw_reading F t))
  bytes5_begins row_length = type5_begins S n (reading_begins F b) row_length

  pub bytes67_begins : (T : Table) (own : ℕ) → MeshBegins (patch_mesh T own S n (raw_reading F s)) (patch_mesh T own S n (raw_reading F t))
  bytes67_begins T own = patch_mesh_begins S n (reading_begins F b) T own
