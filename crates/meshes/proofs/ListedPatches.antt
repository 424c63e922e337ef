-- The records of a patch mesh in a list of numbers. Assumes nothing.
use Prim.Native.Nat.{ℕ, zero, suc, ◌+◌, ◌*◌, ◌≤◌, ◌<◌}
use mathlib.Core.Path.{◌≡◌, refl, ap, ◌∙◌}
use mathlib.Core.List.{List, [], ◌∷◌}
use mathlib.Core.Option.{Option, none, some, map}
use native.Mathlib.Nat.{lt_of_not-le}
use native.Mathlib.Numerals.{add-one}
use native.Mathlib.Decide.{dec_le}
use native.Mathlib.Omega.{arith}
use lib.ListN.{length, get_or, get_elem?, drop, length-drop, drop_of_length-le}
use lib.Seq.{drop-drop, drop-cons}
use lib.Ieee.{Float, nan}
use Rattle.decode.specs.Decode.{flag_of}
use Rattle.colour.specs.Inner.Places.{list_numbers}
use Rattle.rules.specs.Patches.{Piece, Places, Table, onto, patch_of, mesh}
use Rattle.records.specs.Format.{points_after, colours_after}
use Rattle.rules.specs.Meshes.{size_after, piece, pieces, patch_mesh}
use Rattle.rules.proofs.Patches.{each_piece, mesh_ends}
use Rattle.rules.proofs.Meshes.{pieces_none, pieces_more, pieces_cut}
use Rattle.meshes.specs.Decoded.{as_listed}
use Rattle.meshes.proofs.Standing.{reads_listed, in_list}
use Rattle.meshes.proofs.PatchRecords.{RowPiece, RowPatch, highest, record_places, Records, row_pieces, records_of}

module _ (vs : List Float) (own n : ℕ) where
  -- the records from index p on
  abbrev found : ℕ → List (Piece (List Float) (List Float))
  found p = pieces nan flag_of own n (drop p vs)

  here : (p : ℕ) → p < length vs → drop p vs ≡ get_or vs p nan ∷ drop (p + 1) vs
  here p h = rw add-one (drop-cons vs p nan h)

  list_size : (p f : ℕ) → p + record_places own 1 1 1 n f ≡ p + 1 + size_after own n f
  list_size p f = omega arith

  starts : (p f : ℕ) → f ≡ flag_of (get_or vs p nan) → p + record_places own 1 1 1 n f ≤ length vs
      → found p ≡ piece nan own n f (drop (p + 1) vs) ∷ found (p + record_places own 1 1 1 n f)
  starts p f e h =
      let room : size_after own n (flag_of (get_or vs p nan)) ≤ length (drop (p + 1) vs) = rw (← e, length-drop) (omega (arith, list_size p f)) in
      rw (list_size p f, ← (drop-drop (size_after own n f) (p + 1) vs), e)
      (ap (pieces nan flag_of own n) (here p (omega arith)) ∙ pieces_more nan own n flag_of (get_or vs p nan) (drop (p + 1) vs) room)

  module _ (T : Table) (three : length T ≡ 3) where
    no_row : {A : Type 0} (l : List A) (i : ℕ) → length l ≤ i → get_elem? l i ≡ none
    no_row [] i g = refl
    no_row (y ∷ l) zero g = absurd (omega arith)
    no_row (y ∷ l) (suc i) g = no_row l i (omega arith)

    no_patch : (b : Option RowPatch) (f : ℕ) (o : RowPatch) → highest b < f → patch_of T b f o ≡ none
    no_patch b zero o g = absurd (omega arith)
    no_patch none (suc f) o g = refl
    no_patch (some b) (suc f) o g = ap (map (λ (side : Places). onto b side o)) (no_row T f (omega arith))

    nothing : (b : Option RowPatch) (p : ℕ) → found p ≡ [] → mesh T b (row_pieces reads_listed own n (drop p vs)) ≡ []
    unfolding mesh
    nothing b p e = rw e

    stops : (b : Option RowPatch) (p : ℕ)
        → (flag_of (get_or vs p nan) ≤ highest b → length vs < p + record_places own 1 1 1 n (flag_of (get_or vs p nan)))
        → mesh T b (row_pieces reads_listed own n (drop p vs)) ≡ []
    stops b p h = by_length (dec_le (length vs) p)
      where
        f : ℕ
        f = flag_of (get_or vs p nan)

        by_size : p < length vs → Dec (p + record_places own 1 1 1 n f ≤ length vs) → mesh T b (row_pieces reads_listed own n (drop p vs)) ≡ []
        by_size l (yes g) =
            let over : highest b < f = lt_of_not-le (λ k. let z = h k in omega arith) in
            let q : RowPiece = each_piece as_listed.point as_listed.colour (piece nan own n f (drop (p + 1) vs)) in
            rw (starts p f refl g) (mesh_ends T b q _ (no_patch b f q.body over))
        by_size l (no g) =
            let cut : length (drop (p + 1) vs) < size_after own n f = rw length-drop (omega (arith, lt_of_not-le g, list_size p f)) in
            nothing b p (ap (pieces nan flag_of own n) (here p l) ∙ pieces_cut nan own n flag_of (get_or vs p nan) (drop (p + 1) vs) cut)

        by_length : Dec (length vs ≤ p) → mesh T b (row_pieces reads_listed own n (drop p vs)) ≡ []
        by_length (yes g) = nothing b p (ap (pieces nan flag_of own n) (drop_of_length-le vs g) ∙ pieces_none nan own n flag_of)
        by_length (no g) = by_size (lt_of_not-le g) (dec_le (p + record_places own 1 1 1 n f) (length vs))

    pub records_of_list : Records T own 1 1 1 n (length vs) (λ (p : ℕ). flag_of (get_or vs p nan)) (list_numbers vs) (patch_mesh T own as_listed n vs)
    records_of_list =
        records_of reads_listed own n T 1 1 1 (length vs) (λ (p : ℕ). flag_of (get_or vs p nan)) (list_numbers vs) (λ started p. drop p vs)
        (λ b p f e a h. (drop (p + 1) vs, starts p f e h, in_list vs (p + 1) (2 * points_after own f) (colours_after f * n) 0 (p + 1) (omega arith)))
        (λ b p within h. stops b p h)
