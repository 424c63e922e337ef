-- The patch of a record, and its row after the patch that stands before it in the output. Assumes nothing.
use Prim.Native.Nat.{ℕ, zero, suc, ◌+◌, ◌*◌, ◌≤◌, ◌<◌}
use mathlib.Core.Path.{◌≡◌, refl, ap, ◌∙◌}
use mathlib.Core.Bool.{true}
use mathlib.Core.List.{List, [], ◌∷◌, ◌++◌}
use mathlib.Core.Option.{Option, none, some}
use native.Mathlib.Nat.{le_of_suc-le-suc}
use native.Mathlib.Omega.{arith}
use lib.ListN.{length, get_elem?}
use lib.Ieee.{Float, nan}
use Rattle.std.specs.Prelude.{Some}
use Rattle.lists.specs.Lists.{All}
use Rattle.decode.specs.Decode.{Ranges}
use Rattle.rows.specs.declared.Place.{Place}
use Rattle.rules.specs.Patches.{Places, Table, onto, mesh, patch_row}
use Rattle.rules.specs.Inner.Sides.{Fits}
use Rattle.records.specs.Format.{points_after, colours_after}
use Rattle.rules.proofs.Patches.{Before, mesh_more}
use Rattle.rules.proofs.Meshes.{Numbered, onto_numbered}
use Rattle.rules.proofs.RawReading.{there}
use Rattle.rules.proofs.Rows.{onto_row, length-patch_row}
use Rattle.meshes.proofs.PatchRecords.{RowPiece, RowPatch, Brings, row_of}
use Rattle.patches.specs.declared.finding.Records.{Records}
use Rattle.patches.specs.Inner.Forms.{own_of, table_of}
use Rattle.patches.specs.Inner.Records.{most_after, found_at, points_from, colours_from}
use Rattle.patches.specs.Inner.Records.{patch_size, point_in, colour_in, side_points, side_colours, row_at}
use Rattle.patches.proofs.EachForm.{three_sides, table_fits}
use Rattle.patches.proofs.Found.{found_whole}
use Rattle.patches.proofs.Records.{Promised, rest_more}

side_there : (k : ℕ) (T : Table) (f : ℕ) → f < length T → All (Fits k) T → (side : Places) × (get_elem? T f ≡ some side) × Fits k side
side_there k [] f h a = absurd (omega arith)
side_there k (x ∷ T) zero h a = (x, refl, a.0)
side_there k (x ∷ T) (suc f) h a = side_there k T f (le_of_suc-le-suc h) a.1

-- all points, and four colours of 8 + n numbers
abbrev pub Filled : Records → RowPatch → Type 0
Filled m p = Numbered (4 + own_of m.form) 4 (8 + m.input.layout.n) p

pub length-row : (m : Records) (p : RowPatch) → Filled m p → length (row_of p) ≡ patch_size m
length-row m p h =
    length-patch_row (λ (row : List Float). row) (λ (row : List Float). row) 2 (8 + m.input.layout.n) (4 + own_of m.form) 4 p h.0 h.1

-- the patch before, if there is one, stands in the output from index start on
pub record PatchStands (p : RowPatch) (o : List Float) (start : ℕ) : Type 0 where
  pub front : List Float
  pub back : List Float
  pub place : length front ≡ start
  pub split : o ≡ front ++ (row_of p ++ back)

module _ {m : Records} {R : Ranges} (w : Promised m R) where
  abbrev T : Table
  T = table_of m.form

  -- the patch of the record at a place
  pub record Next (b : Option RowPatch) (pos f : ℕ) (next : Place) : Type 0 where
    pub new : RowPatch
    pub gives : mesh (table_of m.form) b (w.kept.from (there b) pos) ≡ new ∷ mesh (table_of m.form) (some new) (w.kept.from true next.0)
    pub filled : Filled m new
    pub row : (o : List Float) (start : ℕ) → Before (λ (p : RowPatch). PatchStands p o start) b → row_of new ≡ row_at m R o start f pos

  pub next_patch : (b : Option RowPatch) → Before (Filled m) b → (pos f : ℕ) (next : Place) → Some (f, next) ≡ found_at m (there b) pos
      → Next b pos f next
  next_patch b z pos f next e =
      let h = found_whole m (there b) pos f next e in
      let t = rest_more w b pos f next e in
      go b f z h.allowed t.0 t.1 t.2
    where
      go : (b : Option RowPatch) (f : ℕ) → Before (Filled m) b → f ≤ most_after (there b) → (q : RowPiece)
          → w.kept.from (there b) pos ≡ q ∷ w.kept.from true next.0
          → Brings (own_of m.form) m.input.layout.n f (points_from m R (points_after (own_of m.form) f) (pos + m.input.layout.flag))
          (colours_from m R (colours_after f) (pos + m.input.layout.flag + points_after (own_of m.form) f * (2 * m.input.layout.coord))) q
          → Next b pos f next
      go b zero z a q e v =
          record {
            new = q.body;
            gives = ap (mesh T b) e ∙ mesh_more T b q _ q.body (rw v.flagged);
            filled = v.numbered;
            row = λ o start k. unfold patch_row row_at in rw (v.points_are, v.colours_are);
          }
      go none (suc f) z a q e v = absurd (omega arith)
      go (some b) (suc f) z a q e v =
          let t = side_there (4 + own_of m.form) T f (omega (arith, three_sides m.form)) (table_fits m.form) in
          record {
            new = onto b t.0 q.body;
            gives = ap (mesh T (some b)) e ∙ mesh_more T (some b) q _ (onto b t.0 q.body) (rw (v.flagged, t.1));
            filled = onto_numbered nan (λ (x : Float). 0) (own_of m.form) (8 + m.input.layout.n) b t.0 q.body z t.2 v.numbered;
            row =
                λ o start k.
                unfold row_at side_points side_colours point_in colour_in in
                onto_row (λ (row : List Float). row) (λ (row : List Float). row) 2 (8 + m.input.layout.n) nan o k.front k.back start b z.1 k.place
                k.split t.0 q.body (rw z.0.0 t.2.1) (rw z.0.1 t.2.2)
                ∙ rw (v.points_are, v.colours_are, t.1, z.0.0);
          }
