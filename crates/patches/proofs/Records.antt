-- The records of a mesh, whichever source they come from, are those of which meshes promises what the next patch is, and where the mesh ends.
-- Assumes nothing.
use Prim.Native.Nat.{ℕ, ◌+◌, ◌*◌, ◌≤◌}
use mathlib.Core.Path.{◌≡◌, refl}
use mathlib.Core.Bool.{true}
use mathlib.Core.List.{[], ◌∷◌}
use mathlib.Core.Option.{Option, none, some}
use Rattle.std.specs.Prelude.{Some, None}
use Rattle.decode.specs.Decode.{Ranges}
use Rattle.records.specs.Format.{points_after, colours_after}
use Rattle.rows.specs.declared.Source.{Source}
use Rattle.rows.specs.declared.Source.TheVariants.{Bits, List as Listed}
use Rattle.rows.specs.declared.Place.{Place}
use Rattle.rows.specs.declared.Layout.{Layout}
use Rattle.rows.specs.Inner.Sources.{places, width_in, numbers_of, masked, flag_in}
use Rattle.rules.specs.Patches.{mesh}
use Rattle.rules.proofs.RawReading.{there}
use Rattle.meshes.proofs.PatchRecords as meshes
use Rattle.meshes.proofs.PatchRecords.{RowPiece, RowPatch, Brings, highest}
use Rattle.meshes.proofs.ListedPatches.{records_of_list}
use Rattle.meshes.proofs.ReadPatches.{records_of_bytes}
use Rattle.patches.specs.declared.forms.Form.{Form}
use Rattle.patches.specs.declared.finding.Records.{Records}
use Rattle.patches.specs.Inner.Forms.{own_of, table_of}
use Rattle.patches.specs.Inner.Records.{size_of, flag_meant, most_after, found_at, points_from, colours_from, finished_in, finished_of}
use Rattle.patches.proofs.EachForm.{three_sides, format_is}
use Rattle.patches.proofs.Found.{found_whole, found_none}

-- what the mesh comes to is the mesh of its records
abbrev pub Kept : Records → Ranges → Type 0
Kept m R =
    let L : Layout = m.input.layout in
    meshes.Records (table_of m.form) (own_of m.form) L.flag L.coord L.comp L.n m.limit (flag_meant m) (numbers_of m.input.source R) (finished_of m R)

pub record Promised (m : Records) (R : Ranges) : Type 0 where
  pub kept : Kept m R

kept_of : (S : Source) (L : Layout) (mask : ℕ) (form : Form) {limit : ℕ} (R : Ranges) → 1 ≤ L.flag → L.flag ≡ width_in S L.flag
    → L.coord ≡ width_in S L.coord → L.comp ≡ width_in S L.comp → limit ≡ places S
    → meshes.Records (table_of form) (own_of form) L.flag L.coord L.comp L.n limit (flag_in S L.flag mask) (numbers_of S R)
    (finished_in S L mask form R)
unfolding flag_in numbers_of finished_in
kept_of (Bits s) L mask form R h f c d e =
    rw (e, format_is form (masked mask) L.flag L.coord L.comp L.n)
    (records_of_bytes (masked mask) (own_of form) L.flag L.coord L.comp L.n h s.now (table_of form) R)
kept_of (Listed vs) L mask form R h f c d e = rw (e, f, c, d) (records_of_list vs.now (own_of form) L.n (table_of form) (three_sides form))

pub promised : (m : Records) (R : Ranges) → Promised m R
promised m R =
    let I = m.input in
    record { kept = kept_of I.source I.layout m.mask m.form R m.flagged m.flag_there I.coord_there I.comp_there m.all_places }

highest_is : (b : Option RowPatch) → most_after (there b) ≡ highest b
highest_is none = refl
highest_is (some b) = refl

module _ {m : Records} {R : Ranges} (w : Promised m R) where
  -- the next record, and its own points and colours as they are written
  pub rest_more : (b : Option RowPatch) (pos f : ℕ) (next : Place) → Some (f, next) ≡ found_at m (there b) pos
      → (q : RowPiece) × (w.kept.from (there b) pos ≡ q ∷ w.kept.from true next.0)
      × Brings (own_of m.form) m.input.layout.n f (points_from m R (points_after (own_of m.form) f) (pos + m.input.layout.flag))
      (colours_from m R (colours_after f) (pos + m.input.layout.flag + points_after (own_of m.form) f * (2 * m.input.layout.coord))) q
  unfolding points_from colours_from size_of
  rest_more b pos f next e =
      let h = found_whole m (there b) pos f next e in
      rw h.after (w.kept.more b pos f h.flagged (rw (highest_is b) at h.allowed) (rw h.after at h.within))

  -- no patch comes where no record was found
  pub rest_ends : (b : Option RowPatch) (pos : ℕ) → pos ≤ m.limit → None ≡ found_at m (there b) pos
      → mesh (table_of m.form) b (w.kept.from (there b) pos) ≡ []
  unfolding size_of
  rest_ends b pos h e = w.kept.ends b pos h (λ a. found_none m (there b) pos e (rw (highest_is b) a))
