-- How the core ends, which has counted the patches: without room for them, or with all of them written. Assumes nothing.
use Prim.Native.Nat.{ℕ, ◌*◌, ◌≤◌, ◌<◌}
use mathlib.Core.Path.{◌≡◌, refl, subst, ap, ◌∙◌}
use mathlib.Core.List.{List}
use lib.ListN.{length}
use lib.Ieee.{Float}
use Rattle.std.specs.Prelude.{Ok, Err}
use Rattle.lists.specs.Writing.{Written}
use Rattle.answers.specs.declared.Refusal.TheVariants.{Room}
use Rattle.answers.specs.Outcome.{Done}
use Rattle.answers.proofs.Outcomes.{no_room_for, all_written}
use Rattle.decode.specs.declared.Range.{Range}
use Rattle.decode.specs.Decode.{Ranges}
use Rattle.rows.specs.declared.Source.{Source}
use Rattle.rows.specs.declared.Source.TheVariants.{Bits, List as Listed}
use Rattle.rows.specs.declared.Layout.{Layout}
use Rattle.rows.specs.Inner.Sources.{range_list, held_ranges, filled_ranges}
use Rattle.rules.specs.Meshes.{Finished}
use Rattle.meshes.specs.Outcomes.{fitted_mesh}
use Rattle.patches.specs.declared.forms.Form.{Form}
use Rattle.patches.specs.declared.finding.Records.{Records}
use Rattle.patches.specs.Inner.Records.{patch_size, finished_in, finished_of, decoded_of}
use Rattle.patches.proofs.Walk.{finished_length}

-- the numbers of a list need no ranges
finished_alike : (S : Source) (L : Layout) (mask : ℕ) (form : Form) (filled before : List Range)
    → finished_in S L mask form (held_ranges (filled_ranges S filled before)) ≡ finished_in S L mask form (held_ranges filled)
unfolding finished_in
finished_alike (Bits s) L mask form filled before = refl
finished_alike (Listed vs) L mask form filled before = refl

module _ (m : Records) {c : ℕ} (counted : (R : Ranges) → c ≡ (finished_of m R).count) where
  pub room_for_patches : (R : Ranges) {room : ℕ} → c * patch_size m ≤ room → length (finished_of m R).numbers ≤ room
  room_for_patches R h = rw (finished_length m R, ← counted R) h

  module _ (dec entry : List Float) where
    pub no_room_for_patches : length entry < c * patch_size m
        → Done (fitted_mesh (decoded_of m dec) (length entry)) entry (Err (Room (c * patch_size m))) entry
    no_room_for_patches = no_room_for (decoded_of m dec).count (decoded_of m dec).numbers (patch_size m) (finished_length m _) (counted _)

    pub patches_written : (held before : List Range) {exit : List Float} {p : ℕ}
        → held ≡ filled_ranges m.input.source (range_list dec m.input.layout.coord m.input.layout.comp) before
        → Written entry exit 0 (finished_of m (held_ranges held)).numbers p → Done (fitted_mesh (decoded_of m dec) (length entry)) entry (Ok c) exit
    patches_written held before {exit} {p} filled w =
        let same : finished_of m (held_ranges held) ≡ decoded_of m dec =
        ap (λ (l : List Range). finished_of m (held_ranges l)) filled
        ∙ finished_alike m.input.source m.input.layout m.mask m.form _ before in
        all_written (counted _) (subst (λ (F : Finished Float). Written entry exit 0 F.numbers p) same w)
