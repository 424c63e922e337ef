-- A call that got past its tests has the outcome of its mesh. Assumes nothing.
use Prim.Native.Nat.{ℕ, ◌^◌, ◌≤◌, ◌<◌}
use mathlib.Core.Path.{◌≡◌, sym, ap, ◌∙◌}
use mathlib.Core.List.{List}
use native.Mathlib.Omega.{arith}
use lib.Ieee.{Float}
use Rattle.std.specs.Prelude.{Some}
use Rattle.answers.specs.Limits.{most_components}
use Rattle.decode.specs.Decode.{Ranges, ranges}
use Rattle.records.specs.Format.{Meaning, whole_number, two_low_bits, format_by, raw_reading}
use Rattle.rows.specs.declared.Source.{Source}
use Rattle.rows.specs.declared.Source.TheVariants.{Bits, List as Listed}
use Rattle.rows.specs.declared.Layout.{Layout}
use Rattle.rows.specs.Inner.Sources.{masked, range_list, held_ranges}
use Rattle.rows.proofs.Held.{held_ranges_lem}
use Rattle.rows.proofs.Masks.{whole_masked, low_masked}
use Rattle.rules.specs.Patches.{sides, list_sides}
use Rattle.rules.specs.Meshes.{Finished, patch_mesh}
use Rattle.meshes.specs.Decoded.{by_decode, as_listed}
use Rattle.meshes.specs.Outcomes.{fitted_mesh, Stream, raw_of}
use Rattle.accepting.specs.Inner.Accepting.{HoldsBits, HoldsList, FromBits, FromList}
use Rattle.accepting.proofs.Accepted.{bits_short}
use Rattle.meshes.proofs.Endings.{accepted, list_accepted}
use Rattle.meshes.proofs.FlagReadings.{Kept, type6_kept, type7_kept, word_outcome}
use Rattle.meshes.proofs.Ranges.{patches_alike}
use Rattle.patches.specs.declared.forms.Form.{Form}
use Rattle.patches.specs.declared.forms.Form.TheVariants.{Coons, Tensor, Grid}
use Rattle.patches.specs.Inner.Forms.{kind_of, own_of, table_of, parsed_form, built_form}
use Rattle.patches.specs.declared.finding.Records.{Records}
use Rattle.patches.specs.Inner.Records.{finished_in, decoded_of}
use Rattle.patches.proofs.EachForm.{table_fits}

abbrev stream_of : Form → ℕ → ℕ → ℕ → ℕ → List Float → ℕ → Stream
stream_of form mask coord comp flag entries n =
    record { kind = kind_of form; meaning = masked mask; flag = Some flag; coord = coord; comp = comp; entries = entries; n = n }

abbrev mesh_by : Form → ℕ → ℕ → Ranges → List ℕ → Finished Float
mesh_by form mask n R = patch_mesh (table_of form) (own_of form) (by_decode (masked mask) R) n

-- the ranges of the list are Decode's, as far as a record has kinds
module _ (form : Form) (mask coord comp : ℕ) (entries : List Float) (n : ℕ) (few : n ≤ most_components) where
  same_ranges : (xs : List ℕ)
      → mesh_by form mask n (held_ranges (range_list entries coord comp)) xs ≡ mesh_by form mask n (ranges entries coord comp) xs
  same_ranges xs =
      patches_alike (masked mask) (held_ranges (range_list entries coord comp)) (ranges entries coord comp) n
      (λ k h. held_ranges_lem entries coord comp k (omega arith)) (table_of form) (own_of form) (table_fits form) xs

module _ (L : Layout) (mask : ℕ) (form : Form) (R : Ranges) where
  bits_mesh : (s : List ℕ) (S : Source) → HoldsBits S s
      → finished_in S L mask form R ≡ mesh_by form mask L.n R (raw_reading (format_by (masked mask) (kind_of form) L.flag L.coord L.comp L.n) s)
  unfolding finished_in
  bits_mesh s (Bits b) h = rw h
  bits_mesh s (Listed b) h = absurd h

  list_mesh : (vs : List Float) (S : Source) → HoldsList S vs
      → finished_in S L mask form R ≡ patch_mesh (table_of form) (own_of form) as_listed L.n vs
  unfolding finished_in
  list_mesh vs (Bits b) h = absurd h
  list_mesh vs (Listed b) h = rw h

module _ (m : Records) (mask : ℕ) (form : Form) (entries : List Float) (n room : ℕ) (of_mask : m.mask ≡ mask) (of_form : m.form ≡ form) where
  pub list_outcome : (vs : List Float) → FromList vs 1 n m.input → fitted_mesh (decoded_of m entries) room ≡ built_form form vs n room
  list_outcome vs f =
      let few : n ≤ most_components = rw f.n_is at m.input.layout.n_few in
      let L : Layout = m.input.layout in
      let R : Ranges = held_ranges (range_list entries L.coord L.comp) in
      let e : decoded_of m entries ≡ patch_mesh (table_of form) (own_of form) as_listed n vs =
      list_mesh L m.mask m.form R vs m.input.source f.holds ∙ simp (of_form, f.n_is) in
      ap (λ (M : Finished Float). fitted_mesh M room) e
      ∙ sym (list_accepted (patch_mesh (table_of form) (own_of form)) n vs room few f.short)

  pub bits_outcome : (s : List ℕ) (coord comp flag : ℕ) → FromBits s coord comp (Some flag) entries n m.input
      → fitted_mesh (decoded_of m entries) room ≡ parsed_form form (masked mask) s coord comp flag entries n room
  bits_outcome s coord comp flag f =
      let few : n ≤ most_components = rw f.n_is at m.input.layout.n_few in
      let L : Layout = m.input.layout in
      let stream : Stream = stream_of form mask coord comp flag entries n in
      let e : decoded_of m entries ≡ mesh_by form mask n (held_ranges (range_list entries coord comp)) (raw_of stream s) =
      bits_mesh L m.mask m.form (held_ranges (range_list entries L.coord L.comp)) s m.input.source f.holds
      ∙ simp (of_mask, of_form, f.flag_is, f.coord_is, f.comp_is, f.n_is) in
      ap (λ (M : Finished Float). fitted_mesh M room) (e ∙ same_ranges form mask coord comp entries n few (raw_of stream s))
      ∙ sym (accepted stream (patch_mesh (table_of form) (own_of form)) s room f.readable few (bits_short s m.input.source f.holds m.input.short))

-- ---- its reading

form_kept : (form : Form) → Kept (kind_of form) (patch_mesh (table_of form) (own_of form))
form_kept Coons = type6_kept sides
form_kept Tensor = type7_kept sides
form_kept Grid = type7_kept list_sides

module _ (form : Form) (s : List ℕ) (coord comp flag : ℕ) (entries : List Float) (n room : ℕ) where
  masked_outcome : (mask : ℕ) (meaning : Meaning) → ((x : ℕ) → x < 2 ^ 32 → masked mask x ≡ meaning x)
      → parsed_form form (masked mask) s coord comp flag entries n room ≡ parsed_form form meaning s coord comp flag entries n room
  masked_outcome mask meaning h =
      word_outcome (kind_of form) coord comp flag entries n (patch_mesh (table_of form) (own_of form)) (form_kept form) (masked mask) meaning h s room

  pub whole_outcome : parsed_form form (masked 4294967295) s coord comp flag entries n room
      ≡ parsed_form form whole_number s coord comp flag entries n room
  whole_outcome = masked_outcome 4294967295 whole_number whole_masked

  pub low_outcome : parsed_form form (masked 3) s coord comp flag entries n room ≡ parsed_form form two_low_bits s coord comp flag entries n room
  low_outcome = masked_outcome 3 two_low_bits (λ x h. low_masked x)
