-- How calls of the readers and builders end, where nothing refuses them but ROOM. Assumes nothing.
use Prim.Native.Nat.{ℕ, ◌+◌, ◌*◌, ◌/◌, ◌≤◌, ◌<◌}
use mathlib.Core.Path.{◌≡◌, sym, ap, subst, ◌∙◌}
use mathlib.Core.List.{List, [], ◌∷◌}
use native.Mathlib.Omega.{arith}
use lib.ListN.{length, get_or}
use lib.Ieee.{Float, nan}
use Rattle.std.specs.Prelude.{Some, None, Ok, Err}
use Rattle.lists.specs.Lists.{joined, flat}
use Rattle.lists.specs.Writing.{Written}
use Rattle.answers.specs.declared.Refusal.TheVariants.{Room}
use Rattle.answers.specs.declared.Told.{Told}
use Rattle.answers.specs.Limits.{most_components}
use Rattle.answers.specs.Outcome.{Outcome, Tells, Done}
use Rattle.answers.proofs.Outcomes.{no_room_for, all_written}
use Rattle.bits.specs.Bits.{field_at}
use Rattle.decode.specs.declared.Range.{Range}
use Rattle.decode.specs.Decode.{Ranges, ranges, flag_of}
use Rattle.records.specs.declared.shape.Kind.TheVariants.{Four, Five}
use Rattle.records.specs.Format.{whole_number}
use Rattle.records.proofs.Layouts.{layout_widths}
use Rattle.colour.specs.Inner.Places.{Numbers, bit_numbers, list_numbers, vertex_at}
use Rattle.rows.specs.declared.Source.{Source}
use Rattle.rows.specs.declared.Source.TheVariants.{Bits, List as Listed}
use Rattle.rows.specs.declared.Input.{Input}
use Rattle.rows.specs.Inner.Sources.{places, width_in, numbers_of, masked, flag_in, range_list, held_ranges, filled_ranges}
use Rattle.rows.proofs.Held.{held_ranges_lem, filled_alike}
use Rattle.rules.specs.Triangles as T
use Rattle.rules.specs.Triangles.{Tri, triangle_before, triangles, corners}
use Rattle.rules.specs.Lattice.{lattice}
use Rattle.rules.specs.Meshes.{Finished, finished, type4_mesh, type5_mesh}
use Rattle.meshes.specs.Outcomes.{fitted_mesh, Stream, raw_of, parse4, parse5, build4, build5}
use Rattle.accepting.specs.Inner.Accepting.{FromBits, FromList, HoldsBits, HoldsList}
use Rattle.accepting.proofs.Accepted.{bits_short}
use Rattle.meshes.proofs.Endings.{accepted, list_accepted}
use Rattle.meshes.proofs.Ranges.{type4_alike, type5_alike}
use Rattle.meshes.proofs.TriangleMeshes.{free_form, lattice_form, mesh_of_type4, mesh_of_type5, mesh_of_list4, mesh_of_list5}
use Rattle.triangles.specs.declared.free_form.Rule.{Rule}
use Rattle.triangles.specs.declared.vertices.Vertices.{Vertices}
use Rattle.triangles.specs.Inner.Vertices.{row_size, flag_of_vertex, row_of_vertex, rule_of, triangles_in}
use Rattle.triangles.proofs.Rows.{length_in}
use Rattle.triangles.proofs.Writing.{length-mesh}

-- ---- how a core ends, which has counted the triangles: without room for them, of three rows each, or with all of them written

module _ (v : Vertices) (dec : List Float) (ts : List Tri) (entry : List Float) {c : ℕ} (counted : c ≡ length ts) where
  abbrev row_of : ℕ → List Float
  row_of = row_of_vertex v (held_ranges (range_list dec v.input.layout.coord v.input.layout.comp))

  pub no_room_for_triangles : length entry < c * (3 * row_size v)
      → Done (fitted_mesh (finished ts row_of) (length entry)) entry (Err (Room (c * (3 * row_size v)))) entry
  no_room_for_triangles = no_room_for (length ts) (flat (corners row_of) ts) (3 * row_size v) (length-mesh row_of (row_size v) (length_in v _) ts) counted

  pub triangles_written : (held before : List Range) {exit : List Float} {p : ℕ}
      → held ≡ filled_ranges v.input.source (range_list dec v.input.layout.coord v.input.layout.comp) before
      → Written entry exit 0 (flat (corners (row_of_vertex v (held_ranges held))) ts) p → Done (fitted_mesh (finished ts row_of) (length entry)) entry (Ok c) exit
  unfolding row_of_vertex
  triangles_written held before {exit} {p} filled w =
      let I : Input = v.input in
      let decode : List Range = range_list dec I.layout.coord I.layout.comp in
      let numbers : numbers_of I.source (held_ranges held) ≡ numbers_of I.source (held_ranges decode) =
      ap (λ (l : List Range). numbers_of I.source (held_ranges l)) filled ∙ filled_alike I.source decode before in
      all_written counted
      (subst (λ (N : Numbers). Written entry exit 0 (flat (corners (λ (i : ℕ). vertex_at N I.layout.coord I.layout.comp I.layout.n (i * v.size + I.layout.flag))) ts) p) numbers w)

-- ---- what was found and written is what the outcome says

-- the mesh of an accepted call
finishes : {o : Outcome Float} {m m' : Finished Float} {entry exit : List Float} {t : Told} → o ≡ fitted_mesh m (length entry) → m ≡ m'
    → Tells (fitted_mesh m' (length entry)) entry t exit → Tells o entry t exit
finishes {o} {m} {m'} {entry} {exit} {t} e g d = rw (e ∙ ap (λ (k : Finished Float). fitted_mesh k (length entry)) g) d

-- the meshes of vertices, as many as there are places for
module _ (N : Numbers) (flag coord comp n limit : ℕ) {total size : ℕ} (sized : size ≡ flag + (2 * coord + n * comp)) (from : total ≡ limit / size) where
  type4_sized : (rule : T.Rule) (flag_of_place : ℕ → ℕ)
      → finished (triangles rule (joined total (λ (i : ℕ). flag_of_place (i * size) ∷ []))) (λ (i : ℕ). vertex_at N coord comp n (i * size + flag))
      ≡ free_form rule flag_of_place N flag coord comp n limit
  type4_sized rule flag_of_place = rw (from, sized)

  type5_sized : (row : ℕ) → finished (lattice total row) (λ (i : ℕ). vertex_at N coord comp n (i * size + flag)) ≡ lattice_form row N flag coord comp n limit
  type5_sized row = rw (from, sized)

module _ (v : Vertices) (from : v.total ≡ places v.input.source / v.size) (R : Ranges) where
  type4_mesh_is : (rule : T.Rule)
      → finished (triangles_in rule v) (row_of_vertex v R)
      ≡ free_form rule (flag_in v.input.source v.input.layout.flag v.mask) (numbers_of v.input.source R) v.input.layout.flag v.input.layout.coord v.input.layout.comp
      v.input.layout.n (places v.input.source)
  unfolding triangles_in flag_of_vertex row_of_vertex
  type4_mesh_is rule =
      let l = v.input.layout in
      type4_sized (numbers_of v.input.source R) l.flag l.coord l.comp l.n (places v.input.source) v.sized from rule (flag_in v.input.source l.flag v.mask)

  type5_mesh_is : (row : ℕ)
      → finished (lattice v.total row) (row_of_vertex v R)
      ≡ lattice_form row (numbers_of v.input.source R) v.input.layout.flag v.input.layout.coord v.input.layout.comp v.input.layout.n (places v.input.source)
  unfolding row_of_vertex
  type5_mesh_is row =
      let l = v.input.layout in
      type5_sized (numbers_of v.input.source R) l.flag l.coord l.comp l.n (places v.input.source) v.sized from row

-- ---- from bits

module _ (s : List ℕ) (R : Ranges) (flag coord comp n : ℕ) where
  type4_bits : (rule : T.Rule) (mask : ℕ) (S : Source) → HoldsBits S s
      → free_form rule (flag_in S flag mask) (numbers_of S R) flag coord comp n (places S)
      ≡ free_form rule (λ (p : ℕ). masked mask (field_at s p flag)) (bit_numbers s R) flag coord comp n (8 * length s)
  unfolding flag_in numbers_of
  type4_bits rule mask (Bits b) h = rw h
  type4_bits rule mask (Listed b) h = absurd h

  type5_bits : (row : ℕ) (S : Source) → HoldsBits S s
      → lattice_form row (numbers_of S R) flag coord comp n (places S) ≡ lattice_form row (bit_numbers s R) flag coord comp n (8 * length s)
  unfolding numbers_of
  type5_bits row (Bits b) h = rw h
  type5_bits row (Listed b) h = absurd h

module _ (v : Vertices) (from : v.total ≡ places v.input.source / v.size) (s : List ℕ) (coord comp : ℕ) (dec : List Float) (n : ℕ) where
  -- the ranges that are held, those of the layout
  abbrev held : Ranges
  held = held_ranges (range_list dec coord comp)

  abbrev layout_ranges : Ranges
  layout_ranges = held_ranges (range_list dec v.input.layout.coord v.input.layout.comp)

  alike : n ≤ most_components → (k : ℕ) → k < 2 + n → held k ≡ ranges dec coord comp k
  alike few k h = held_ranges_lem dec coord comp k (omega arith)

  pub type4_ended : {entry exit : List Float} {t : Told} (flag mask : ℕ) → FromBits s coord comp (Some flag) dec n v.input → v.mask ≡ mask
      → Tells (fitted_mesh (finished (triangles_in triangle_before v) (row_of_vertex v layout_ranges)) (length entry)) entry t exit
      → Tells (parse4 (masked mask) (triangles triangle_before) s coord comp flag dec n (length entry)) entry t exit
  type4_ended {entry} flag mask f by d =
      let m : Stream = record { kind = Four; meaning = masked mask; flag = Some flag; coord = coord; comp = comp; entries = dec; n = n } in
      let few : n ≤ most_components = rw f.n_is at v.input.layout.n_few in
      let w = layout_widths (Some flag) coord comp (length dec) f.readable in
      let is = simp (by, f.flag_is, f.coord_is, f.comp_is, f.n_is) at (type4_mesh_is v from held triangle_before) in
      finishes (accepted m (type4_mesh (triangles triangle_before)) s (length entry) f.readable few (bits_short s v.input.source f.holds v.input.short))
      (sym (type4_alike (masked mask) held (ranges dec coord comp) n (alike few) (triangles triangle_before) (raw_of m s))
      ∙ mesh_of_type4 s held coord comp n (masked mask) flag w.of_first.some_bits triangle_before
      ∙ sym (is ∙ type4_bits s held flag coord comp n triangle_before mask v.input.source f.holds))
      (simp (f.coord_is, f.comp_is) at d)

  pub type5_ended : {entry exit : List Float} {t : Told} (row : ℕ) → FromBits s coord comp None dec n v.input
      → Tells (fitted_mesh (finished (lattice v.total row) (row_of_vertex v layout_ranges)) (length entry)) entry t exit
      → Tells (parse5 s coord comp dec n row (length entry)) entry t exit
  type5_ended {entry} row f d =
      let m : Stream = record { kind = Five; meaning = whole_number; flag = None; coord = coord; comp = comp; entries = dec; n = n } in
      let few : n ≤ most_components = rw f.n_is at v.input.layout.n_few in
      let w = layout_widths None coord comp (length dec) f.readable in
      let is = simp (f.flag_is, f.coord_is, f.comp_is, f.n_is) at (type5_mesh_is v from held row) in
      finishes (accepted m (type5_mesh row) s (length entry) f.readable few (bits_short s v.input.source f.holds v.input.short))
      (sym (type5_alike whole_number held (ranges dec coord comp) n (alike few) row (raw_of m s))
      ∙ mesh_of_type5 s held coord comp n w.of_coord.some_bits row
      ∙ sym (is ∙ type5_bits s held 0 coord comp n row v.input.source f.holds))
      (simp (f.coord_is, f.comp_is) at d)

-- ---- from a list

module _ (vs : List Float) (R : Ranges) (flag n : ℕ) where
  type4_list : (rule : T.Rule) (mask coord comp : ℕ) (S : Source) → HoldsList S vs → coord ≡ width_in S coord → comp ≡ width_in S comp
      → free_form rule (flag_in S flag mask) (numbers_of S R) flag coord comp n (places S)
      ≡ free_form rule (λ (p : ℕ). flag_of (get_or vs p nan)) (list_numbers vs) flag 1 1 n (length vs)
  unfolding flag_in numbers_of
  type4_list rule mask coord comp (Bits b) h one also = absurd h
  type4_list rule mask coord comp (Listed b) h one also = rw (h, one, also)

  type5_list : (row coord comp : ℕ) (S : Source) → HoldsList S vs → coord ≡ width_in S coord → comp ≡ width_in S comp
      → lattice_form row (numbers_of S R) flag coord comp n (places S) ≡ lattice_form row (list_numbers vs) flag 1 1 n (length vs)
  unfolding numbers_of
  type5_list row coord comp (Bits b) h one also = absurd h
  type5_list row coord comp (Listed b) h one also = rw (h, one, also)

module _ (v : Vertices) (from : v.total ≡ places v.input.source / v.size) (vs : List Float) (n : ℕ) (R : Ranges) {entry exit : List Float} {t : Told} where
  pub list4_ended : (rule : Rule) → FromList vs 1 n v.input
      → Tells (fitted_mesh (finished (triangles_in (rule_of rule) v) (row_of_vertex v R)) (length entry)) entry t exit
      → Tells (build4 (triangles (rule_of rule)) vs n (length entry)) entry t exit
  list4_ended rule f d =
      let I : Input = v.input in
      let few : n ≤ most_components = rw f.n_is at I.layout.n_few in
      let is = simp (f.flag_is, f.n_is) at (type4_mesh_is v from R (rule_of rule)) in
      finishes (list_accepted (type4_mesh (triangles (rule_of rule))) n vs (length entry) few f.short)
      (mesh_of_list4 vs n (rule_of rule)
      ∙ sym (is ∙ type4_list vs R 1 n (rule_of rule) v.mask I.layout.coord I.layout.comp I.source f.holds I.coord_there I.comp_there)) d

  pub list5_ended : (row : ℕ) → FromList vs 0 n v.input
      → Tells (fitted_mesh (finished (lattice v.total row) (row_of_vertex v R)) (length entry)) entry t exit
      → Tells (build5 vs n row (length entry)) entry t exit
  list5_ended row f d =
      let I : Input = v.input in
      let few : n ≤ most_components = rw f.n_is at I.layout.n_few in
      let is = simp (f.flag_is, f.n_is) at (type5_mesh_is v from R row) in
      finishes (list_accepted (type5_mesh row) n vs (length entry) few f.short)
      (mesh_of_list5 vs n row ∙ sym (is ∙ type5_list vs R 0 n row I.layout.coord I.layout.comp I.source f.holds I.coord_there I.comp_there)) d
