-- How the published reading of bytes goes with the ported one. They are equal where every flag met is below 4; exactly where they part; the upper bits of
-- a flag never show in the published one; a cut gives a beginning. Assumes nothing.
use Prim.Native.Nat.{ℕ, zero, suc, ◌+◌, ◌*◌, ◌/◌, ◌%◌, ◌≤◌, ◌<◌}
use mathlib.Core.Path.{◌≡◌, refl, sym, ap, ◌∙◌}
use mathlib.Core.Logic.{◌↔◌}
use mathlib.Core.Bool.{false}
use mathlib.Core.List.{List, [], ◌∷◌, ◌++◌, map, map-append}
use mathlib.Core.Option.{Option, none, some}
use native.Mathlib.Nat.{mod-eq_of_lt}
use native.Mathlib.Omega.{arith}
use lib.ListN.{length, get_or, take, length-append}
use lib.Seq.{take_at, drop_at}
use lib.Ieee.{Float}
use Rattle.lists.specs.Lists.{joined, All, AllBelow, Begins}
use Rattle.lists.proofs.Members.{all_take, all_drop}
use Rattle.answers.specs.Outcome.{Outcome}
use Rattle.bits.specs.Bits.{number, stream}
use Rattle.bits.proofs.Streams.{stream_below}
use Rattle.decode.specs.Decode.{ranges}
use Rattle.records.specs.declared.shape.Kind.{Kind}
use Rattle.records.specs.declared.shape.Kind.TheVariants.{Four, Five, Six, Seven}
use Rattle.records.specs.Format.{Meaning, whole_number, two_low_bits, format_by, next}
use Rattle.records.specs.Flags.{met, Left, left}
use Rattle.records.proofs.Meanings.{narrow_met}
use Rattle.records.proofs.Parting.{PatchKind, part_above_3, left_ends}
use Rattle.records.proofs.Changed.{flag_changed}
use Rattle.rules.specs.Triangles.{start, triangle_before, triangles}
use Rattle.rules.specs.Patches.{sides}
use Rattle.rules.specs.Meshes.{Finished, flags, type4_mesh, patch_mesh}
use Rattle.rules.proofs.Properties.{looked_at, parts}
use Rattle.rules.proofs.Lists.{all_map}
use Rattle.rules.proofs.Meshes.{MeshBegins}
use Rattle.rules.proofs.RawReading.{bytes4_begins, bytes67_begins}
use Rattle.rules.proofs.TwoMeanings.{below_4_same, parts_exactly}
use Rattle.rules.proofs.Parting.{ported_begins, part_exactly, part_same}
use Rattle.meshes.specs.Decoded.{by_decode}
use Rattle.meshes.specs.Outcomes.{raw_of, decode_of, parsed, ported_reader, published_reader}
use Rattle.meshes.proofs.FlagReadings.{Mesh, Kept, by, clear, same_outcome, met_outcome, cleared_outcome, unseen_outcome, type4_kept, type6_kept, type7_kept}
use Rattle.meshes.proofs.TriangleReadings.{type4_ported}

-- ---- the types with flags

pub data HasFlags : Kind → Type 0 where
  type4 : HasFlags Four
  type6 : HasFlags Six
  type7 : HasFlags Seven

-- what both readings make of the raw numbers
abbrev pub mesh_of : {kind : Kind} → HasFlags kind → Mesh
mesh_of type4 = type4_mesh (triangles triangle_before)
mesh_of type6 = patch_mesh sides 8
mesh_of type7 = patch_mesh sides 12

mesh_kept : {kind : Kind} (h : HasFlags kind) → Kept kind (mesh_of h)
mesh_kept type4 = type4_kept triangle_before
mesh_kept type6 = type6_kept sides
mesh_kept type7 = type7_kept sides

-- the numbers met where a flag stands, by whole flags
abbrev pub flags_met : Kind → ℕ → ℕ → ℕ → ℕ → List ℕ → List ℕ
flags_met kind coord comp flag n s = met (format_by whole_number kind flag coord comp n) (length (stream s)) false (stream s)

module _ {kind : Kind} (h : HasFlags kind) (coord comp flag : ℕ) (entries : List Float) (n : ℕ) where
  -- the mesh that a reading makes of bytes
  abbrev pub mesh_by : Meaning → List ℕ → Finished Float
  mesh_by meaning s = mesh_of h (decode_of (by kind coord comp flag entries n meaning)) n (raw_of (by kind coord comp flag entries n meaning) s)

  -- a cut gives a beginning, whatever a flag means
  pub mesh_cut : (meaning : Meaning) {s t : List ℕ} → Begins s t → MeshBegins (mesh_by meaning s) (mesh_by meaning t)
  mesh_cut meaning {s} {t} b = go h
    where
      go : {kind : Kind} (h : HasFlags kind)
          → MeshBegins (mesh_of h (decode_of (by kind coord comp flag entries n meaning)) n (raw_of (by kind coord comp flag entries n meaning) s))
          (mesh_of h (decode_of (by kind coord comp flag entries n meaning)) n (raw_of (by kind coord comp flag entries n meaning) t))
      go type4 = bytes4_begins _ _ n b triangle_before
      go type6 = bytes67_begins _ _ n b sides 8
      go type7 = bytes67_begins _ _ n b sides 12

all_between : (P : ℕ → Type 0) (before x after : List ℕ) → All P (before ++ (x ++ after)) → All P x
all_between P before x after p =
    let q : All P (x ++ after) = rw (drop_at before (x ++ after) (length before) refl) at (all_drop P (length before) (before ++ (x ++ after)) p) in
    rw (take_at x after (length x) refl) at (all_take P (length x) (x ++ after) q)

module _ {kind : Kind} (h : HasFlags kind) (coord comp flag : ℕ) (entries : List Float) (n row room : ℕ) where
  abbrev published : List ℕ → Outcome Float
  published s = published_reader kind s coord comp flag entries n row room

  abbrev ported : List ℕ → Outcome Float
  ported s = ported_reader kind s coord comp flag entries n row room

  published_is : (s : List ℕ) → published s ≡ parsed (by kind coord comp flag entries n two_low_bits) (mesh_of h) s room
  published_is s = go h
    where
      go : {kind : Kind} (h : HasFlags kind) → published_reader kind s coord comp flag entries n row room ≡ parsed (by kind coord comp flag entries n two_low_bits) (mesh_of h) s room
      go type4 = unfold published_reader in refl
      go type6 = unfold published_reader in refl
      go type7 = unfold published_reader in refl

  ported_is : (s : List ℕ) → ported s ≡ parsed (by kind coord comp flag entries n whole_number) (mesh_of h) s room
  ported_is s = go h
    where
      go : {kind : Kind} (h : HasFlags kind) → ported_reader kind s coord comp flag entries n row room ≡ parsed (by kind coord comp flag entries n whole_number) (mesh_of h) s room
      go type4 = unfold ported_reader in type4_ported s coord comp flag entries n room
      go type6 = unfold ported_reader in refl
      go type7 = unfold ported_reader in refl

  -- where every flag met is below 4, the two are equal
  pub below_4_alike : (s : List ℕ) → All (λ (x : ℕ). x < 4) (flags_met kind coord comp flag n s) → published s ≡ ported s
  below_4_alike s a =
      let agree = all_map (λ (x : ℕ). x < 4) (λ (x : ℕ). whole_number x ≡ two_low_bits x) (flags_met kind coord comp flag n s) (λ x l. sym (mod-eq_of_lt l)) a in
      published_is s
      ∙ sym (met_outcome kind coord comp flag entries n (mesh_of h) (mesh_kept h) whole_number two_low_bits s agree room)
      ∙ sym (ported_is s)

  -- bytes that differ in the upper bits of their flags alone are read alike
  pub upper_bits_unseen : (s t : List ℕ) → clear kind coord comp flag entries n s ≡ clear kind coord comp flag entries n t → published s ≡ published t
  upper_bits_unseen s t e =
      published_is s ∙ unseen_outcome kind coord comp flag entries n (mesh_of h) (mesh_kept h) s t e room ∙ sym (published_is t)

  -- A flag that stands where a reading of j records ends: another with the same two low bits in its place changes nothing.
  pub one_flag_unseen : (j : ℕ) (s t before x y after : List ℕ) → stream s ≡ before ++ (x ++ after) → stream t ≡ before ++ (y ++ after)
      → length x ≡ flag → length y ≡ flag → number x % 4 ≡ number y % 4
      → length (left (format_by two_low_bits kind flag coord comp n) j false (stream s)).bits ≡ length (x ++ after) → published s ≡ published t
  one_flag_unseen j s t before x y after es et wx wy low place =
      let px : AllBelow 2 x = all_between (λ (d : ℕ). d < 2) before x after (rw es at (stream_below s)) in
      let py : AllBelow 2 y = all_between (λ (d : ℕ). d < 2) before y after (rw et at (stream_below t)) in
      let k : ℕ = length (before ++ (x ++ after)) in
      let l : k ≡ length (before ++ (y ++ after)) =
      rw (length-append before (x ++ after), length-append before (y ++ after), length-append x after, length-append y after, wx, wy) in
      upper_bits_unseen s t
      (rw (es, et, ← l) (flag_changed kind flag coord comp n x y after wx wy px py low j k false before (omega arith) (rw es at place)))

  -- to read published is to clear the upper bits and read ported
  pub ported_of_cleared : (s t : List ℕ) → stream t ≡ clear kind coord comp flag entries n s → published s ≡ ported t
  ported_of_cleared s t e =
      published_is s ∙ cleared_outcome kind coord comp flag entries n (mesh_of h) (mesh_kept h) whole_number (λ x l. refl) s t e room ∙ sym (ported_is t)

-- flags of one or two bits are below 4
pub narrow_flags_alike : (kind : Kind) (s : List ℕ) (coord comp flag : ℕ) (entries : List Float) (n row room : ℕ) → flag ≤ 2
    → published_reader kind s coord comp flag entries n row room ≡ ported_reader kind s coord comp flag entries n row room
unfolding published_reader ported_reader
narrow_flags_alike Five s coord comp flag entries n row room w = refl
narrow_flags_alike Four s coord comp flag entries n row room w =
    below_4_alike type4 coord comp flag entries n row room s
    (narrow_met (format_by whole_number Four flag coord comp n) w (length (stream s)) false (stream s) (stream_below s))
narrow_flags_alike Six s coord comp flag entries n row room w =
    below_4_alike type6 coord comp flag entries n row room s
    (narrow_met (format_by whole_number Six flag coord comp n) w (length (stream s)) false (stream s) (stream_below s))
narrow_flags_alike Seven s coord comp flag entries n row room w =
    below_4_alike type7 coord comp flag entries n row room s
    (narrow_met (format_by whole_number Seven flag coord comp n) w (length (stream s)) false (stream s) (stream_below s))

-- ---- Type 4: only the flags that are looked at count

map-joined : {A B : Type 0} (f : A → B) (k : ℕ) (g : ℕ → List A) → map f (joined k g) ≡ joined k (λ (i : ℕ). map f (g i))
unfolding joined
map-joined f zero g = refl
map-joined f (suc k) g = map-append f (joined k g) (g k) ∙ ap (λ (l : List _). l ++ map f (g k)) (map-joined f k g)

flags_by : (flag : Meaning) (n : ℕ) (xs : List ℕ) → flags 0 flag n xs ≡ map flag (flags 0 whole_number n xs)
unfolding flags
flags_by flag n xs = sym (map-joined flag (length xs / (n + 3)) (λ (i : ℕ). get_or xs (i * (n + 3)) 0 ∷ []))

module _ (coord comp flag : ℕ) (entries : List Float) (n : ℕ) (s : List ℕ) where
  -- what the flags of all vertices come to by a meaning
  abbrev pub flags4 : Meaning → List ℕ
  flags4 meaning = flags 0 meaning n (raw_of (by Four coord comp flag entries n meaning) s)

  pub looked_at_alike : All (λ (x : ℕ). x < 4) (looked_at whole_number start 0 (flags4 whole_number)) → (row room : ℕ)
      → published_reader Four s coord comp flag entries n row room ≡ ported_reader Four s coord comp flag entries n row room
  looked_at_alike a row room =
      published_is type4 coord comp flag entries n row room s
      ∙ same_outcome Four coord comp flag entries n (type4_mesh (triangles triangle_before)) two_low_bits whole_number s s refl (λ e. same_mesh) room
      ∙ sym (ported_is type4 coord comp flag entries n row room s)
    where
      same_mesh : mesh_by type4 coord comp flag entries n two_low_bits s ≡ mesh_by type4 coord comp flag entries n whole_number s
      same_mesh =
          unfold type4_mesh in
          rw (flags_by two_low_bits n (raw_of (by Four coord comp flag entries n whole_number) s), ← (below_4_same (flags4 whole_number) a))

  -- the two have the same triangles exactly where the flags do not part
  pub type4_parts : (triangles triangle_before (flags4 whole_number) ≡ triangles triangle_before (flags4 two_low_bits)) ↔ (parts start 0 (flags4 whole_number) ≡ false)
  type4_parts = rw (flags_by two_low_bits n (raw_of (by Four coord comp flag entries n whole_number) s)) (parts_exactly (flags4 whole_number))

-- ---- Types 6 and 7: the ported reading ends at the first flag above 3

module _ (kind : Kind) (coord comp flag n : ℕ) (s : List ℕ) where
  -- where the ported reading ends
  abbrev pub end : Left
  end = left (format_by whole_number kind flag coord comp n) (length (stream s)) false (stream s)

  -- the widths of the record that the published reading finds there, if it is whole
  abbrev pub next_there : Option (List ℕ)
  next_there = next (format_by two_low_bits kind flag coord comp n) end.started end.bits

  -- where it finds one, the flag is above 3
  pub parts_above_3 : 1 ≤ flag → (ws : List ℕ) → next_there ≡ some ws → 3 < number (take flag end.bits)
  parts_above_3 some_bits ws e =
      part_above_3 kind flag coord comp n end.started end.bits ws
      (left_ends (format_by whole_number kind flag coord comp n) some_bits (length (stream s)) false (stream s) (omega arith)) e

module _ {kind : Kind} {own : ℕ} (t : PatchKind kind own) (coord comp flag : ℕ) (entries : List Float) (n : ℕ) (some_bits : 1 ≤ flag) (s : List ℕ) where
  abbrev pub patches_by : Meaning → Finished Float
  patches_by meaning = patch_mesh sides own (decode_of (by kind coord comp flag entries n meaning)) n (raw_of (by kind coord comp flag entries n meaning) s)

  abbrev point : List ℕ → List Float
  point = (by_decode whole_number (ranges entries coord comp)).point

  abbrev colour : List ℕ → List Float
  colour = (by_decode whole_number (ranges entries coord comp)).colour

  -- the ported patches are a beginning of the published ones
  pub ported_begins_published : MeshBegins (patches_by whole_number) (patches_by two_low_bits)
  ported_begins_published = ported_begins t flag coord comp n some_bits s point colour

  -- they are equally many exactly where the published reading finds no record there either; then they are the same
  pub patches_part : ((patches_by whole_number).count ≡ (patches_by two_low_bits).count) ↔ (next_there kind coord comp flag n s ≡ none)
  patches_part = part_exactly t flag coord comp n some_bits s point colour

  pub no_more_alike : next_there kind coord comp flag n s ≡ none → patches_by whole_number ≡ patches_by two_low_bits
  no_more_alike e = part_same t flag coord comp n some_bits s point colour e
