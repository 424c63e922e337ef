-- Records one after the other, in bits or in a list of numbers, and their patches in the output.
use Rattle.std.specs.Prelude.{ℕ, zero, suc, ◌+◌, ◌-◌, ◌*◌, Bool, cond, List, [], ◌++◌, leb, Float, Some, None}
use Rattle.std.specs.Prelude as prelude
use Rattle.std.proofs.Math.Option.{Option, none, some}
use Rattle.std.proofs.Math.ListN.{get_elem?}
use Rattle.std.specs.Float.{nan}
use Rattle.lists.specs.Lists.{part, flat}
use Rattle.decode.specs.Decode.{Ranges}
use Rattle.colour.specs.Inner.Places.{points_at, colours_at}
use Rattle.records.specs.Format.{points_after, colours_after, format_by, raw_reading}
use Rattle.rows.specs.declared.Source.{Source}
use Rattle.rows.specs.declared.Source.TheVariants.{Bits, List as Listed}
use Rattle.rows.specs.declared.Place.{Place}
use Rattle.rows.specs.declared.Layout.{Layout}
use Rattle.rows.specs.Inner.Sources.{numbers_of, masked, flag_in, range_list, held_ranges}
use Rattle.rules.specs.Patches.{Places}
use Rattle.rules.specs.Meshes.{Finished, patch_mesh}
use Rattle.meshes.specs.Decoded.{by_decode, as_listed}
use Rattle.patches.specs.declared.forms.Form.{Form}
use Rattle.patches.specs.declared.finding.Records.{Records}
use Rattle.patches.specs.declared.writing.Patches.{Patches}
use Rattle.patches.specs.Inner.Forms.{kind_of, own_of, table_of}

-- ---- a record

-- k points and the rows of k colours from a place on
unfoldable pub points_from : Records → Ranges → ℕ → ℕ → List Float
points_from m R k p = points_at (numbers_of m.input.source R) m.input.layout.coord k p

unfoldable pub colours_from : Records → Ranges → ℕ → ℕ → List Float
colours_from m R k p = colours_at (numbers_of m.input.source R) m.input.layout.comp m.input.layout.n k p

-- how many places a record with a flag takes
unfoldable pub size_of : Records → ℕ → ℕ
size_of m f =
    let L : Layout = m.input.layout in
    L.flag + (points_after (own_of m.form) f * (2 * L.coord) + colours_after f * (L.n * L.comp))

-- what the flag at a place means
abbrev pub flag_meant : Records → ℕ → ℕ
flag_meant m p = flag_in m.input.source m.input.layout.flag m.mask p

-- the highest flag that may come, once there is a patch or not
abbrev pub most_after : Bool → ℕ
most_after started = cond started 3 0

-- the record at a place that has the given flag, if it is complete: its flag, and the place after it
abbrev pub record_at : Records → ℕ → ℕ → prelude.Option (ℕ × Place)
record_at m f p = cond (leb (p + size_of m f) m.limit) (Some (f, record { 0 = p + size_of m f })) None

-- what stands at a place
unfoldable pub found_at : Records → Bool → ℕ → prelude.Option (ℕ × Place)
found_at m started p =
    let f : ℕ = flag_meant m p in
    cond (leb f (most_after started)) (record_at m f p) None

-- ---- a patch in the output

abbrev pub patch_size : Records → ℕ
patch_size m = (4 + own_of m.form) * 2 + 4 * (8 + m.input.layout.n)

-- point i and colour i of those from index start
unfoldable pub point_in : List Float → ℕ → ℕ → List Float
point_in o start i = part nan o (start + i * 2) 2

unfoldable pub colour_in : ℕ → List Float → ℕ → ℕ → List Float
colour_in n o start i = part nan o (start + i * (8 + n)) (8 + n)

-- the side of the patch that stands from index start
unfoldable pub side_points : List Float → ℕ → Places → List Float
side_points o start side = flat (point_in o start) side.points

unfoldable pub side_colours : Records → List Float → ℕ → Places → List Float
side_colours m o start side = flat (colour_in m.input.layout.n o (start + (4 + own_of m.form) * 2)) side.colours

-- the side, if there is one, then the record's own
abbrev pub with_side : Records → List Float → ℕ → Option Places → List Float → List Float → List Float
with_side m o start none ps cs = []
with_side m o start (some side) ps cs = (side_points o start side ++ ps) ++ (side_colours m o start side ++ cs)

abbrev pub with_side_of : Records → List Float → ℕ → ℕ → List Float → List Float → List Float
with_side_of m o start zero ps cs = ps ++ cs
with_side_of m o start (suc f) ps cs = with_side m o start (get_elem? (table_of m.form) f) ps cs

-- the patch of the record at a place, after the patch that stands in the output from index start
unfoldable pub row_at : Records → Ranges → List Float → ℕ → ℕ → ℕ → List Float
row_at m R o start f p =
    let own : ℕ = own_of m.form in
    let L : Layout = m.input.layout in
    with_side_of m o start f (points_from m R (points_after own f) (p + L.flag))
    (colours_from m R (colours_after f) (p + L.flag + points_after own f * (2 * L.coord)))

-- the same, as a patch right before index at
abbrev pub row_in : Patches → List Float → ℕ → ℕ → ℕ → List Float
row_in p o at f place = row_at p.records.now (held_ranges p.ranges.now) o (at - patch_size p.records.now) f place

-- ---- the mesh

-- what the whole mesh of a source comes to
unfoldable pub finished_in : Source → Layout → ℕ → Form → Ranges → Finished Float
finished_in (Bits s) L mask form R =
    patch_mesh (table_of form) (own_of form) (by_decode (masked mask) R) L.n
    (raw_reading (format_by (masked mask) (kind_of form) L.flag L.coord L.comp L.n) s.now)
finished_in (Listed vs) L mask form R = patch_mesh (table_of form) (own_of form) as_listed L.n vs.now

abbrev pub finished_of : Records → Ranges → Finished Float
finished_of m R = finished_in m.input.source m.input.layout m.mask m.form R

-- the same by Decode's entries
abbrev pub decoded_of : Records → List Float → Finished Float
decoded_of m entries = finished_of m (held_ranges (range_list entries m.input.layout.coord m.input.layout.comp))
