-- What each reader and builder answers and leaves, for every input: document 01, "Refusal numbers" and "Records". A mesh read from bytes is Decode
-- and the rules over the raw reading; one built from a list is the rules over the list.
use Rattle.std.specs.Prelude.{Option, Some, None, ℕ, not, List, length, ltb, Float}
use Rattle.std.proofs.Math.Option.{none}
use Rattle.answers.specs.declared.Refusal.TheVariants.{Layout, Components, Length}
use Rattle.answers.specs.Limits.{most_components, most_bytes, most_numbers}
use Rattle.answers.specs.Outcome.{Outcome, refuse_if, fitted}
use Rattle.decode.specs.Decode.{ranges}
use Rattle.records.specs.declared.shape.Kind.{Kind}
use Rattle.records.specs.declared.shape.Kind.TheVariants.{Four, Five, Six, Seven}
use Rattle.records.specs.Layout.{first_width, layout_readable}
use Rattle.records.specs.Format.{Meaning, whole_number, two_low_bits, format_by, raw_reading}
use Rattle.rules.specs.Triangles.{FlagRule, triangle_before, triangles}
use Rattle.rules.specs.Ported.{binary_reader}
use Rattle.rules.specs.Patches.{Table, sides}
use Rattle.rules.specs.Meshes.{Source, Finished, type4_mesh, type5_mesh, patch_mesh}
use Rattle.meshes.specs.Decoded.{by_decode, as_listed}

-- ROOM exactly when the mesh has more numbers than there is room for
abbrev pub fitted_mesh : Finished Float → ℕ → Outcome Float
fitted_mesh mesh room = fitted mesh.count mesh.numbers room

-- ---- from bytes

-- a mesh type at given widths, what its flags mean, Decode's entries and the count of components
pub record Stream : Type 0 where
  pub kind : Kind
  pub meaning : Meaning
  pub flag : Option ℕ
  pub coord : ℕ
  pub comp : ℕ
  pub entries : List Float
  pub n : ℕ

-- the raw numbers of the bytes s
abbrev pub raw_of : Stream → List ℕ → List ℕ
raw_of m s = raw_reading (format_by m.meaning m.kind (first_width m.flag m.coord) m.coord m.comp m.n) s

-- what they stand for
abbrev pub decode_of : Stream → Source ℕ Float
decode_of m = by_decode m.meaning (ranges m.entries m.coord m.comp)

-- LAYOUT, COMPONENTS, LENGTH, ROOM; then the mesh that the raw numbers make
unfoldable pub parsed : Stream → (Source ℕ Float → ℕ → List ℕ → Finished Float) → List ℕ → ℕ → Outcome Float
parsed m mesh s room =
    refuse_if (not (layout_readable m.coord m.comp m.flag (length m.entries))) Layout
    (refuse_if (ltb most_components m.n) Components
    (refuse_if (ltb most_bytes (length s)) Length
    (fitted_mesh (mesh (decode_of m) m.n (raw_of m s)) room)))

abbrev pub parse4 : Meaning → FlagRule → List ℕ → ℕ → ℕ → ℕ → List Float → ℕ → ℕ → Outcome Float
parse4 meaning rule s coord comp flag entries n room =
    parsed (record { kind = Four; meaning = meaning; flag = Some flag; coord = coord; comp = comp; entries = entries; n = n })
    (type4_mesh rule) s room

-- Type 5 has no flags
abbrev pub parse5 : List ℕ → ℕ → ℕ → List Float → ℕ → ℕ → ℕ → Outcome Float
parse5 s coord comp entries n row room =
    parsed (record { kind = Five; meaning = whole_number; flag = None; coord = coord; comp = comp; entries = entries; n = n })
    (type5_mesh row) s room

abbrev pub parse6 : Meaning → Table → List ℕ → ℕ → ℕ → ℕ → List Float → ℕ → ℕ → Outcome Float
parse6 meaning T s coord comp flag entries n room =
    parsed (record { kind = Six; meaning = meaning; flag = Some flag; coord = coord; comp = comp; entries = entries; n = n })
    (patch_mesh T 8) s room

abbrev pub parse7 : Meaning → Table → List ℕ → ℕ → ℕ → ℕ → List Float → ℕ → ℕ → Outcome Float
parse7 meaning T s coord comp flag entries n room =
    parsed (record { kind = Seven; meaning = meaning; flag = Some flag; coord = coord; comp = comp; entries = entries; n = n })
    (patch_mesh T 12) s room

-- the ported reader of a type; the row length is used by Type 5 alone
unfoldable pub ported_reader : Kind → List ℕ → ℕ → ℕ → ℕ → List Float → ℕ → ℕ → ℕ → Outcome Float
ported_reader Four s coord comp flag entries n row room = parse4 whole_number (binary_reader none 0) s coord comp flag entries n room
ported_reader Five s coord comp flag entries n row room = parse5 s coord comp entries n row room
ported_reader Six s coord comp flag entries n row room = parse6 whole_number sides s coord comp flag entries n room
ported_reader Seven s coord comp flag entries n row room = parse7 whole_number sides s coord comp flag entries n room

-- the published one
unfoldable pub published_reader : Kind → List ℕ → ℕ → ℕ → ℕ → List Float → ℕ → ℕ → ℕ → Outcome Float
published_reader Four s coord comp flag entries n row room =
    parse4 two_low_bits (triangles triangle_before) s coord comp flag entries n room
published_reader Five s coord comp flag entries n row room = parse5 s coord comp entries n row room
published_reader Six s coord comp flag entries n row room = parse6 two_low_bits sides s coord comp flag entries n room
published_reader Seven s coord comp flag entries n row room = parse7 two_low_bits sides s coord comp flag entries n room

-- ---- from a list of numbers

-- COMPONENTS, LENGTH, ROOM; then the mesh that the list makes
unfoldable pub built : (Source Float Float → ℕ → List Float → Finished Float) → ℕ → List Float → ℕ → Outcome Float
built mesh n vs room =
    refuse_if (ltb most_components n) Components
    (refuse_if (ltb most_numbers (length vs)) Length
    (fitted_mesh (mesh as_listed n vs) room))

abbrev pub build4 : FlagRule → List Float → ℕ → ℕ → Outcome Float
build4 rule vs n room = built (type4_mesh rule) n vs room

abbrev pub build5 : List Float → ℕ → ℕ → ℕ → Outcome Float
build5 vs n row room = built (type5_mesh row) n vs room

abbrev pub build6 : Table → List Float → ℕ → ℕ → Outcome Float
build6 T vs n room = built (patch_mesh T 8) n vs room

abbrev pub build7 : Table → List Float → ℕ → ℕ → Outcome Float
build7 T vs n room = built (patch_mesh T 12) n vs room
