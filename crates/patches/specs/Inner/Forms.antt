-- The forms of patches, as the inner functions choose between them.
use Rattle.std.specs.Prelude.{ℕ, ◌-◌, ◌≡◌, List, Float, Some, map}
use Rattle.std.proofs.Math.Option.{some}
use Rattle.std.proofs.Math.ListN.{get_elem?}
use Rattle.answers.specs.Outcome.{Outcome}
use Rattle.records.specs.declared.shape.Kind.{Kind}
use Rattle.records.specs.declared.shape.Kind.TheVariants.{Six, Seven}
use Rattle.records.specs.Format.{Meaning}
use Rattle.rules.specs.Patches.{Places, patch, Table, sides, list_sides}
use Rattle.rules.specs.Meshes.{patch_mesh}
use Rattle.meshes.specs.Outcomes.{parsed, built}
use Rattle.patches.specs.declared.forms.Form.{Form}
use Rattle.patches.specs.declared.forms.Form.TheVariants.{Coons, Tensor, Grid}
use Rattle.patches.specs.declared.forms.Side.{Side}

abbrev pub kind_of : Form → Kind
kind_of Coons = Six
kind_of Tensor = Seven
kind_of Grid = Seven

abbrev pub own_of : Form → ℕ
own_of Coons = 8
own_of Tensor = 12
own_of Grid = 12

abbrev pub table_of : Form → Table
table_of Coons = sides
table_of Tensor = sides
table_of Grid = list_sides

-- a row of a table in the code, and all its rows
abbrev pub places_of : Side → Places
places_of side = patch side.points side.colours

abbrev pub sides_in : List Side → Table
sides_in rows = map places_of rows

-- the side that a table has for a flag
abbrev pub TakenSide : Table → ℕ → Side → Type 0
TakenSide T flag side = get_elem? T (flag - 1) ≡ some (places_of side)

abbrev pub parsed_form : Form → Meaning → List ℕ → ℕ → ℕ → ℕ → List Float → ℕ → ℕ → Outcome Float
parsed_form form meaning s coord comp flag entries n room =
    parsed (record { kind = kind_of form; meaning = meaning; flag = Some flag; coord = coord; comp = comp; entries = entries; n = n })
    (patch_mesh (table_of form) (own_of form)) s room

abbrev pub built_form : Form → List Float → ℕ → ℕ → Outcome Float
built_form form vs n room = built (patch_mesh (table_of form) (own_of form)) n vs room
