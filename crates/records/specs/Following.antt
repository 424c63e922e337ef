-- What follows the first number of a record: so many coordinates and colours; or nothing, and the mesh ends.
use Rattle.std.specs.Prelude.{ℕ, Option, Some, None}
use Rattle.records.specs.declared.shape.Shape.{Shape}

abbrev pub Following : Type 0
Following = Option Shape

abbrev pub follows : ℕ → ℕ → Following
follows coords colours = Some (record { coords = coords; colours = colours })

abbrev pub ends : Following
ends = None
