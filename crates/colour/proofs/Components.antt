-- A colour's components stand in its row as they came: unclamped, after its eight numbers. Assumes nothing.
use mathlib.Core.Path.{◌≡◌}
use mathlib.Core.List.{List}
use lib.ListN.{drop}
use lib.Seq.{drop_at}
use lib.Ieee.{Float}
use Rattle.colour.specs.Colour.{colour_numbers, colour_of, colour_row}
use Rattle.colour.proofs.Lengths.{length-colour}

pub components_kept : (comps : List Float) → drop 8 (colour_row comps) ≡ comps
unfolding colour_row
components_kept comps = drop_at (colour_numbers (colour_of comps)) comps 8 (length-colour (colour_of comps))
