-- `rows::Decoded::write_colour` meets its contract: the components stand behind their colour's numbers, which are worked out from them. Assumes nothing.
use mathlib.Core.Path.{ap, ◌∙◌}
use Rattle.lists.proofs.Parts.{written_between, written_before_it}
use Rattle.colour.specs.Colour.{colour_of, colour_row}
use Rattle.rows.proofs.Decoded.write_colour.Goals as goal

pub returns-clause-written : goal.returns-clause-written
unfolding colour_row
returns-clause-written c =
    let eight = c.write_eight.ensures in
    let comps = c.write_components-end.ensures in
    let same = c.components_to_color-colour.ensures ∙ ap colour_of (written_between comps.written) in
    rw same at (written_before_it comps.written eight.written eight.value)
