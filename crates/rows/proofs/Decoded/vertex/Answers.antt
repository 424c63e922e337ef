-- `rows::Decoded::vertex` meets its contract: the colour is worked out from the components where they stand. Assumes nothing.
use Rattle.std.proofs.Common.{sym, ap, ◌∙◌}
use Rattle.lists.proofs.Parts.{written_between}
use Rattle.colour.specs.Colour.{colour_of}
use Rattle.rows.proofs.Vertices.{vertex_of_lem}
use Rattle.rows.proofs.Decoded.vertex.Goals as goal

pub returns-clause-value : goal.returns-clause-value
returns-clause-value c =
    let same = c.components_to_color-colour.ensures ∙ ap colour_of (written_between c.write_components-end.ensures.written) in
    vertex_of_lem _ _ _ _ _ (sym c.point-x.ensures) same
