-- `triangles::parse_type5_mesh` meets its contract: what is refused, else the core over the bits, whose rows are those of Decode. Assumes nothing.
use Rattle.std.proofs.Common.{None, sym, subst}
use Rattle.accepting.specs.Inner.Accepting.{FromBits}
use Rattle.triangles.proofs.Ends.{type5_ended}
use Rattle.triangles.proofs.parse_type5_mesh.Goals as goal

pub returns : goal.returns
returns c =
    let a = c.args in
    let f = subst (FromBits a.data.now a.coord a.comp None a.decode.now a.n) (sym c.new-vertices.ensures.input) c.in_ok-input.ensures in
    type5_ended c.new-vertices.result c.new-vertices.ensures.total a.data.now a.coord a.comp a.decode.now a.n a.row f c.lattice_form.ensures
