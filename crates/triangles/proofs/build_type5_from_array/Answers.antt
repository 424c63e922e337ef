-- `triangles::build_type5_from_array` meets its contract: what is refused, else the core over the list. Assumes nothing.
use Rattle.std.proofs.Common.{sym, subst}
use Rattle.accepting.specs.Inner.Accepting.{FromList}
use Rattle.triangles.proofs.Ends.{list5_ended}
use Rattle.triangles.proofs.build_type5_from_array.Goals as goal

pub returns : goal.returns
returns c =
    let a = c.args in
    let f = subst (FromList a.values.now 0 a.n) (sym c.new-vertices.ensures.input) c.in_ok-input.ensures in
    list5_ended c.new-vertices.result c.new-vertices.ensures.total a.values.now a.n _ a.row f c.lattice_form.ensures
