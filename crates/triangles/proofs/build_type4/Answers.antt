-- `triangles::build_type4` meets its contract: what is refused, else the core over the list. Assumes nothing.
use Rattle.std.proofs.Common.{sym, subst}
use Rattle.accepting.specs.Inner.Accepting.{FromList}
use Rattle.triangles.proofs.Ends.{list4_ended}
use Rattle.triangles.proofs.build_type4.Goals as goal

pub returns : goal.returns
returns c =
    let a = c.args in
    let f = subst (FromList a.values.now 1 a.n) (sym c.new-vertices.ensures.input) c.in_ok-input.ensures in
    list4_ended c.new-vertices.result c.new-vertices.ensures.total a.values.now a.n _ a.rule f c.free_form.ensures
