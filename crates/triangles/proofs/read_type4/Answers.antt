-- `triangles::read_type4` meets its contract: what is refused, else the core over the bits, whose rows are those of Decode. Assumes nothing.
use Rattle.std.proofs.Common.{Some, sym, subst}
use Rattle.accepting.specs.Inner.Accepting.{FromBits}
use Rattle.accepting.proofs.Accepted.{flag_some}
use Rattle.triangles.proofs.Ends.{type4_ended}
use Rattle.triangles.proofs.read_type4.Goals as goal

pub free_form-requires : goal.free_form-requires
free_form-requires c =
    let a = c.args in
    rw c.new-vertices.ensures.input (flag_some _ a.coord a.comp a.flag a.decode.now a.n c.in_ok-input.ensures)

pub returns : goal.returns
returns c =
    let a = c.args in
    let f = subst (FromBits a.data.now a.coord a.comp (Some a.flag) a.decode.now a.n) (sym c.new-vertices.ensures.input) c.in_ok-input.ensures in
    type4_ended c.new-vertices.result c.new-vertices.ensures.total a.data.now a.coord a.comp a.decode.now a.n a.flag a.mask f c.new-vertices.ensures.mask c.free_form.ensures
