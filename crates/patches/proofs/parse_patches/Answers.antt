-- `parse_patches` meets its contract: what is refused, else the patches of the bits, whose rows are those of Decode. Assumes nothing.
use Rattle.std.proofs.Common.{Some, sym, subst}
use Rattle.accepting.specs.Inner.Accepting.{FromBits}
use Rattle.accepting.proofs.Accepted.{flag_some, bits_width, bits_mask}
use Rattle.patches.proofs.Starting.{bits_outcome}
use Rattle.patches.proofs.parse_patches.Goals as goal

pub new-requires-clause-flagged : goal.new-requires-clause-flagged
new-requires-clause-flagged c =
    let a = c.args in
    flag_some _ a.coord a.comp a.flag a.decode.now a.n c.in_ok-input.ensures

pub new-requires-clause-flag_there : goal.new-requires-clause-flag_there
new-requires-clause-flag_there c = bits_width c.args.data.now _ c.in_ok-input.ensures.holds _

pub new-requires-clause-mask_there : goal.new-requires-clause-mask_there
new-requires-clause-mask_there c = bits_mask c.args.data.now _ c.in_ok-input.ensures.holds _

pub returns : goal.returns
returns c =
    let a = c.args in
    let n = c.new.ensures in
    let f = subst (FromBits a.data.now a.coord a.comp (Some a.flag) a.decode.now a.n) (sym n.input) c.in_ok-input.ensures in
    rw (bits_outcome c.new.result a.mask a.form a.decode.now a.n _ n.mask n.form a.data.now a.coord a.comp a.flag f) at c.patches.ensures
