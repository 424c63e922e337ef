-- `build_patches` meets its contract: what is refused, else the patches of the list. Assumes nothing.
use Rattle.std.proofs.Common.{[], sym, subst, ◌∙◌}
use Rattle.accepting.specs.Inner.Accepting.{FromList}
use Rattle.accepting.proofs.Accepted.{list_width, list_mask}
use Rattle.patches.proofs.Starting.{list_outcome}
use Rattle.patches.proofs.build_patches.Goals as goal

pub new-requires-clause-flag_there : goal.new-requires-clause-flag_there
new-requires-clause-flag_there c = c.in_ok-input.ensures.flag_is ∙ list_width c.args.values.now _ c.in_ok-input.ensures.holds _

pub new-requires-clause-mask_there : goal.new-requires-clause-mask_there
new-requires-clause-mask_there c = list_mask c.args.values.now _ c.in_ok-input.ensures.holds _

pub returns : goal.returns
returns c =
    let a = c.args in
    let n = c.new.ensures in
    let f = subst (FromList a.values.now 1 a.n) (sym n.input) c.in_ok-input.ensures in
    rw (list_outcome c.new.result _ a.form [] a.n _ n.mask n.form a.values.now f) at c.patches.ensures
