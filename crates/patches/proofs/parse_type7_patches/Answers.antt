-- `parse_type7_patches` meets its contract: it is `parse_patches` for one form, and its mask leaves the whole number. Assumes nothing.
use Rattle.patches.specs.declared.forms.Form.TheVariants.{Tensor}
use Rattle.patches.proofs.Starting.{whole_outcome}
use Rattle.patches.proofs.parse_type7_patches.Goals as goal

pub returns : goal.returns
returns c =
    let a = c.args in
    rw (whole_outcome Tensor a.data.now a.coord a.comp a.flag a.decode.now a.n _) at c.parse_patches.ensures
