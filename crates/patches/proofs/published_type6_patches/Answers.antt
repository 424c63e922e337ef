-- `published_type6_patches` meets its contract: it is `parse_patches` for one form, and its mask leaves the two low bits. Assumes nothing.
use Rattle.patches.specs.declared.forms.Form.TheVariants.{Coons}
use Rattle.patches.proofs.Starting.{low_outcome}
use Rattle.patches.proofs.published_type6_patches.Goals as goal

pub returns : goal.returns
returns c =
    let a = c.args in
    rw (low_outcome Coons a.data.now a.coord a.comp a.flag a.decode.now a.n _) at c.parse_patches.ensures
