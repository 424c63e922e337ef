-- `tensor::float::write_patch` meets its contract. Assumes nothing.
use mathlib.Core.Path.{◌∙◌}
use native.Mathlib.Omega.{arith}
use Rattle.tensor.proofs.FloatRows.{float_row}
use Rattle.tensor.proofs.float.write_patch.Goals as goal

pub returns : goal.returns
returns c = λ n size.
    let border = c.copy_from_slice.ensures.after ∙ c.split_at.ensures.front in
    rw (c.copy_from_slice-2.ensures.after, c.write_along-2.ensures, c.write_along.ensures, c.copy.ensures, border, c.split_at.ensures.back)
    (float_row n c.args.patch.now c.split_at_mut-inner.result.0.now size (omega arith))
