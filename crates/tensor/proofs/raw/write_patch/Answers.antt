-- `tensor::raw::write_patch` meets its contract. Assumes nothing.
use native.Mathlib.Omega.{arith}
use Rattle.tensor.proofs.RawRows.{raw_row}
use Rattle.tensor.proofs.raw.write_patch.Goals as goal

pub returns : goal.returns
returns c =
    let row = raw_row c.args.n c.args.patch.now _ c.split_at_mut-inner.result.0.now (cc (c.copy_from_slice.ensures.after, c.copy_from_slice-2.ensures.after)) (omega arith)
    c.requires.sized.others (omega arith) in
    rw (
      c.write_times.ensures,
      c.write_along-2.ensures,
      c.write_along.ensures,
      c.write_colours.ensures,
    )
    row
