-- `tensor::raw::write_colours` meets its contract. Assumes nothing.
use Rattle.tensor.proofs.RawRows.{colours_row}
use Rattle.tensor.proofs.raw.write_colours.Goals as goal

pub returns : goal.returns
returns c = rw (c.write_times.ensures, c.write_times-2.ensures, c.write_times-3.ensures) (colours_row c.args.c00.now c.args.c03.now c.args.c33_c30.now)
