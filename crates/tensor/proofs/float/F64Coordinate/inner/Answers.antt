-- `tensor::float::F64Coordinate::inner` meets its contract: its whole numbers are the floats of their patterns. Assumes nothing.
use mathlib.Core.Path.{refl}
use lib.Ieee.{of_bits, of_int, neg}
use Rattle.tensor.specs.Formulas.{ninth}
use Rattle.tensor.proofs.float.F64Coordinate.inner.Goals as goal

pub returns : goal.returns
unfolding of_bits of_int neg ninth
returns c = refl
