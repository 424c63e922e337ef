-- `rows::numbers::read_point` meets its contract: both numbers are read and decoded. Assumes nothing.
use Rattle.colour.specs.Inner.Places.{bit_numbers, point_at}
use Rattle.rows.proofs.numbers.read_point.Goals as goal

pub returns : goal.returns
unfolding point_at bit_numbers
returns c = rw (c.decoded.ensures, c.decoded-2.ensures, c.number-x.ensures, c.number-y.ensures)
