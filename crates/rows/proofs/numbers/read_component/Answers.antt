-- `rows::numbers::read_component` meets its contract: the number is read and decoded. Assumes nothing.
use Rattle.colour.specs.Inner.Places.{bit_numbers}
use Rattle.rows.proofs.numbers.read_component.Goals as goal

pub returns : goal.returns
unfolding bit_numbers
returns c = rw (c.decoded.ensures, c.number.ensures)
