-- `rows::Decoded::point` meets its contract: the point is read and decoded, or taken from the list. Assumes nothing.
use Rattle.rows.specs.Inner.Sources.{numbers_of}
use Rattle.rows.proofs.Sources.{coord_one, point_of_list}
use Rattle.rows.proofs.Decoded.point.Goals as goal

pub returns-in-Bits : goal.returns-in-Bits
unfolding numbers_of
returns-in-Bits c = rw c.in-Bits.is c.read_point.ensures

pub returns-in-List : goal.returns-in-List
unfolding numbers_of
returns-in-List c = rw (c.in-List.is, coord_one c.args.self.input.now c.in-List.is, point_of_list)
