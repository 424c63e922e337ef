-- `rows::Decoded::write_components` meets its contract: components in bits, or a part of the list. Assumes nothing.
use Rattle.std.proofs.Common.{arith}
use Rattle.std.specs.Float.{nan}
use Rattle.lists.proofs.Parts.{part_between}
use Rattle.rows.specs.Inner.Sources.{numbers_of}
use Rattle.rows.proofs.Sources.{comp_one, components_of_list}
use Rattle.rows.proofs.Decoded.write_components.Goals as goal

pub returns-in-Bits-clause-written : goal.returns-in-Bits-clause-written
unfolding numbers_of
returns-in-Bits-clause-written c = rw c.in-Bits.is c.read_components.ensures.written

pub returns-in-List-clause-written : goal.returns-in-List-clause-written
unfolding numbers_of
returns-in-List-clause-written c =
    let vs = c.in-List.values.now in
    let one = comp_one c.args.self.input.now c.in-List.is in
    let there = rw (c.in-List.is, one) at c.requires.there in
    rw (c.in-List.is, one, components_of_list vs, ← (part_between nan vs c.args.place.0 c.args.self.input.now.layout.n (omega arith))) c.write_part.ensures.written
