-- `rows::Decoded::write_colours` meets its contract: after i turns the rows of the first i colours stand in `out` from `at`. Assumes nothing.
use Rattle.std.proofs.Common.{arith, ◌≡◌}
use Rattle.colour.specs.Inner.Places.{colours_at}
use Rattle.rows.proofs.Loops.{loop_begins, loop_goes_on, loop_ends}
use Rattle.rows.proofs.Decoded.write_colours.Goals as goal

pub loop-i-init : goal.loop-i-init
loop-i-init c = loop_begins _ (omega arith) (omega arith)

pub loop-i-preserved : goal.loop-i-preserved
loop-i-preserved c = loop_goes_on _ c.loop-i.i c.loop-i.invariant c.write_colour.ensures.written (omega arith)

pub returns-clause-written : goal.returns-clause-written
unfolding colours_at
returns-clause-written c =
    let whole : c.args.k ≡ c.loop-i.i = omega arith in
    loop_ends _ c.loop-i.invariant whole (rw whole)
