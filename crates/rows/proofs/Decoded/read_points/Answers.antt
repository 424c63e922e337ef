-- `rows::Decoded::read_points` meets its contract: after i turns the first i points stand in `out` from `at`. Assumes nothing.
use Rattle.std.proofs.Common.{arith}
use Rattle.colour.specs.Inner.Places.{points_at}
use Rattle.rows.proofs.Loops.{loop_begins, loop_goes_on, loop_ends}
use Rattle.rows.proofs.Decoded.read_points.Goals as goal

pub loop-i-init : goal.loop-i-init
loop-i-init c = loop_begins _ (omega arith) (omega arith)

pub loop-i-preserved : goal.loop-i-preserved
loop-i-preserved c = loop_goes_on _ c.loop-i.i c.loop-i.invariant (rw c.read_point-x.ensures at c.write_two.ensures.written) (omega arith)

pub returns-clause-written : goal.returns-clause-written
unfolding points_at
returns-clause-written c = loop_ends _ c.loop-i.invariant (omega arith) (omega arith)
