-- `dump::read_input` meets its contract: what came so far has been kept, as much as there is room for. Assumes nothing.
use native.Mathlib.Omega.{arith}
use lib.ListN.{take}
use Rattle.std.proofs.lemmas.List.{take_rest}
use Rattle.dump.proofs.Reading.{kept_none, kept_more, kept_all}
use Rattle.dump.proofs.read_input.Goals as goal

pub loop-init : goal.loop-init
loop-init g c = kept_none _ _

pub loop-preserved : goal.loop-preserved
loop-preserved g c =
    kept_more _ _ _ (take c.in_ok-count.count c.read.new.buf) c.loop.invariant c.in_ok-count.ensures.bytes.0 (rw take_rest at c.keep-at.ensures)

pub returns-in-0-clause-first : goal.returns-in-0-clause-first
returns-in-0-clause-first g c =
    kept_all _ _ _ c.loop.invariant (rw c.in-0.is at c.in_ok-count.ensures.bytes.0) (c.in_ok-count.ensures.bytes.1 c.in-0.is (omega arith))
