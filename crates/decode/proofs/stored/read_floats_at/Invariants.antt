-- `decode::stored::read_floats_at` meets its contract: after i turns the output begins with the first i floats. Assumes nothing.
use Rattle.lists.specs.Writing.{Written}
use Rattle.decode.specs.Stored.{floats_at}
use Rattle.decode.proofs.stored.read_floats_at.Given as goal

abbrev pub invariant-loop-i : goal.invariant-loop-i
invariant-loop-i l = Written l.initial.out l.out 0 (floats_at l.bytes l.at l.i) l.i
