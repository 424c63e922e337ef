-- `dump::read_input` meets its contract: what came so far has been kept, as much as there is room for. Assumes nothing.
use Rattle.dump.proofs.Reading.{Kept}
use Rattle.dump.proofs.read_input.Given as goal

abbrev pub invariant-loop : goal.invariant-loop
invariant-loop g l = Kept (g.R.Read.remaining l.initial.reader) (g.R.Read.remaining l.reader) l.file l.at
