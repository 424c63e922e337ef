-- `write_str` ends: what is left grows shorter. Assumes nothing.
use lib.ListN.{length}
use Rattle.pieces.proofs.PiecesWrite.write_str.Given as goal

abbrev pub decreases-loop-rest : goal.decreases-loop-rest
decreases-loop-rest g l = length l.rest
