-- What the first pass of a writer answers: how many bits a list takes; None: it is not accepted.
use Rattle.std.specs.Prelude.{ℕ, Option}

abbrev pub Measured : Type 0
Measured = Option ℕ
