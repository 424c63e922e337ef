-- `rows::Decoded::write_colours` meets its contract: after i turns the rows of the first i colours stand in `out` from `at`. Assumes nothing.
use Rattle.std.proofs.Common.{ℕ, ◌+◌, ◌*◌}
use Rattle.lists.specs.Lists.{joined}
use Rattle.lists.specs.Writing.{Written}
use Rattle.colour.specs.Colour.{colour_row}
use Rattle.rows.specs.Inner.Placing.{components_in}
use Rattle.rows.proofs.Decoded.write_colours.Given as goal

abbrev pub invariant-loop-i : goal.invariant-loop-i
invariant-loop-i l =
    Written l.initial.out l.out l.at (joined l.i (λ (j : ℕ). colour_row (components_in l.self (l.place.0 + j * l.size)))) (l.at + l.i * (8 + l.n))
