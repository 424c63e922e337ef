-- `rows::Decoded::read_points` meets its contract: after i turns the first i points stand in `out` from `at`. Assumes nothing.
use Rattle.std.proofs.Common.{ℕ, ◌+◌, ◌*◌}
use Rattle.lists.specs.Lists.{joined}
use Rattle.lists.specs.Writing.{Written}
use Rattle.colour.specs.Inner.Places.{bit_numbers, point_at}
use Rattle.rows.specs.Inner.Sources.{held_ranges}
use Rattle.rows.proofs.Decoded.read_points.Given as goal

abbrev pub invariant-loop-i : goal.invariant-loop-i
invariant-loop-i l =
    Written l.initial.out l.out l.at (joined l.i (λ (j : ℕ). point_at (bit_numbers l.bytes (held_ranges l.ranges)) l.coord (l.from + j * (2 * l.coord)))) (l.at + 2 * l.i)
