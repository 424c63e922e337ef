-- `rows::writing::write_part` meets its contract: after each turn two numbers more stand in `out` from `at`. Of an odd count the last is left.
-- Assumes nothing.
use Rattle.std.proofs.Common.{◌+◌, ◌-◌, ◌≤◌}
use Rattle.std.specs.Float.{nan}
use Rattle.lists.specs.Lists.{part}
use Rattle.lists.specs.Writing.{Written}
use Rattle.rows.proofs.writing.write_part.Given as goal

abbrev pub invariant-loop-j : goal.invariant-loop-j
invariant-loop-j l = record { inside : l.j ≤ l.n; written : Written l.initial.out l.out l.at (part nan l.values 0 l.j) (l.at + l.j) }

abbrev pub decreases-loop-j : goal.decreases-loop-j
decreases-loop-j l = l.n - l.j
