-- `rows::Decoded::read_components` meets its contract: after each turn two components more stand in `out` from `at`. Of an odd count the last is left.
-- Assumes nothing.
use Rattle.std.proofs.Common.{ℕ, ◌+◌, ◌-◌, ◌*◌, ◌≤◌, [], ◌∷◌}
use Rattle.lists.specs.Lists.{joined}
use Rattle.lists.specs.Writing.{Written}
use Rattle.colour.specs.Inner.Places.{bit_numbers}
use Rattle.rows.specs.Inner.Sources.{held_ranges}
use Rattle.rows.proofs.Decoded.read_components.Given as goal

abbrev pub invariant-loop-j : goal.invariant-loop-j
invariant-loop-j l =
    record {
      inside : l.j ≤ l.n;
      written : Written l.initial.out l.out l.at (joined l.j (λ (k : ℕ). bit_numbers l.bytes (held_ranges l.ranges) l.comp (2 + k) (l.from + k * l.comp) ∷ [])) (l.at + l.j);
    }

abbrev pub decreases-loop-j : goal.decreases-loop-j
decreases-loop-j l = l.n - l.j
