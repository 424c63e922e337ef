-- `rows::ranges::fill` meets its contract: at each kind the list begins with the ranges of those before it. Assumes nothing.
use Rattle.std.proofs.Common.{ℕ, [], ◌∷◌}
use Rattle.lists.specs.Lists.{joined}
use Rattle.lists.specs.Writing.{Written}
use Rattle.decode.specs.Decode.{ranges}
use Rattle.rows.proofs.ranges.fill.Given as goal

abbrev pub invariant-loop-kind : goal.invariant-loop-kind
invariant-loop-kind l = Written l.initial.ranges l.ranges 0 (joined l.kind (λ (k : ℕ). ranges l.decode l.coord l.comp k ∷ [])) l.kind
