-- `records::layout::widths_are_readable` meets its contract: the widths are tested one after the other. Assumes nothing.
use Rattle.std.proofs.Common.{arith}
use Rattle.std.proofs.lemmas.Grind.{common_steps}
use Rattle.records.specs.Layout.{widths_readable}
use Rattle.records.proofs.layout.widths_are_readable.Goals as goal

pub returns-then-width_is_readable-2 : goal.returns-then-width_is_readable-2
unfolding widths_readable
returns-then-width_is_readable-2 c = grind (arith, common_steps)

pub returns-else-width_is_readable-2 : goal.returns-else-width_is_readable-2
unfolding widths_readable
returns-else-width_is_readable-2 c = grind (arith, common_steps)
