-- `records::layout::mesh_layout_is_readable` meets its contract: the widths, then Decode's entries. Assumes nothing.
use Rattle.records.specs.Layout.{layout_readable}
use Rattle.records.proofs.layout.mesh_layout_is_readable.Goals as goal

pub returns-then-widths_are_readable : goal.returns-then-widths_are_readable
unfolding layout_readable
returns-then-widths_are_readable c = rw (← c.unwrap_or.ensures, ← c.widths_are_readable.ensures, c.if-widths_are_readable.true)

pub returns-else-widths_are_readable : goal.returns-else-widths_are_readable
unfolding layout_readable
returns-else-widths_are_readable c = rw (← c.unwrap_or.ensures, ← c.widths_are_readable.ensures, c.if-widths_are_readable.false)
