-- `msf::text::Text::put_rows` meets its contract: a line for each row so far. Assumes nothing.
use Rattle.std.proofs.Common.{◌+◌, ◌*◌, ◌≤◌, length}
use Rattle.msf.specs.Listing.{lines, row_line}
use Rattle.msf.specs.Inner.Appending.{Appends}
use Rattle.msf.proofs.Chunks.{Chunked}
use Rattle.msf.proofs.text.Text.put_rows.Given as goal

abbrev pub invariant-loop-row : goal.invariant-loop-row
invariant-loop-row l = record {
  can_next : (goal.iterator-loop-row).can_next l.row-iterator;
  is_finite : (goal.iterator-loop-row).is_finite l.row-iterator;
  chunked : Chunked l.rows l.size l.row-iterator (length l.yielded);
  appended : Appends l.initial.self l.self (lines (row_line l.coords) l.size l.rows 0 (length l.yielded));
  at_most : l.self.at ≤ l.initial.self.at + 17 * (length l.yielded * l.size);
}
