-- `msf::text::Text::put_points` meets its contract: a line for each point so far. Assumes nothing.
use Rattle.std.proofs.Common.{◌+◌, ◌*◌, ◌≤◌, length}
use Rattle.msf.specs.Listing.{lines, point_line}
use Rattle.msf.specs.Inner.Appending.{Appends}
use Rattle.msf.proofs.Chunks.{Chunked}
use Rattle.msf.proofs.text.Text.put_points.Given as goal

abbrev pub invariant-loop-point : goal.invariant-loop-point
invariant-loop-point l = record {
  can_next : (goal.iterator-loop-point).can_next l.point-iterator;
  is_finite : (goal.iterator-loop-point).is_finite l.point-iterator;
  chunked : Chunked l.points 2 l.point-iterator (length l.yielded);
  appended : Appends l.initial.self l.self (lines point_line 2 l.points 0 (length l.yielded));
  at_most : l.self.at ≤ l.initial.self.at + 17 * (length l.yielded * 2);
}
