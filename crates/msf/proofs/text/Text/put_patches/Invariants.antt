-- `msf::text::Text::put_patches` meets its contract: the lines of each patch so far. Assumes nothing.
use Rattle.std.proofs.Common.{◌+◌, ◌*◌, ◌≤◌, length}
use Rattle.msf.specs.Listing.{patches_lines}
use Rattle.msf.specs.Inner.Appending.{Appends}
use Rattle.msf.proofs.Chunks.{Chunked}
use Rattle.msf.proofs.text.Text.put_patches.Given as goal

abbrev pub invariant-loop-patch : goal.invariant-loop-patch
invariant-loop-patch l = record {
  can_next : (goal.iterator-loop-patch).can_next l.patch-iterator;
  is_finite : (goal.iterator-loop-patch).is_finite l.patch-iterator;
  chunked : Chunked l.patches l.size l.patch-iterator (length l.yielded);
  appended : Appends l.initial.self l.self (patches_lines l.points l.n l.patches (length l.yielded));
  at_most : l.self.at ≤ l.initial.self.at + 17 * (length l.yielded * l.size);
}
