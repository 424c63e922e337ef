-- `msf::text::Text::put_spaced` meets its contract: after so many turns that many numbers have been written. Assumes nothing.
use Rattle.std.proofs.Common.{◌+◌, ◌*◌, ◌≤◌, length, map, take}
use Rattle.msf.specs.Text.{float_text}
use Rattle.msf.specs.Listing.{spaced}
use Rattle.msf.specs.Inner.Appending.{Appends}
use Rattle.msf.proofs.text.Text.put_spaced.Given as goal

abbrev pub invariant-loop-x : goal.invariant-loop-x
invariant-loop-x l = record {
  appended : Appends l.initial.self l.self (spaced (map float_text (take l.x-index l.numbers)));
  at_most : l.self.at ≤ l.initial.self.at + 17 * l.x-index;
  inside : l.x-index ≤ length l.numbers;
}
