-- `write_patches` meets its contract. The invariant: the last patch stands right before, and the mesh is what was written and what comes from here
-- on. The measure is what is left of the places. Assumes nothing.
use Prim.Native.Nat.{◌-◌, ◌≤◌}
use Rattle.rows.specs.Inner.Sources.{held_ranges}
use Rattle.patches.proofs.Walk.{Walk}
use Rattle.patches.proofs.writing.Patches.write_patches.Given as goal

abbrev pub invariant-loop-flag : goal.invariant-loop-flag
invariant-loop-flag l = record {
  within : l.place.0 ≤ l.self.records.now.limit;
  walked : Walk l.self.records.now (held_ranges l.self.ranges.now) l.initial.out l.out l.at l.place.0 l.started;
}

abbrev pub decreases-loop-flag : goal.decreases-loop-flag
decreases-loop-flag l = l.self.records.now.limit - l.place.0
