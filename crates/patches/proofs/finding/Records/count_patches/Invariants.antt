-- `count_patches` meets its contract. The invariant: the patches so far and those from here on are all. The measure is what is left of the places.
-- Assumes nothing.
use Prim.Native.Nat.{◌-◌, ◌≤◌}
use Rattle.decode.specs.Decode.{Ranges}
use Rattle.patches.proofs.Walk.{Count}
use Rattle.patches.proofs.finding.Records.count_patches.Given as goal

abbrev pub invariant-loop-next : goal.invariant-loop-next
invariant-loop-next l = record {
  few : l.count ≤ l.place.0;
  within : l.place.0 ≤ l.self.limit;
  counted : (R : Ranges) → Count l.self R l.count l.place.0 l.started;
}

abbrev pub decreases-loop-next : goal.decreases-loop-next
decreases-loop-next l = l.self.limit - l.place.0
