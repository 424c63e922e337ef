-- `copy_points` meets its contract: what was copied stands after the patch before, which stays as it was. Assumes nothing.
use Prim.Native.Nat.{◌+◌, ◌*◌}
use mathlib.Core.Path.{◌≡◌}
use lib.ListN.{take}
use Rattle.lists.specs.Lists.{flat}
use Rattle.lists.specs.Writing.{Written}
use Rattle.patches.specs.Inner.Records.{point_in}
use Rattle.patches.proofs.forms.Side.copy_points.Given as goal

abbrev pub invariant-loop-i : goal.invariant-loop-i
invariant-loop-i l = record {
  index : l.p ≡ l.fn.at + 2 * l.i-index;
  copied : Written l.initial.out l.out l.fn.at (flat (point_in l.initial.out l.start) (take l.i-index l.self.points)) l.p;
}
