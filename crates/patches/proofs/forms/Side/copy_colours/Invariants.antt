-- `copy_colours` meets its contract: what was copied stands after the patch before, which stays as it was. Assumes nothing.
use Prim.Native.Nat.{◌+◌, ◌*◌}
use mathlib.Core.Path.{◌≡◌}
use lib.ListN.{take}
use Rattle.lists.specs.Lists.{flat}
use Rattle.lists.specs.Writing.{Written}
use Rattle.patches.specs.Inner.Records.{colour_in}
use Rattle.patches.proofs.forms.Side.copy_colours.Given as goal

abbrev pub invariant-loop-i : goal.invariant-loop-i
invariant-loop-i l = record {
  index : l.p ≡ l.fn.at + l.i-index * (8 + l.layout.n);
  copied : Written l.initial.out l.out l.fn.at (flat (colour_in l.layout.n l.initial.out l.start) (take l.i-index l.self.colours)) l.p;
}
