-- `copy_colours` meets its contract: what was copied stands after the patch before, which stays as it was. Assumes nothing.
use Prim.Native.Nat.{◌<◌}
use native.Mathlib.Omega.{arith}
use lib.ListN.{length}
use Rattle.lists.specs.Lists.{flat}
use Rattle.lists.proofs.Writing.{written_none}
use Rattle.patches.proofs.Copying.{below_at, colour_then}
use Rattle.patches.proofs.forms.Side.copy_colours.Goals as goal

pub loop-i-init : goal.loop-i-init
unfolding flat
loop-i-init c = record { index = omega arith; copied = written_none _ _ (omega arith) }

pub loop-i-preserved : goal.loop-i-preserved
loop-i-preserved c =
    let colours = c.args.self.now.colours in
    let i = c.loop-i.i-index in
    let there : i < length colours = omega arith in
    let few = below_at colours i c.requires.few there in
    record {
      index = omega arith;
      copied =
          colour_then colours i there c.args.layout.n c.args.start few (omega arith) c.loop-i.invariant.copied c.copy_colour-p.ensures.written;
    }
