-- `colour::components_to_color` meets its contract: a law of proofs/Counts.antt for each count. Assumes nothing.
use Rattle.std.proofs.Common.{arith}
use borrow.Author.Tests.{ltb-true, ltb-false}
use lib.Ieee.{of_bits}
use Rattle.colour.proofs.Counts.{gray, few, four, more}
use Rattle.colour.proofs.components_to_color.Goals.{then-comps-lt4, else-comps-lt4+else-comps-lt5, in_default-via-then-comps-lt1, in_default-via-else-comps-lt1+else-comps-lt2+then-comps-lt3}
use Rattle.colour.proofs.components_to_color.Goals as goal

pub returns-in-len1 : goal.returns-in-len1
returns-in-len1 c = cc (gray c.args.comps.now (omega arith))

pub returns-in-len4 : goal.returns-in-len4
returns-in-len4 c = cc (four c.args.comps.now (omega arith))

pub returns-in-len3-up : goal.returns-in-len3-up
returns-in-len3-up c =
    elim c.in-len3-up-1.branch [
      | then-comps-lt4 w ↦ cc (more c.args.comps.now (omega (arith, ltb-true, ltb-false)) (omega (arith, ltb-true, ltb-false)))
      | else-comps-lt4+else-comps-lt5 w ↦ cc (more c.args.comps.now (omega (arith, ltb-true, ltb-false)) (omega (arith, ltb-true, ltb-false)))
    ]

pub returns-in_default : goal.returns-in_default
unfolding of_bits
returns-in_default c =
    elim c.in_default.branch [
      | in_default-via-then-comps-lt1 w ↦ cc (few c.args.comps.now (omega (arith, ltb-true, ltb-false)) (omega (arith, ltb-true, ltb-false)))
      | in_default-via-else-comps-lt1+else-comps-lt2+then-comps-lt3 w ↦ cc (few c.args.comps.now (omega (arith, ltb-true, ltb-false)) (omega (arith, ltb-true, ltb-false)))
    ]
