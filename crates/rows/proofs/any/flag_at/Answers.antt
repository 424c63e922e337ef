-- `rows::any::flag_at` meets its contract: past the end of a list stands NaN, whose flag is 0; else the list's number or the read answers.
-- Assumes nothing.
use lib.ListN.{get_or-eq_default}
use lib.Ieee.{nan, to_unsigned}
use Rattle.rows.specs.Inner.Sources.{flag_at}
use Rattle.rows.proofs.any.flag_at.Goals as goal

pub returns-in-Some : goal.returns-in-Some
unfolding flag_at
returns-in-Some c = rw (c.in-Bits.is, ← c.read.ensures, c.in-Some.is)

pub returns-in_default : goal.returns-in_default
unfolding flag_at
returns-in_default c = rw (c.in-Bits.is, ← c.read.ensures, c.in_default.is)

pub returns-then-p-values : goal.returns-then-p-values
unfolding flag_at
returns-then-p-values c = rw c.in-List.is c.flag_of.ensures

pub returns-else-p-values : goal.returns-else-p-values
unfolding flag_at to_unsigned
returns-else-p-values c = rw (c.in-List.is, get_or-eq_default c.in-List.values.now nan {n = c.args.place.0} c.if-p-values.false)
