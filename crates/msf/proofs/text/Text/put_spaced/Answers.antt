-- `msf::text::Text::put_spaced` meets its contract: after so many turns that many numbers have been written. Assumes nothing.
use native.Mathlib.Omega.{arith}
use lib.Seq.{take_all}
use lib.Ieee.{nan}
use Rattle.lists.specs.Lists.{flat}
use Rattle.msf.specs.Listing.{spaced}
use Rattle.msf.proofs.Appending.{appends_none, appends_then}
use Rattle.msf.proofs.Words.{spaced_more}
use Rattle.msf.proofs.text.Text.put_spaced.Goals as goal

pub loop-x-init : goal.loop-x-init
unfolding spaced flat
loop-x-init c = record { appended = appends_none c.args.self.now (omega arith); at_most = omega arith; inside = omega arith }

pub loop-x-preserved : goal.loop-x-preserved
loop-x-preserved c =
    let l = c.loop-x in
    record {
      appended = rw (spaced_more c.args.numbers.now l.x-index nan c.loop-x-test.true) (appends_then l.invariant.appended (appends_then c.put_byte.ensures c.put_float.ensures.appended));
      at_most = omega arith;
      inside = omega arith;
    }

pub returns-clause-appended : goal.returns-clause-appended
returns-clause-appended c = rw (take_all c.loop-x.x-index c.args.numbers.now (omega arith)) at c.loop-x.invariant.appended
