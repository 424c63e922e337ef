-- `count_patches` meets its contract. The invariant: the patches so far and those from here on are all. The measure is what is left of the places.
-- Assumes nothing.
use native.Mathlib.Omega.{arith}
use Rattle.patches.proofs.Walk.{count_start, count_step, count_end}
use Rattle.patches.proofs.Found.{record_moves, found_whole}
use Rattle.patches.proofs.finding.Records.count_patches.Goals as goal

pub loop-next-init : goal.loop-next-init
loop-next-init c = record { few = omega arith; within = omega arith; counted = λ R. count_start c.args.self.now R }

pub loop-next-smaller : goal.loop-next-smaller
loop-next-smaller c =
    let m = c.args.self.now in
    let v = found_whole m _ _ c.in-Some.field-0-0 c.in-Some.next c.in-Some.ensures in
    omega (arith, record_moves m c.in-Some.field-0-0, m.flagged)

pub loop-next-preserved : goal.loop-next-preserved
loop-next-preserved c =
    let m = c.args.self.now in
    let v = found_whole m _ _ c.in-Some.field-0-0 c.in-Some.next c.in-Some.ensures in
    record {
      few = omega (arith, record_moves m c.in-Some.field-0-0, m.flagged);
      within = v.within;
      counted = λ R. count_step c.in-Some.field-0-0 c.in-Some.next (c.loop-next.invariant.counted R) c.in-Some.ensures;
    }

pub returns-clause-value : goal.returns-clause-value
returns-clause-value c = λ R. count_end (c.loop-next.invariant.counted R) c.loop-next.invariant.within c.in_default.ensures
