-- `write_patches` meets its contract. The invariant: the last patch stands right before, and the mesh is what was written and what comes from here
-- on. The measure is what is left of the places. Assumes nothing.
use native.Mathlib.Omega.{arith}
use Rattle.patches.proofs.Walk.{walk_start, walk_flag, walk_joined, walk_room, walk_step, walk_end}
use Rattle.patches.proofs.Found.{record_moves, found_whole}
use Rattle.patches.proofs.writing.Patches.write_patches.Goals as goal

pub loop-flag-init : goal.loop-flag-init
loop-flag-init c = record { within = omega arith; walked = walk_start c.requires }

pub write_patch-at-requires : goal.write_patch-at-requires
write_patch-at-requires c =
    let i = c.loop-flag.invariant in
    let v = found_whole _ _ _ c.in-Some.flag c.in-Some.next c.in-Some.ensures in
    record {
      few = walk_flag i.walked c.in-Some.flag c.in-Some.next c.in-Some.ensures;
      there = omega arith;
      before = walk_joined i.walked c.in-Some.flag c.in-Some.next c.in-Some.ensures;
      room = walk_room i.walked c.in-Some.flag c.in-Some.next c.in-Some.ensures;
    }

pub loop-flag-smaller : goal.loop-flag-smaller
loop-flag-smaller c =
    let m = c.args.self.records.now in
    let v = found_whole m _ _ c.in-Some.flag c.in-Some.next c.in-Some.ensures in
    omega (arith, record_moves m c.in-Some.flag, m.flagged)

pub loop-flag-preserved : goal.loop-flag-preserved
loop-flag-preserved c =
    let v = found_whole _ _ _ c.in-Some.flag c.in-Some.next c.in-Some.ensures in
    let w = walk_step c.loop-flag.invariant.walked c.in-Some.flag c.in-Some.next c.in-Some.ensures c.write_patch-at.ensures in
    record { within = v.within; walked = w }

pub returns : goal.returns
returns c = walk_end c.loop-flag.invariant.walked c.loop-flag.invariant.within c.in_default.ensures
