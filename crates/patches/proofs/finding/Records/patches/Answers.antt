-- `patches` meets its contract: every patch takes as many numbers, so the count decides whether there is room. Assumes nothing.
use Rattle.patches.proofs.Ends.{no_room_for_patches, room_for_patches, patches_written}
use Rattle.patches.proofs.finding.Records.patches.Goals as goal

pub returns-then-out-needed : goal.returns-then-out-needed
returns-then-out-needed c =
    let a = c.args in
    let e = c.patch_size.ensures in
    rw e (no_room_for_patches a.self.now c.count_patches-count.ensures.value a.decode.now a.out.now (rw e at c.if-out-needed.true))

pub write_patches-requires : goal.write_patches-requires
write_patches-requires c =
    room_for_patches c.args.self.now c.count_patches-count.ensures.value _ (rw c.patch_size.ensures at c.if-out-needed.false)

pub returns : goal.returns
returns c =
    let a = c.args in
    patches_written a.self.now c.count_patches-count.ensures.value a.decode.now a.out.now _ _ c.fill_ranges.ensures c.write_patches.ensures
