-- `Stream::write_patches` meets its contract: while numbers are left the next patch is whole, and its flag, read back, has its shape.
-- Assumes nothing.
use Rattle.std.proofs.Common.{get_or}
use Rattle.records.proofs.Filling.{fill_start, first_run, patch_goes_on, patch_turn, rest_there, patch_room, patch_done}
use Rattle.records.proofs.stream.Stream.write_patches.Goals as goal

pub loop-p-init : goal.loop-p-init
loop-p-init c = fill_start c.args.self.short c.requires

pub write_run-after-requires : goal.write_run-after-requires
write_run-after-requires c =
    let r = first_run c.loop-p.invariant c.loop-p-test.true in
    record { there = r.0; room = r.1 }

pub unwrap-rest-requires : goal.unwrap-rest-requires
unwrap-rest-requires c = rest_there c.args.self.mesh c.loop-p.started (get_or c.write_run-after.new.out c.loop-p.p 0) _ c.rest.ensures (λ e. patch_goes_on c.loop-p.invariant c.loop-p-test.true c.write_run-after.ensures.written e)

pub write_rest-at-requires : goal.write_rest-at-requires
write_rest-at-requires c =
    let w = c.loop-p.invariant in
    let f = c.write_run-after.ensures in
    let r = rw c.unwrap-rest.ensures at c.rest.ensures in
    let t = patch_turn w c.loop-p-test.true f.written r in
    let q = patch_room w t f.after f.written in
    record { there = q.0; room = q.1 }

pub loop-p-preserved : goal.loop-p-preserved
loop-p-preserved c =
    let w = c.loop-p.invariant in
    let f = c.write_run-after.ensures in
    let r = rw c.unwrap-rest.ensures at c.rest.ensures in
    let t = patch_turn w c.loop-p-test.true f.written r in
    let g = c.write_rest-at.ensures in
    patch_done w t f.after f.written g.after g.written
