-- `Waiting::put` meets its contract: all the bits wait, or four bytes of them go out. Assumes nothing.
use Rattle.packing.proofs.Putting.{put_waits, put_goes}
use Rattle.packing.proofs.waiting.Waiting.put.Goals as goal

pub returns-then-count-lt32 : goal.returns-then-count-lt32
returns-then-count-lt32 c =
    let r = c.requires in
    put_waits c.args.self c.args.x c.args.w c.args.out.now r.fits r.width r.room

pub returns : goal.returns
returns c =
    let r = c.requires in
    put_goes c.args.self c.args.x c.args.w c.args.out.now r.fits r.width c.if-count-lt32.false c.store.ensures
