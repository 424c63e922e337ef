-- `Waiting::put_run` meets its contract: the numbers passed are put. Assumes nothing.
use Rattle.std.proofs.Common.{◌≡◌, ℕ, ◌*◌, ap, ◌∙◌, arith, length, take, length-take}
use native.Mathlib.Nat.{mul-le-mul_right}
use Rattle.lists.specs.Lists.{flat}
use Rattle.packing.specs.Inner.Passes.{run_bits}
use Rattle.packing.proofs.Runs.{fits_at, run_bits-more, length-run_bits}
use Rattle.packing.proofs.Putting.{put_none, put_then, put_place, put_length}
use Rattle.packing.proofs.waiting.Waiting.put_run.Goals as goal

pub loop-x-init : goal.loop-x-init
unfolding flat
loop-x-init c = put_none _ _ (omega arith)

pub put-waiting-requires-clause-fits : goal.put-waiting-requires-clause-fits
put-waiting-requires-clause-fits c = fits_at c.args.w c.args.run.now c.loop-x.x-index c.loop-x-test.true c.requires.fits

pub put-waiting-requires-clause-room : goal.put-waiting-requires-clause-room
put-waiting-requires-clause-room c =
    let l = c.loop-x in
    let p = l.invariant in
    let run = take l.x-index c.args.run.now in
    let n : length run ≡ l.x-index = omega (arith, length-take l.x-index c.args.run.now) in
    let size : length (run_bits c.args.w run) ≡ l.x-index * c.args.w = length-run_bits c.args.w run ∙ ap (λ (k : ℕ). k * c.args.w) n in
    omega (arith, c.requires.room, put_place p, put_length p, size, mul-le-mul_right c.args.w c.loop-x-test.true)

pub loop-x-preserved : goal.loop-x-preserved
loop-x-preserved c =
    let l = c.loop-x in
    rw (run_bits-more c.args.w c.args.run.now l.x-index c.loop-x-test.true) (put_then l.invariant c.put-waiting.ensures)
