-- `dump::keep` meets its contract: one copy. Assumes nothing.
use Prim.Native.Nat.{min}
use mathlib.Core.Path.{◌≡◌, ◌∙◌}
use native.Mathlib.Nat.{zero-add}
use native.Mathlib.Omega.{arith}
use lib.ListN.{length, take, length-take}
use Rattle.std.proofs.lemmas.List.{take_min}
use Rattle.msf.proofs.Appending.{copied}
use Rattle.dump.proofs.keep.Goals as goal

pub returns : goal.returns
returns c =
    let came = c.args.came.now in
    let room = c.args.room.now in
    let kept = c.min-kept.result in
    let n : kept ≡ min (length room) (length came) = omega arith in
    let e : c.copy_from_slice.new.self ≡ take (length room) came = c.copy_from_slice.ensures.after ∙ (rw n (take_min (length room) came)) in
    let long : kept ≡ length (take (length room) came) = rw length-take n in
    let w = copied room 0 kept (take (length room) came) c.copy_from_slice.new.self e long (rw (zero-add, ← long) (omega arith)) in
    rw (zero-add, ← long) at w
