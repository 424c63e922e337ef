-- `packing::put::store` meets its contract: after k turns the high k of the bytes are stored. Assumes nothing.
use lib.Pow.{shr-shr}
use Prim.Native.Nat.{◌+◌, ◌-◌, ◌*◌, ◌/◌, ◌^◌}
use mathlib.Core.Path.{◌≡◌}
use native.Mathlib.Omega.{arith}
use Rattle.packing.proofs.Putting.{stored_none, stored_more}
use Rattle.packing.proofs.put.store.Goals as goal

pub loop-k-init : goal.loop-k-init
loop-k-init c = stored_none _ _ _ (omega arith)

pub loop-k-preserved : goal.loop-k-preserved
loop-k-preserved c =
    let l = c.loop-k in
    let a = c.args in
    let e : 8 * (a.count - l.k) ≡ 8 * (a.count - 1 - l.k) + 8 = omega arith in
    let s = rw (e, ← shr-shr a.number (8 * (a.count - 1 - l.k)) 8) at l.invariant in
    let d : a.count - (l.k + 1) ≡ a.count - 1 - l.k = omega arith in
    rw d (stored_more (a.number / 2 ^ (8 * (a.count - 1 - l.k))) (omega arith) s)
