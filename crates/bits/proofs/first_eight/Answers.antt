-- `bits::first_eight` meets its contract: the loop accumulates the number of the first k, by `gathers_padded` of proofs/Gathering.antt.
-- Assumes nothing.
use Rattle.std.proofs.Common.{◌≡◌, ◌++◌, get_or, replicate, arith}
use Rattle.std.proofs.lemmas.Grind.{common_steps}
use Rattle.bits.specs.Inner.Gathering.{Gathers}
use Rattle.bits.proofs.Gathering.{gathers_none, gathers_next, gathers_padded}
use Rattle.bits.proofs.first_eight.Goals as goal

pub loop-k-init : goal.loop-k-init
loop-k-init c = gathers_none _ _

pub loop-k-preserved : goal.loop-k-preserved
loop-k-preserved c =
    let l = c.loop-k in
    let s = c.args.data.now in
    let e : c.from.result ≡ get_or s l.k 0 = grind (arith, common_steps) in
    let byte : Gathers (s ++ replicate 8 0) l.k 1 c.from.result = rw e (gathers_padded s l.k (omega arith) (c.type_inv.data l.k).fits) in
    gathers_next 64 l.k (omega arith) l.invariant byte
