-- `bits::eight_bytes` meets its contract: `gathers_eight` of proofs/Gathering.antt. Assumes nothing.
use Rattle.std.proofs.Common.{◌≡◌, ◌-◌, arith, length, take, drop, length-drop}
use lib.Seq.{take_all}
use Rattle.bits.proofs.Gathering.{gathers_eight}
use Rattle.bits.proofs.eight_bytes.Goals as goal

pub returns : goal.returns
returns c =
    let s = c.args.data.now in
    let from = c.args.from.0 in
    let chunk = rw c.unwrap.ensures at c.first_chunk.ensures.cases in
    let whole : take (length s - from) (drop from s) ≡ drop from s = take_all _ _ (omega (arith, length-drop from s)) in
    rw (c.from_be_bytes.ensures, chunk.same, whole) (gathers_eight s from c.requires (λ i. (c.type_inv.data i).fits))
