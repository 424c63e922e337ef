-- `decode::stored::read_floats_at` meets its contract: the bytes are cut, there is no room, or after i turns the output begins with the first i
-- floats. Assumes nothing.
use Rattle.std.proofs.Common.{◌≡◌, ◌+◌, ◌*◌, ap, sym, ◌∙◌, arith}
use lib.Ieee.{binary64, of_bits}
use Rattle.lists.proofs.Writing.{written_start, written_store}
use Rattle.decode.specs.Stored.{floats_at}
use Rattle.decode.proofs.BigEndian.{number_at, floats_cut, floats_crowded, floats_put}
use Rattle.decode.proofs.stored.read_floats_at.Goals as goal

pub returns-then-bytes-k : goal.returns-then-bytes-k
returns-then-bytes-k c = floats_cut _ _ _ _ (omega arith)

pub returns-then-bytes-k-2 : goal.returns-then-bytes-k-2
returns-then-bytes-k-2 c = floats_cut _ _ _ _ (omega arith)

pub returns-then-out-k : goal.returns-then-out-k
returns-then-out-k c = floats_crowded _ _ _ _ (omega arith) c.if-out-k.true

pub loop-i-init : goal.loop-i-init
unfolding floats_at
loop-i-init c = written_start _ _ _ (omega arith)

pub loop-i-preserved : goal.loop-i-preserved
unfolding floats_at
loop-i-preserved c =
    let l = c.loop-i in
    let a = c.args in
    written_store l.i _ l.invariant (omega arith)
    (c.float_of.ensures ∙ ap (of_bits binary64) (c.big_endian_at.ensures.value ∙ sym (number_at a.bytes.now (a.at + 8 * l.i) 8 (omega arith) (omega arith))))

pub returns : goal.returns
returns c =
    let l = c.loop-i in
    let a = c.args in
    let e : l.i ≡ a.k = omega arith in
    (rw e at l.invariant.held) ∙ floats_put a.bytes.now a.at a.k a.out.now (omega arith) (omega arith)
