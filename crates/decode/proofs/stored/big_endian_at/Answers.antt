-- `decode::stored::big_endian_at` meets its contract: the bytes are cut, or all there. Assumes nothing.
use Rattle.std.proofs.Common.{◌≡◌, ◌+◌, ◌-◌, ◌∙◌, arith, length, take, drop, length-take, length-drop}
use Rattle.decode.proofs.BigEndian.{no_bytes, part_there, long_at, cut_at, number_at}
use Rattle.decode.proofs.stored.big_endian_at.Goals as goal

pub returns-then-k-gt8 : goal.returns-then-k-gt8
returns-then-k-gt8 c = record { value = long_at _ _ _ c.if-k-gt8.true; below = no_bytes _ }

pub returns-then-bytes-k : goal.returns-then-bytes-k
returns-then-bytes-k c = record { value = cut_at _ _ _ c.if-k-gt8.false (omega arith); below = no_bytes _ }

pub returns-then-bytes-k-2 : goal.returns-then-bytes-k-2
returns-then-bytes-k-2 c = record { value = cut_at _ _ _ c.if-k-gt8.false (omega arith); below = no_bytes _ }

pub returns-clause-value : goal.returns-clause-value
returns-clause-value c =
    let a = c.args in
    c.big_endian.ensures.value
    ∙ part_there a.bytes.now _ _ a.at a.k (omega arith) (omega arith) (omega arith) c.if-k-gt8.false
    ∙ number_at _ _ _ c.if-k-gt8.false (omega arith)

pub returns-clause-below : goal.returns-clause-below
returns-clause-below c =
    let a = c.args in
    let n : length (take (a.at + a.k - a.at) (drop a.at a.bytes.now)) ≡ a.k = simp (length-take, length-drop) (omega arith) in
    rw n at c.big_endian.ensures.below
