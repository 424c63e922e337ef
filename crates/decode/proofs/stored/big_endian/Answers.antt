-- `decode::stored::big_endian` meets its contract: after some bytes the number is theirs. Assumes nothing.
use Rattle.std.proofs.Common.{◌≡◌, ℕ, ◌+◌, ◌*◌, length, sym, refl, ap, ◌∙◌, arith, zero-add}
use Rattle.decode.specs.Stored.{big_endian}
use Rattle.decode.proofs.BigEndian.{big_endian-more, no_bytes, byte_more, byte_fits, number_too_long, number_there}
use Rattle.decode.proofs.stored.big_endian.Goals as goal

pub returns-then-bytes-gt8-clause-value : goal.returns-then-bytes-gt8-clause-value
returns-then-bytes-gt8-clause-value c = number_too_long _ c.if-bytes-gt8.true

pub returns-then-bytes-gt8-clause-below : goal.returns-then-bytes-gt8-clause-below
returns-then-bytes-gt8-clause-below c = no_bytes _

pub loop-byte-init : goal.loop-byte-init
unfolding big_endian
loop-byte-init c = record { number = refl; below = omega arith }

pub overflow_mul-number : goal.overflow_mul-number
overflow_mul-number c =
    let l = c.loop-byte in
    record { fits = omega (arith, byte_fits {b = 0} l.byte-index l.invariant.below (omega arith) (omega arith)) }

pub loop-byte-preserved : goal.loop-byte-preserved
loop-byte-preserved c =
    let l = c.loop-byte in
    record {
      number = rw (big_endian-more c.args.bytes.now 0 l.byte-index, ← l.invariant.number, zero-add) (ap (λ (b : ℕ). 256 * l.number + b) c.from.ensures);
      below = byte_more l.byte-index l.invariant.below (omega (arith, c.from.ensures, c.type_inv.bytes l.byte-index));
    }

pub returns-clause-value : goal.returns-clause-value
returns-clause-value c =
    let l = c.loop-byte in
    let e : l.byte-index ≡ length c.args.bytes.now = omega arith in
    rw e at l.invariant.number ∙ sym (number_there c.args.bytes.now c.if-bytes-gt8.false)
