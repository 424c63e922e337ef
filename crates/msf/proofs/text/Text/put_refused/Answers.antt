-- `msf::text::Text::put_refused` meets its contract: two words and the line's end; a refusal's number has one digit. Assumes nothing.
use native.Mathlib.Omega.{arith}
use Rattle.answers.specs.Outcome.{number_of}
use Rattle.msf.proofs.Appending.{appends_then}
use Rattle.msf.proofs.Answers.{refusal_small}
use Rattle.msf.proofs.Digits.{length-decimal}
use Rattle.msf.proofs.Words.{refused_text}
use Rattle.msf.proofs.text.Text.put_refused.Goals as goal

pub put_decimal-requires : goal.put_decimal-requires
put_decimal-requires c =
    let r = c.args.refusal in
    record { room = rw c.number.ensures (omega (arith, length-decimal (number_of r) (refusal_small r))) }

pub put_byte-requires : goal.put_byte-requires
put_byte-requires c =
    let r = c.args.refusal in
    record { room = let w = rw c.number.ensures at c.put_decimal.ensures.written.after in omega (arith, length-decimal (number_of r) (refusal_small r), w) }

pub returns : goal.returns
returns c =
    rw (refused_text (number_of c.args.refusal), ← c.number.ensures)
    (appends_then (appends_then c.put_bytes.ensures c.put_decimal.ensures) c.put_byte.ensures)
