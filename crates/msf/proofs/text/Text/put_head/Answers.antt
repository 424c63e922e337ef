-- `msf::text::Text::put_head` meets its contract: two words and the line's end. Assumes nothing.
use native.Mathlib.Omega.{arith}
use Rattle.msf.proofs.Appending.{appends_then}
use Rattle.msf.proofs.Digits.{kind_digit, length-decimal}
use Rattle.msf.proofs.Words.{two_words}
use Rattle.msf.proofs.text.Text.put_head.Goals as goal

pub put_decimal-requires : goal.put_decimal-requires
put_decimal-requires c = record { room = omega (arith, length-decimal c.args.count c.requires.low) }

pub put_byte-requires-2 : goal.put_byte-requires-2
put_byte-requires-2 c = record { room = omega (arith, length-decimal c.args.count c.requires.low) }

pub returns-clause-at_most : goal.returns-clause-at_most
returns-clause-at_most c = omega (arith, length-decimal c.args.count c.requires.low)

pub returns-clause-appended : goal.returns-clause-appended
returns-clause-appended c =
    rw (two_words, kind_digit c.args.kind)
    (appends_then (appends_then (appends_then c.put_digit.ensures c.put_byte.ensures) c.put_decimal.ensures) c.put_byte-2.ensures)
