-- `msf::text::Text::put_decimal` meets its contract: all digits but the last, then the last. Assumes nothing.
use native.Mathlib.Omega.{arith}
use Rattle.msf.proofs.Digits.{decimal_one, decimal_more, length-decimal_one, length-decimal_more}
use Rattle.msf.proofs.Appending.{appends_then}
use Rattle.msf.proofs.text.Text.+put_decimal.Goals as goal

pub put_digit-requires-clause-room : goal.put_digit-requires-clause-room
put_digit-requires-clause-room t c = omega (arith, length-decimal_one c.args.v c.if-v-lt10.true)

pub returns-then-v-lt10 : goal.returns-then-v-lt10
returns-then-v-lt10 t c = rw (decimal_one c.args.v c.if-v-lt10.true) c.put_digit.ensures

pub put_decimal-requires : goal.put_decimal-requires
put_decimal-requires t c = (omega arith, omega (arith, length-decimal_more c.args.v c.if-v-lt10.false))

pub put_digit-requires-2-clause-room : goal.put_digit-requires-2-clause-room
put_digit-requires-2-clause-room t c = omega (arith, length-decimal_more c.args.v c.if-v-lt10.false)

pub returns : goal.returns
returns t c = rw (decimal_more c.args.v c.if-v-lt10.false) (appends_then c.put_decimal.ensures c.put_digit-2.ensures)
