-- `msf::text::Text::put_decimal` ends: the number gets smaller. Assumes nothing.
use Rattle.msf.proofs.text.Text.+put_decimal.Given as goal

abbrev pub decreases-put_decimal : goal.decreases-put_decimal
decreases-put_decimal l = l.v
