-- `msf::text::Text::put_inks` meets its contract: the two cases of the mark. Assumes nothing.
use lib.Ieee.{of_bits}
use Rattle.std.proofs.lemmas.List.{take_rest}
use Rattle.msf.proofs.Words.{ink_words_lem, no_ink_words}
use Rattle.msf.proofs.text.Text.put_inks.Goals as goal

pub returns-then-colour-clause-appended : goal.returns-then-colour-clause-appended
unfolding of_bits
returns-then-colour-clause-appended c =
    let row = c.args.colour.now in
    rw (ink_words_lem row c.if-colour.true, ← (take_rest row 4)) c.put_marked.ensures.appended

pub returns-clause-appended : goal.returns-clause-appended
unfolding of_bits
returns-clause-appended c =
    let row = c.args.colour.now in
    rw (no_ink_words row c.if-colour.false, ← (take_rest row 8)) c.put_marked-2.ensures.appended
