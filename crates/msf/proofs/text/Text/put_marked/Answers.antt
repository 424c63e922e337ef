-- `msf::text::Text::put_marked` meets its contract: the mark's word, the numbers' words, and the line's end. Assumes nothing.
use mathlib.Core.List.{map}
use Rattle.msf.specs.Text.{float_text}
use Rattle.msf.proofs.Appending.{appends_then}
use Rattle.msf.proofs.Words.{marked_text}
use Rattle.msf.proofs.text.Text.put_marked.Goals as goal

pub returns-clause-appended : goal.returns-clause-appended
returns-clause-appended c =
    let a = c.args in
    rw (marked_text a.mark (map float_text a.numbers.now) c.requires.digit)
    (appends_then (appends_then (appends_then c.put_byte.ensures c.put_digit.ensures) c.put_spaced.ensures.appended) c.put_byte-2.ensures)
