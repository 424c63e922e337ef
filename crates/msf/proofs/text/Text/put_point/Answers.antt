-- `msf::text::Text::put_point` meets its contract: two numbers and the line's end. Assumes nothing.
use native.Mathlib.Omega.{arith}
use Rattle.std.proofs.lemmas.List.{take_rest}
use Rattle.msf.proofs.Appending.{appends_then}
use Rattle.msf.proofs.Words.{point_text}
use Rattle.msf.proofs.text.Text.put_point.Goals as goal

pub returns-clause-appended : goal.returns-clause-appended
returns-clause-appended c =
    let point = c.args.point.now in
    rw (point_text point (omega arith), ← (take_rest point 1))
    (appends_then (appends_then c.put_float.ensures.appended c.put_spaced.ensures.appended) c.put_byte.ensures)
