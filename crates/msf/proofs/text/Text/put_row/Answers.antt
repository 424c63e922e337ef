-- `msf::text::Text::put_row` meets its contract: the numbers before the mark, then the mark and what follows it. Assumes nothing.
use Prim.Native.Nat.{◌+◌, ◌-◌}
use mathlib.Core.Path.{◌≡◌}
use native.Mathlib.Omega.{arith}
use Rattle.std.proofs.lemmas.List.{take_rest}
use Rattle.msf.proofs.Appending.{appends_then}
use Rattle.msf.proofs.Words.{row_text}
use Rattle.msf.proofs.text.Text.put_row.Goals as goal

pub returns-clause-appended : goal.returns-clause-appended
returns-clause-appended c =
    let coords = c.args.coords in
    let row = c.args.row.now in
    let two : coords + 2 ≡ coords + 3 - 1 = omega arith in
    rw (row_text coords row (omega arith), two, ← (take_rest row coords))
    (appends_then (appends_then c.put_float.ensures.appended c.put_spaced.ensures.appended) c.put_inks.ensures.appended)
