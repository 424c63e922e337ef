-- `msf::text::Text::put_listing` meets its contract: the first line, then the mesh of the kind. Assumes nothing.
use Rattle.msf.proofs.Appending.{appends_then}
use Rattle.msf.proofs.Meshes.{triangle_lines, coons_lines, tensor_lines}
use Rattle.msf.proofs.text.Text.put_listing.Goals as goal

pub returns-in-Four : goal.returns-in-Four
returns-in-Four c =
    let a = c.args in
    let h = a.header.now in
    rw (← (triangle_lines h.components a.count a.numbers.now h.kind c.in-Four.is c.requires.whole)) (appends_then c.put_head.ensures.appended c.put_rows.ensures.appended)

pub returns-in-Six : goal.returns-in-Six
returns-in-Six c =
    let a = c.args in
    let h = a.header.now in
    rw (← (coons_lines h.components a.count a.numbers.now h.kind c.in-Six.is c.requires.whole)) (appends_then c.put_head.ensures.appended c.put_patches.ensures)

pub returns-in-Seven : goal.returns-in-Seven
returns-in-Seven c =
    let a = c.args in
    let h = a.header.now in
    rw (← (tensor_lines h.components a.count a.numbers.now h.kind c.in-Seven.is c.requires.whole)) (appends_then c.put_head.ensures.appended c.put_patches-in-Seven.ensures)
