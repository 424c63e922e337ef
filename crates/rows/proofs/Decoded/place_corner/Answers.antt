-- `rows::Decoded::place_corner` meets its contract: the vertex is read beside its row, and written with the rows that come with it; or nothing is done.
-- Assumes nothing.
use Rattle.std.proofs.Common.{arith, sym, ◌∙◌, length, ◌+◌}
use Rattle.lists.proofs.Placing.{written_placed}
use Rattle.rows.specs.Inner.Placing.{numbers_in}
use Rattle.rows.proofs.Fits.{corner_there}
use Rattle.rows.proofs.Corners.{row_after, corner_read}
use Rattle.rows.proofs.Decoded.place_corner.Goals as goal

pub row_index-requires-clause-small : goal.row_index-requires-clause-small
row_index-requires-clause-small c =
    let a = c.args in
    let f = corner_there a.self.input.now a.place.0 a.side a.at (length a.out.now) (sym c.corner_fits.ensures ∙ c.if-not-corner_fits.false) in
    omega (arith, f.0, row_after a.side (10 + a.self.input.now.layout.n) a.at)

pub vertex-vertex-requires-clause-there : goal.vertex-vertex-requires-clause-there
vertex-vertex-requires-clause-there c =
    let a = c.args in
    (corner_there a.self.input.now a.place.0 a.side a.at (length a.out.now) (sym c.corner_fits.ensures ∙ c.if-not-corner_fits.false)).2

pub vertex-vertex-requires-clause-room : goal.vertex-vertex-requires-clause-room
vertex-vertex-requires-clause-room c =
    let a = c.args in
    let f = corner_there a.self.input.now a.place.0 a.side a.at (length a.out.now) (sym c.corner_fits.ensures ∙ c.if-not-corner_fits.false) in
    rw c.row_index.ensures f.0

pub write_corner-requires-clause-room : goal.write_corner-requires-clause-room
write_corner-requires-clause-room c =
    let a = c.args in
    let f = corner_there a.self.input.now a.place.0 a.side a.at (length a.out.now) (sym c.corner_fits.ensures ∙ c.if-not-corner_fits.false) in
    omega (arith, f.0)

pub write_corner-requires-clause-before : goal.write_corner-requires-clause-before
write_corner-requires-clause-before c =
    let a = c.args in
    (corner_there a.self.input.now a.place.0 a.side a.at (length a.out.now) (sym c.corner_fits.ensures ∙ c.if-not-corner_fits.false)).1

pub returns : goal.returns
returns c =
    let a = c.args in
    let f = corner_there a.self.input.now a.place.0 a.side a.at (length a.out.now) (sym c.corner_fits.ensures ∙ c.if-not-corner_fits.false) in
    let l = a.self.input.now.layout in
    let v = c.vertex-vertex.ensures in
    let w = c.write_corner.ensures in
    let beside = rw c.row_index.ensures at v.written in
    written_placed
    (corner_read (numbers_in a.self) l.coord l.comp l.n a.place.0 a.side v.value v.written c.row_index.ensures f.1 w.value w.written)
    c.corner_fits.ensures c.if-not-corner_fits.false
