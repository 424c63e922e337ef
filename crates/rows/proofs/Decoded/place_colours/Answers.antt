-- `rows::Decoded::place_colours` meets its contract: the test says what the work needs, or nothing is done. Assumes nothing.
use Rattle.std.proofs.Common.{sym, ◌∙◌, length}
use Rattle.rows.proofs.Fits.{colours_fit_iff}
use Rattle.rows.proofs.Decoded.place_colours.Goals as goal

pub write_colours-requires-clause-there : goal.write_colours-requires-clause-there
write_colours-requires-clause-there c =
    let a = c.args in
    ((colours_fit_iff a.self.input.now a.k a.place.0 a.at (length a.out.now)).0 (sym c.colours_fit.ensures ∙ c.if-not-colours_fit.false)).1.0

pub write_colours-requires-clause-room : goal.write_colours-requires-clause-room
write_colours-requires-clause-room c =
    let a = c.args in
    ((colours_fit_iff a.self.input.now a.k a.place.0 a.at (length a.out.now)).0 (sym c.colours_fit.ensures ∙ c.if-not-colours_fit.false)).1.1
