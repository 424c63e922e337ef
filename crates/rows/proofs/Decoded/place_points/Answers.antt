-- `rows::Decoded::place_points` meets its contract: the test says what the work needs, or nothing is done. Assumes nothing.
use Rattle.std.proofs.Common.{sym, ◌∙◌, length}
use Rattle.rows.proofs.Fits.{points_fit_iff}
use Rattle.rows.proofs.Decoded.place_points.Goals as goal

pub write_points-requires-clause-there : goal.write_points-requires-clause-there
write_points-requires-clause-there c =
    let a = c.args in
    ((points_fit_iff a.self.input.now a.k a.place.0 a.at (length a.out.now)).0 (sym c.points_fit.ensures ∙ c.if-not-points_fit.false)).1.0

pub write_points-requires-clause-room : goal.write_points-requires-clause-room
write_points-requires-clause-room c =
    let a = c.args in
    ((points_fit_iff a.self.input.now a.k a.place.0 a.at (length a.out.now)).0 (sym c.points_fit.ensures ∙ c.if-not-points_fit.false)).1.1
