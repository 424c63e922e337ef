-- `rows::any::place_points` meets its contract: the tests say what an input needs, and the part of a list that is lent to it has the same
-- points. Assumes nothing.
use Rattle.std.proofs.Common.{sym, ◌∙◌, length, refl, ◌*◌}
use Rattle.std.specs.Float.{nan}
use borrow.Author.Tests.{leb-true, leb-false}
use Rattle.lists.proofs.Parts.{part_between}
use Rattle.lists.proofs.Placing.{none_placed}
use Rattle.rows.specs.Inner.Any.{fair}
use Rattle.rows.proofs.AnySource.{placed_alike, unfair_points, many_points, points_fit_alike, list_points_missing, list_points_fit, list_points}
use Rattle.rows.proofs.any.place_points.Goals as goal
use Rattle.rows.proofs.any.place_points.Goals.{then-k-gt16-via-then-k-gt16, then-k-gt16-via-else-k-gt16+then-not-has_room}

pub returns-then-not-fair : goal.returns-then-not-fair
returns-then-not-fair c =
    let a = c.args in
    none_placed _ _ _ (sym (unfair_points a.source a.widths a.k a.place.0 a.at (length a.out.now) (sym c.fair.ensures ∙ c.if-not-fair.true))) refl

pub returns-then-k-gt16 : goal.returns-then-k-gt16
returns-then-k-gt16 c =
    let a = c.args in
    let is = rw c.in-List.is at (sym c.fair.ensures ∙ c.if-not-fair.false) in
    let room = length a.out.now in
    rw c.in-List.is (elim c.then-k-gt16.branch [
      | then-k-gt16-via-then-k-gt16 w ↦ none_placed _ _ _ (sym (many_points _ a.widths a.k a.place.0 a.at room w.if-k-gt16.true)) refl
      | then-k-gt16-via-else-k-gt16+then-not-has_room w ↦
          let far = leb-false _ _ (sym w.has_room.ensures ∙ w.if-not-has_room.true) in
          none_placed _ _ _ (sym (list_points_missing c.in-List.values a.widths is a.k a.place.0 a.at room far)) refl
    ])

pub input-input-requires-in-List-clause-fair : goal.input-input-requires-in-List-clause-fair
unfolding fair
input-input-requires-in-List-clause-fair c =
    let is = sym c.fair.ensures ∙ c.if-not-fair.false in
    rw c.in-List.is at is

pub returns-in-Bits : goal.returns-in-Bits
returns-in-Bits c =
    let a = c.args in
    let is = sym c.fair.ensures ∙ c.if-not-fair.false in
    let same = c.input-input.ensures in
    placed_alike c.place_points.ensures (points_fit_alike a.source a.widths a.k a.place.0 a.at (length a.out.now) c.input-input.result is same) (rw (same.source_is, same.coord_is))

pub returns-else-not-has_room : goal.returns-else-not-has_room
returns-else-not-has_room c =
    let a = c.args in
    let is = rw c.in-List.is at (sym c.fair.ensures ∙ c.if-not-fair.false) in
    let there = leb-true _ _ (sym c.has_room.ensures ∙ c.if-not-has_room.false) in
    let lent = part_between nan c.in-List.values.now a.place.0 (2 * a.k) there in
    let same = c.input-input-in-List.ensures in
    rw c.in-List.is
    (placed_alike c.place_points-in-List.ensures
    (list_points_fit c.in-List.values a.widths is a.k a.place.0 a.at (length a.out.now) _ _ same there lent)
    (list_points c.in-List.values a.widths is a.k a.place.0 a.at (length a.out.now) _ _ same there lent _))
