-- `rows::any::place_colours` meets its contract: the tests say what an input needs, and the part of a list that is lent to it has the same
-- colours. Assumes nothing.
use Rattle.std.proofs.Common.{arith, sym, ◌∙◌, length, refl, ◌*◌}
use Rattle.std.specs.Float.{nan}
use borrow.Author.Tests.{leb-true, leb-false}
use Rattle.lists.proofs.Parts.{part_between}
use Rattle.lists.proofs.Placing.{none_placed}
use Rattle.rows.specs.Inner.Any.{fair}
use Rattle.rows.proofs.AnySource.{fair_widths, colours_few, part_near, placed_alike, unfair_colours, many_colours, colours_fit_alike, list_colours_missing, list_colours_fit, list_colours}
use Rattle.rows.proofs.any.place_colours.Goals as goal
use Rattle.rows.proofs.any.place_colours.Goals.{then-k-gt4-via-then-k-gt4, then-k-gt4-via-else-k-gt4+then-not-has_room}

pub returns-then-not-fair : goal.returns-then-not-fair
returns-then-not-fair c =
    let a = c.args in
    none_placed _ _ _ (sym (unfair_colours a.source a.widths a.k a.place.0 a.at (length a.out.now) (sym c.fair.ensures ∙ c.if-not-fair.true))) refl

pub returns-then-k-gt4 : goal.returns-then-k-gt4
returns-then-k-gt4 c =
    let a = c.args in
    let is = rw c.in-List.is at (sym c.fair.ensures ∙ c.if-not-fair.false) in
    let room = length a.out.now in
    rw c.in-List.is (elim c.then-k-gt4.branch [
      | then-k-gt4-via-then-k-gt4 w ↦ none_placed _ _ _ (sym (many_colours _ a.widths a.k a.place.0 a.at room w.if-k-gt4.true)) refl
      | then-k-gt4-via-else-k-gt4+then-not-has_room w ↦
          let far = leb-false _ _ (sym w.has_room.ensures ∙ w.if-not-has_room.true) in
          none_placed _ _ _ (sym (list_colours_missing c.in-List.values a.widths is a.k a.place.0 a.at room far)) refl
    ])

pub input-input-requires-in-List-clause-fair : goal.input-input-requires-in-List-clause-fair
unfolding fair
input-input-requires-in-List-clause-fair c =
    let is = sym c.fair.ensures ∙ c.if-not-fair.false in
    rw c.in-List.is at is

pub returns-in-Bits : goal.returns-in-Bits
returns-in-Bits c =
    let a = c.args in
    let is = sym c.fair.ensures ∙ c.if-not-fair.false in
    let same = c.input-input.ensures in
    placed_alike c.place_colours.ensures (colours_fit_alike a.source a.widths a.k a.place.0 a.at (length a.out.now) c.input-input.result is same) (rw (same.source_is, same.comp_is, same.n_is))

pub returns-else-not-has_room : goal.returns-else-not-has_room
returns-else-not-has_room c =
    let a = c.args in
    let is = rw c.in-List.is at (sym c.fair.ensures ∙ c.if-not-fair.false) in
    let there = leb-true _ _ (sym c.has_room.ensures ∙ c.if-not-has_room.false) in
    let lent = part_between nan c.in-List.values.now a.place.0 (a.k * a.widths.n) there in
    let same = c.input-input-in-List.ensures in
    rw c.in-List.is
    (placed_alike c.place_colours-in-List.ensures
    (list_colours_fit c.in-List.values a.widths is a.k a.place.0 a.at (length a.out.now) _ _ same there lent)
    (list_colours c.in-List.values a.widths is a.k a.place.0 a.at (length a.out.now) _ _ same there lent _))

pub overflow_mul-k : goal.overflow_mul-k
overflow_mul-k c =
    let a = c.args in
    let f = fair_widths a.source a.widths (sym c.fair.ensures ∙ c.if-not-fair.false) in
    let few = colours_few a.k a.widths.n c.if-k-gt4.false f.0 in
    omega arith

pub input-input-requires-in-List-clause-near : goal.input-input-requires-in-List-clause-near
input-input-requires-in-List-clause-near c =
    let a = c.args in
    let f = fair_widths a.source a.widths (sym c.fair.ensures ∙ c.if-not-fair.false) in
    let few = colours_few a.k a.widths.n c.if-k-gt4.false f.0 in
    part_near c.in-List.values.now a.place.0 (a.k * a.widths.n) (leb-true _ _ (sym c.has_room.ensures ∙ c.if-not-has_room.false)) (omega arith)
