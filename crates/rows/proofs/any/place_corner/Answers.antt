-- `rows::any::place_corner` meets its contract: the tests say what an input needs, and the part of a list that is lent to it has the same
-- vertex. Assumes nothing.
use Rattle.std.proofs.Common.{arith, sym, ap₂, ◌∙◌, length, refl, ℕ, ◌+◌, List, ◌++◌}
use Rattle.std.specs.Float.{nan}
use lib.Ieee.{Float}
use borrow.Author.Tests.{leb-true, leb-false}
use Rattle.lists.proofs.Parts.{part_between}
use Rattle.lists.proofs.Placing.{none_placed}
use Rattle.rows.specs.declared.Source.TheVariants.{List as Listed}
use Rattle.rows.specs.Inner.Placing.{shared_rows}
use Rattle.rows.specs.Inner.Any.{fair, widths_in}
use Rattle.rows.proofs.AnySource.{fair_widths, part_near, placed_alike, unfair_corner, corner_fits_alike, list_corner_missing, list_corner_fits, list_vertex}
use Rattle.rows.proofs.any.place_corner.Goals as goal

pub returns-then-not-fair : goal.returns-then-not-fair
returns-then-not-fair c =
    let a = c.args in
    let not_fair = rw c.widths_in-widths.ensures at (sym c.fair.ensures ∙ c.if-not-fair.true) in
    none_placed _ _ _ (sym (unfair_corner a.source (widths_in a.source a.widths) a.place.0 a.side a.at (length a.out.now) not_fair)) refl

pub overflow_add-size : goal.overflow_add-size
overflow_add-size c =
    let f = fair_widths c.args.source _ (sym c.fair.ensures ∙ c.if-not-fair.false) in
    omega (arith, f.0)

pub returns-then-not-has_room : goal.returns-then-not-has_room
returns-then-not-has_room c =
    let a = c.args in
    let is = rw (c.widths_in-widths.ensures, c.in-List.is) at (sym c.fair.ensures ∙ c.if-not-fair.false) in
    let far = rw c.widths_in-widths.ensures at (leb-false _ _ (sym c.has_room.ensures ∙ c.if-not-has_room.true)) in
    rw c.in-List.is
    (none_placed _ _ _ (sym (list_corner_missing c.in-List.values (widths_in (Listed c.in-List.values) a.widths) is a.place.0 a.side a.at (length a.out.now) far)) refl)

pub input-input-requires-in-List-clause-fair : goal.input-input-requires-in-List-clause-fair
unfolding fair
input-input-requires-in-List-clause-fair c =
    let is = sym c.fair.ensures ∙ c.if-not-fair.false in
    rw c.in-List.is at is

pub input-input-requires-in-List-clause-near : goal.input-input-requires-in-List-clause-near
input-input-requires-in-List-clause-near c =
    let f = fair_widths c.args.source _ (sym c.fair.ensures ∙ c.if-not-fair.false) in
    part_near c.in-List.values.now c.args.place.0 _ (leb-true _ _ (sym c.has_room.ensures ∙ c.if-not-has_room.false)) (omega (arith, f.0))

pub returns-in-Bits : goal.returns-in-Bits
returns-in-Bits c =
    let a = c.args in
    let is = rw c.widths_in-widths.ensures at (sym c.fair.ensures ∙ c.if-not-fair.false) in
    let same = rw c.widths_in-widths.ensures at c.input-input.ensures in
    placed_alike c.place_corner.ensures
    (corner_fits_alike a.source (widths_in a.source a.widths) a.place.0 a.side a.at (length a.out.now) c.input-input.result is same)
    (rw (same.source_is, same.coord_is, same.comp_is, same.n_is))

pub returns-else-not-has_room : goal.returns-else-not-has_room
returns-else-not-has_room c =
    let a = c.args in
    let vs = c.in-List.values in
    let w = widths_in (Listed vs) a.widths in
    let is = rw (c.widths_in-widths.ensures, c.in-List.is) at (sym c.fair.ensures ∙ c.if-not-fair.false) in
    let there = rw c.widths_in-widths.ensures at (leb-true _ _ (sym c.has_room.ensures ∙ c.if-not-has_room.false)) in
    let lent = part_between nan vs.now a.place.0 (2 + a.widths.n) there in
    let same = rw (c.widths_in-widths.ensures, c.in-List.is) at c.input-input-in-List.ensures in
    rw c.in-List.is
    (placed_alike c.place_corner-in-List.ensures
    (list_corner_fits vs w is a.place.0 a.side a.at (length a.out.now) _ _ same there lent)
    (ap₂ (λ (n : ℕ) (v : List Float). shared_rows a.out.now a.side (10 + n) a.at ++ v) (sym same.n_is)
    (list_vertex vs w is a.place.0 a.side a.at (length a.out.now) _ _ same there lent _)))
