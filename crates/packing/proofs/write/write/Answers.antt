-- `packing::write::write` meets its contract: the refusals in their order, and then `pack`.
-- Assumes nothing.
use Rattle.std.proofs.Common.{lt-ltb, le-ltb}
use Rattle.std.proofs.lemmas.Result.{err_from_is_err_and}
use Rattle.answers.proofs.Outcomes.{was_refused}
use Rattle.records.specs.Inner.Walk.{tested}
use Rattle.records.proofs.Walks.{refused_by, gone_on, same_format}
use Rattle.packing.specs.Writer.{raw_write}
use Rattle.packing.proofs.write.write.Goals as goal

pub returns-in_err-mesh : goal.returns-in_err-mesh
unfolding raw_write tested
returns-in_err-mesh c =
    let a = c.args in
    let p = err_from_is_err_and c.from_residual.result c.from_residual.ensures.1 in
    rw (p.1, p.2, refused_by a.first a.coord a.comp a.n c.in_err-mesh.ensures _) was_refused

pub returns-then-numbers-gt-MOST_NUMBERS : goal.returns-then-numbers-gt-MOST_NUMBERS
unfolding raw_write tested
returns-then-numbers-gt-MOST_NUMBERS c =
    let a = c.args in
    let m = c.in_ok-mesh.ensures in
    rw (gone_on a.first a.coord a.comp a.n m.readable m.few _, lt-ltb _ _ c.if-numbers-gt-MOST_NUMBERS.true) was_refused

pub returns-then-is_thin : goal.returns-then-is_thin
unfolding raw_write tested
returns-then-is_thin c =
    let a = c.args in
    let m = c.in_ok-mesh.ensures in
    let thin = rw (m.kind_is, m.first_is, m.coord_is, m.comp_is, m.n_is) at c.is_thin.ensures in
    rw (gone_on a.first a.coord a.comp a.n m.readable m.few _, le-ltb _ _ c.if-numbers-gt-MOST_NUMBERS.false, ← thin, c.if-is_thin.true) was_refused

pub returns : goal.returns
unfolding raw_write tested
returns c =
    let a = c.args in
    let m = c.in_ok-mesh.ensures in
    let thin = rw (m.kind_is, m.first_is, m.coord_is, m.comp_is, m.n_is) at c.is_thin.ensures in
    rw (gone_on a.first a.coord a.comp a.n m.readable m.few _, le-ltb _ _ c.if-numbers-gt-MOST_NUMBERS.false, ← thin, c.if-is_thin.false)
    (rw (same_format m) at c.pack.ensures)
