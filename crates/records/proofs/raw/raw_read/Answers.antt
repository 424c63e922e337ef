-- `records::raw::raw_read` meets its contract: the refusals in their order, then the reading, counted before it is written. Assumes nothing.
use Rattle.std.proofs.Common.{sym, arith, lt-ltb, le-ltb}
use Rattle.std.proofs.lemmas.Result.{err_from_is_err_and}
use Rattle.answers.proofs.Outcomes.{was_refused, no_room, all_written}
use Rattle.records.specs.Raw.{raw_read}
use Rattle.records.specs.Inner.Walk.{tested}
use Rattle.records.proofs.Walks.{refused_by, gone_on, same_format}
use Rattle.records.proofs.raw.raw_read.Goals as goal

pub returns-in_err-mesh : goal.returns-in_err-mesh
unfolding raw_read tested
returns-in_err-mesh c =
    let a = c.args in
    let p = err_from_is_err_and c.from_residual.result c.from_residual.ensures.1 in
    rw (p.1, p.2, refused_by a.first a.coord a.comp a.n c.in_err-mesh.ensures _) was_refused

pub returns-then-data-gt-MOST_BYTES : goal.returns-then-data-gt-MOST_BYTES
unfolding raw_read tested
returns-then-data-gt-MOST_BYTES c =
    let a = c.args in
    let m = c.in_ok-mesh.ensures in
    rw (gone_on a.first a.coord a.comp a.n m.readable m.few _, lt-ltb _ _ c.if-data-gt-MOST_BYTES.true) was_refused

pub returns-then-out-count : goal.returns-then-out-count
unfolding raw_read tested
returns-then-out-count c =
    let a = c.args in
    let m = c.in_ok-mesh.ensures in
    rw (gone_on a.first a.coord a.comp a.n m.readable m.few _, le-ltb _ _ c.if-data-gt-MOST_BYTES.false)
    (no_room _ _ (sym (rw (same_format m) at c.count_numbers-count.ensures)) c.if-out-count.true)

pub returns : goal.returns
unfolding raw_read tested
returns c =
    let a = c.args in
    let m = c.in_ok-mesh.ensures in
    let w = rw (same_format m) at c.write_numbers.ensures in
    rw (gone_on a.first a.coord a.comp a.n m.readable m.few _, le-ltb _ _ c.if-data-gt-MOST_BYTES.false) (all_written (omega (arith, w.after)) w)

pub write_numbers-requires : goal.write_numbers-requires
write_numbers-requires c = record { is = c.count_numbers-count.ensures; room = c.if-out-count.false }
