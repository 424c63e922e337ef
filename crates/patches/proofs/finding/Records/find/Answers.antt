-- `find` meets its contract: each test that it makes is one that the definition makes. Assumes nothing.
use mathlib.Core.Path.{sym, ◌∙◌}
use native.Mathlib.Omega.{arith}
use Rattle.patches.proofs.EachForm.{form_follows, form_ends}
use Rattle.patches.proofs.Found.{flag_read, found_nothing, found_over, found_cut, found_record}
use Rattle.patches.proofs.finding.Records.find.Goals as goal

pub returns-then-self-place : goal.returns-then-self-place
returns-then-self-place c = found_nothing c.args.self.now c.args.started c.args.place.0 (omega arith)

pub returns-in_err-shape : goal.returns-in_err-shape
returns-in_err-shape c =
    let m = c.args.self.now in
    let f = flag_read m c.args.place.0 (omega arith) c.flag_at-number.ensures in
    let none = form_ends m.form c.args.started _ (sym c.in_err-shape.was ∙ (rw c.kind.ensures at c.shape.ensures)) in
    c.from_residual.ensures ∙ found_over m c.args.started c.args.place.0 _ f none

pub returns-then-next-self : goal.returns-then-next-self
returns-then-next-self c =
    let m = c.args.self.now in
    let f = flag_read m c.args.place.0 (omega arith) c.flag_at-number.ensures in
    let w = form_follows m.form c.args.started _ c.in_ok-shape.shape (sym c.in_ok-shape.was ∙ (rw c.kind.ensures at c.shape.ensures)) in
    found_cut m c.args.started c.args.place.0 _ f w c.if-next-self.true

pub returns : goal.returns
returns c =
    let m = c.args.self.now in
    let f = flag_read m c.args.place.0 (omega arith) c.flag_at-number.ensures in
    let w = form_follows m.form c.args.started _ c.in_ok-shape.shape (sym c.in_ok-shape.was ∙ (rw c.kind.ensures at c.shape.ensures)) in
    found_record m c.args.started c.args.place.0 _ f w c.if-next-self.false
