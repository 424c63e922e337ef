-- `msf::header::Header::read` meets its contract: each test is one of the definition's. Assumes nothing.
use mathlib.Core.Path.{refl, ap, sym, ◌∙◌}
use native.Mathlib.Omega.{arith}
use lib.ListN.{length-drop}
use lib.Seq.{drop-drop}
use Rattle.std.proofs.lemmas.List.{take_rest}
use Rattle.std.specs.Prelude.{Option, Some, None, IfNone}
use Rattle.std.specs.Result.{result_ok}
use Rattle.decode.proofs.BigEndian.{part_there}
use Rattle.msf.proofs.Headers.{kind_read}
use Rattle.msf.proofs.WellFormed.{ill_formed, other_type, passed}
use Rattle.msf.proofs.header.Header.read.Goals.{then-big_endian-ne5067590-via-then-big_endian-ne5067590, then-big_endian-ne5067590-via-else-big_endian-ne5067590+then-big_endian-ne1}
use Rattle.msf.proofs.header.Header.read.Goals as goal

-- what holds anyway holds of None
if_none : {A P : Type 0} (o : Option A) → P → IfNone o P
if_none (Some x) p = tt
if_none None p = p

pub returns-then-file-gt65536-clause-refused : goal.returns-then-file-gt65536-clause-refused
returns-then-file-gt65536-clause-refused c = ill_formed c.args.file.now (λ t. omega (arith, t.short))

pub returns-in_default-clause-refused : goal.returns-in_default-clause-refused
returns-in_default-clause-refused c = ill_formed c.args.file.now (λ t. omega (arith, t.enough))

pub returns-then-big_endian-ne5067590-clause-refused : goal.returns-then-big_endian-ne5067590-clause-refused
returns-then-big_endian-ne5067590-clause-refused c =
    let s = c.args.file.now in
    elim c.then-big_endian-ne5067590.branch [
      | then-big_endian-ne5067590-via-then-big_endian-ne5067590 w ↦ ill_formed s (λ t. w.if-big_endian-ne5067590.true (c.big_endian.ensures.value ∙ part_there s 0 3 0 3 refl refl (omega arith) (omega arith) ∙ t.marked))
      | then-big_endian-ne5067590-via-else-big_endian-ne5067590+then-big_endian-ne1 w ↦ ill_formed s (λ t. w.if-big_endian-ne1.true (w.big_endian-else-big_endian-ne5067590.ensures.value ∙ part_there s 3 5 3 2 refl refl (omega arith) (omega arith) ∙ t.first))
    ]

pub returns-in_err-kind-clause-refused : goal.returns-in_err-kind-clause-refused
returns-in_err-kind-clause-refused c =
    if_none _ (other_type c.args.file.now (rw (← c.from.ensures) (kind_read _ ∙ ap result_ok (sym c.try_from.ensures) ∙ sym c.ok.ensures.value ∙ c.in_err-kind.was)))

pub returns-in_err-entries-clause-refused : goal.returns-in_err-entries-clause-refused
returns-in_err-entries-clause-refused c =
    let s = c.args.file.now in
    let h = rw (take_rest, length-drop) at c.in_err-entries.ensures.cases in
    if_none _ (ill_formed s (λ t. omega (arith, h, c.from-2.ensures, t.there, t.enough)))

pub returns-clause-found : goal.returns-clause-found
returns-clause-found c =
    let s = c.args.file.now in
    let h = c.in_ok-entries.ensures.cases in
    let count = c.from-2.ensures in
    let room = rw (take_rest, length-drop) at h.0 in
    record {
      is_file = passed s (record {
        short = omega arith;
        enough = omega arith;
        marked = sym (part_there s 0 3 0 3 refl refl (omega arith) (omega arith)) ∙ sym c.big_endian.ensures.value ∙ c.if-big_endian-ne5067590.false;
        first = sym (part_there s 3 5 3 2 refl refl (omega arith) (omega arith)) ∙ sym c.big_endian-else-big_endian-ne5067590.ensures.value ∙ c.if-big_endian-ne1.false;
        there = omega (arith, room, count);
      });
      its_kind = rw (← c.from.ensures) (kind_read _ ∙ ap result_ok (sym c.try_from.ensures) ∙ sym c.ok.ensures.value ∙ c.in_ok-kind.was);
      its_coord = c.from-3.ensures;
      its_comp = c.from-4.ensures;
      its_flag = c.from-5.ensures;
      its_components = c.from-6.ensures;
      its_row = c.big_endian-2.ensures.value ∙ part_there s 10 12 10 2 refl refl (omega arith) (omega arith);
      its_entries = rw (take_rest, count) at h.1;
      its_data = rw (take_rest, count, drop-drop) at h.2;
    }
