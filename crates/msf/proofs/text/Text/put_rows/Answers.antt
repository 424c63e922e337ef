-- `msf::text::Text::put_rows` meets its contract: a line for each row so far. Assumes nothing.
use native.Mathlib.Omega.{arith}
use native.Mathlib.Numerals.{add-one}
use native.Mathlib.Nat.{suc-mul}
use lib.ListN.{length, length-append}
use lib.Ieee.{nan}
use Rattle.msf.specs.Listing.{row_line}
use Rattle.msf.proofs.Chunks.{chunked_none, chunked_more, chunked_all, piece}
use Rattle.msf.proofs.Meshes.{lines_none, lines_more}
use Rattle.msf.proofs.text.Text.put_rows.Goals as goal

pub loop-row-init : goal.loop-row-init
loop-row-init c =
    let a = c.args in
    let items = c.chunks_exact-row-items.ensures in
    let same = c.into_iter-row-iterator.ensures.into_iter_gives in
    record {
      can_next = rw (same, items.size) (omega arith);
      is_finite = tt;
      chunked = rw same (chunked_none _ items.rest items.size);
      appended = lines_none (row_line a.coords) a.size a.rows.now a.self.now (omega arith);
      at_most = omega arith;
    }

pub loop-row-preserved : goal.loop-row-preserved
loop-row-preserved c =
    let l = c.loop-row in
    let w = l.invariant.chunked in
    record {
      can_next = rw c.in-Some.ensures.steps.0 l.invariant.can_next;
      is_finite = tt;
      chunked = rw length-append (chunked_more w c.next.new.self c.in-Some.row c.in-Some.ensures.steps);
      appended = rw length-append (lines_more (row_line c.args.coords) c.args.size c.args.rows.now (length l.yielded) (piece w c.next.new.self c.in-Some.row c.in-Some.ensures.steps nan) l.invariant.appended c.put_row.ensures.appended);
      at_most = rw (length-append, add-one, suc-mul) (omega (arith, w.each, c.in-Some.ensures.steps.1.1));
    }

pub returns-clause-appended : goal.returns-clause-appended
returns-clause-appended c =
    let l = c.loop-row in
    rw (chunked_all l.invariant.chunked c.next.new.self (omega arith) c.in-None.ensures.steps) at l.invariant.appended
