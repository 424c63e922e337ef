-- `msf::text::Text::put_points` meets its contract: a line for each point so far. Assumes nothing.
use native.Mathlib.Omega.{arith}
use native.Mathlib.Numerals.{add-one}
use native.Mathlib.Nat.{suc-mul}
use lib.ListN.{length, length-append}
use lib.Ieee.{nan}
use Rattle.msf.specs.Listing.{point_line}
use Rattle.msf.proofs.Chunks.{chunked_none, chunked_more, chunked_all, piece}
use Rattle.msf.proofs.Meshes.{lines_none, lines_more}
use Rattle.msf.proofs.text.Text.put_points.Goals as goal

pub loop-point-init : goal.loop-point-init
loop-point-init c =
    let a = c.args in
    let items = c.chunks_exact-point-items.ensures in
    let same = c.into_iter-point-iterator.ensures.into_iter_gives in
    record {
      can_next = rw (same, items.size) (omega arith);
      is_finite = tt;
      chunked = rw same (chunked_none _ items.rest items.size);
      appended = lines_none point_line 2 a.points.now a.self.now (omega arith);
      at_most = omega arith;
    }

pub loop-point-preserved : goal.loop-point-preserved
loop-point-preserved c =
    let l = c.loop-point in
    let w = l.invariant.chunked in
    record {
      can_next = rw c.in-Some.ensures.steps.0 l.invariant.can_next;
      is_finite = tt;
      chunked = rw length-append (chunked_more w c.next.new.self c.in-Some.point c.in-Some.ensures.steps);
      appended = rw length-append (lines_more point_line 2 c.args.points.now (length l.yielded) (piece w c.next.new.self c.in-Some.point c.in-Some.ensures.steps nan) l.invariant.appended c.put_point.ensures.appended);
      at_most = rw (length-append, add-one, suc-mul) (omega (arith, w.each, c.in-Some.ensures.steps.1.1));
    }

pub returns-clause-appended : goal.returns-clause-appended
returns-clause-appended c =
    let l = c.loop-point in
    rw (chunked_all l.invariant.chunked c.next.new.self (omega arith) c.in-None.ensures.steps) at l.invariant.appended
