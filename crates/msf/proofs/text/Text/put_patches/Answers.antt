-- `msf::text::Text::put_patches` meets its contract: the lines of each patch so far. Assumes nothing.
use native.Mathlib.Omega.{arith}
use native.Mathlib.Numerals.{add-one}
use native.Mathlib.Nat.{suc-mul}
use lib.ListN.{length, length-append}
use lib.Ieee.{nan}
use Rattle.msf.proofs.Chunks.{chunked_none, chunked_more, chunked_all, piece}
use Rattle.msf.proofs.Meshes.{patches_none, patches_more}
use Rattle.msf.proofs.text.Text.put_patches.Goals as goal

pub loop-patch-init : goal.loop-patch-init
loop-patch-init c =
    let a = c.args in
    let items = c.chunks_exact-patch-items.ensures in
    let same = c.into_iter-patch-iterator.ensures.into_iter_gives in
    record {
      can_next = rw (same, items.size) (omega arith);
      is_finite = tt;
      chunked = rw same (chunked_none _ items.rest items.size);
      appended = patches_none a.points a.n a.patches.now a.self.now (omega arith);
      at_most = omega arith;
    }

pub loop-patch-preserved : goal.loop-patch-preserved
loop-patch-preserved c =
    let l = c.loop-patch in
    let w = l.invariant.chunked in
    record {
      can_next = rw c.in-Some.ensures.steps.0 l.invariant.can_next;
      is_finite = tt;
      chunked = rw length-append (chunked_more w c.next.new.self c.in-Some.patch c.in-Some.ensures.steps);
      appended = rw length-append (patches_more c.args.points c.args.n c.args.patches.now (length l.yielded) (piece w c.next.new.self c.in-Some.patch c.in-Some.ensures.steps nan) l.invariant.appended c.put_patch.ensures.appended);
      at_most = rw (length-append, add-one, suc-mul) (omega (arith, w.each, c.in-Some.ensures.steps.1.1));
    }

pub returns : goal.returns
returns c =
    let l = c.loop-patch in
    rw (chunked_all l.invariant.chunked c.next.new.self (omega arith) c.in-None.ensures.steps) at l.invariant.appended
