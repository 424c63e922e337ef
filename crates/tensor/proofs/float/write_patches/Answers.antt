-- `tensor::float::write_patches` meets its contract. Assumes nothing.
use Prim.Native.Nat.{◌+◌}
use mathlib.Core.Path.{refl, ◌∙◌}
use native.Mathlib.Omega.{arith}
use Rattle.lists.proofs.Writing.{written_length}
use Rattle.tensor.specs.Outcomes.{coons_size}
use Rattle.tensor.proofs.Rows.{row_written}
use Rattle.tensor.proofs.FloatRows.{pass_start, pass_room, pass_next, pass_end}
use Rattle.tensor.proofs.float.write_patches.Goals as goal

pub loop-patch-init : goal.loop-patch-init
loop-patch-init c =
    let made = c.chunks_exact-patch-items.ensures in
    let same = c.into_iter-patch-iterator.ensures.into_iter_gives in
    rw same
    record {
      can_next = omega (arith, made.size);
      is_finite = tt;
      row_is = refl;
      chunk_is = made.size;
      long = refl;
      pass = rw made.rest (pass_start _ _ _);
    }

pub loop-patch-preserved : goal.loop-patch-preserved
loop-patch-preserved c =
    let l = c.loop-patch.invariant in
    let s = c.in-Some.ensures.steps in
    let long = s.1.1 ∙ l.chunk_is in
    let room = pass_room l.pass _ _ s.1.0 long c.requires.room in
    let w = row_written c.loop-patch.out c.loop-patch.at (c.loop-patch.at + (coons_size c.args.n + 8)) (c.write_patch.ensures c.args.n long)
    (omega arith) (omega arith) (omega (arith, room, l.long)) in
    record {
      can_next = omega (arith, s.0, l.chunk_is);
      is_finite = tt;
      row_is = refl;
      chunk_is = s.0 ∙ l.chunk_is;
      long = written_length w ∙ l.long;
      pass = pass_next l.pass _ _ s.1.0 long refl w;
    }

pub returns : goal.returns
returns c =
    let l = c.loop-patch.invariant in
    let s = c.in-None.ensures.steps in
    (pass_end l.pass (omega (arith, s.1.0, l.chunk_is)) c.requires.whole).held
