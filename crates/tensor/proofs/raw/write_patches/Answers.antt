-- `tensor::raw::write_patches` meets its contract. Assumes nothing.
use Prim.Native.Nat.{ℕ, ◌+◌, ◌*◌}
use mathlib.Core.Path.{refl, ap, ◌∙◌}
use native.Mathlib.Omega.{arith}
use lib.ListN.{drop, drop_of_length-le}
use lib.Seq.{drop-drop}
use Rattle.std.proofs.lemmas.List.{take_rest}
use Rattle.lists.proofs.Writing.{written_length}
use Rattle.tensor.proofs.Rows.{row_written}
use Rattle.tensor.proofs.Passing.{pass_start, flag_first, here, joined_to, pass_room, pass_next, pass_end}
use Rattle.tensor.proofs.raw.write_patches.Goals as goal

pub loop-i-init : goal.loop-i-init
loop-i-init c = record { size_is = refl; long = refl; pass = pass_start _ _ _ }

pub take_patch-taken-requires-clause-few_flags : goal.take_patch-taken-requires-clause-few_flags
take_patch-taken-requires-clause-few_flags c = (here c.loop-i.invariant.pass c.requires.whole (flag_first _ _ c.loop-i-test.true)).follows.few

pub take_patch-taken-requires-clause-all_there : goal.take_patch-taken-requires-clause-all_there
take_patch-taken-requires-clause-all_there c = (here c.loop-i.invariant.pass c.requires.whole (flag_first _ _ c.loop-i-test.true)).fits

pub take_patch-taken-requires-clause-joined_to : goal.take_patch-taken-requires-clause-joined_to
take_patch-taken-requires-clause-joined_to c = joined_to c.loop-i.invariant.pass c.requires.whole (flag_first _ _ c.loop-i-test.true)

pub slice_bounds-write_patch-end : goal.slice_bounds-write_patch-end
slice_bounds-write_patch-end c =
    let l = c.loop-i.invariant in
    let room = pass_room l.pass c.requires.whole (flag_first _ _ c.loop-i-test.true) _ c.take_patch-taken.ensures.taken c.requires.room in
    omega (arith, room, l.long)

pub loop-i-preserved : goal.loop-i-preserved
loop-i-preserved c =
    let l = c.loop-i.invariant in
    let t = c.take_patch-taken.ensures in
    let room = pass_room l.pass c.requires.whole (flag_first _ _ c.loop-i-test.true) _ t.taken c.requires.room in
    let w = row_written c.loop-i.out c.loop-i.at (c.loop-i.at + (32 + 4 * c.args.n)) c.write_patch.ensures (omega arith) (omega arith) (omega (arith, room, l.long)) in
    record {
      size_is = refl;
      long = written_length w ∙ l.long;
      pass =
          pass_next l.pass c.requires.whole (flag_first _ _ c.loop-i-test.true) _ t.taken t.sized
          (rw (take_rest, drop-drop) (ap (λ (k : ℕ). drop k c.args.numbers.now) (omega (arith, t.size)))) w;
    }

pub returns : goal.returns
returns c = (pass_end c.loop-i.invariant.pass (drop_of_length-le _ c.loop-i-test.false)).held
