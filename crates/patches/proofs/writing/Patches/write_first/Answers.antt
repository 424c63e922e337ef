-- `write_first` meets its contract: the points and the colours are there, so they are placed. Assumes nothing.
use Prim.Native.Nat.{◌-◌}
use native.Mathlib.Omega.{arith}
use Rattle.lists.proofs.Writing.{written_then}
use Rattle.patches.specs.Inner.Records.{size_of, patch_size}
use Rattle.patches.proofs.EachForm.{own_few}
use Rattle.patches.proofs.Placing.{points_placed, colours_placed}
use Rattle.patches.proofs.Copying.{row_first}
use Rattle.patches.proofs.writing.Patches.write_first.Goals as goal

pub returns : goal.returns
unfolding size_of
returns c =
    let a = c.args in
    let m = a.self.records.now in
    let few = own_few m.form in
    let e = c.own_points-count.ensures in
    let ps = points_placed m _ _ _ c.place_points-p.ensures (omega arith) (rw e (omega arith)) (omega arith) in
    let cs = colours_placed m _ 4 _ c.place_colours.ensures (omega arith) (rw e (omega arith)) (omega (arith, ps.0)) in
    rw (e, row_first m _ a.out.now (a.at - patch_size m) a.place.0) at (written_then ps.1 cs.1)
