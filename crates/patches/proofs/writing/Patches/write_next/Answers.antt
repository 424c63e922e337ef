-- `write_next` meets its contract: four parts, each right after the one before; the patch before stays as it was. Assumes nothing.
use Prim.Native.Nat.{◌+◌, ◌-◌, ◌*◌}
use native.Mathlib.Omega.{arith}
use Rattle.lists.proofs.Writing.{written_then}
use Rattle.rows.specs.Inner.Sources.{held_ranges}
use Rattle.patches.specs.Inner.Forms.{own_of, table_of}
use Rattle.patches.specs.Inner.Records.{side_points, side_colours, patch_size}
use Rattle.patches.proofs.EachForm.{own_few, table_fits}
use Rattle.patches.proofs.Found.{joined_size}
use Rattle.patches.proofs.Copying.{side_fits, colours_stay, row_next}
use Rattle.patches.proofs.Placing.{points_placed, colours_placed}
use Rattle.patches.proofs.writing.Patches.write_next.Goals as goal

pub copy_colours-r-requires-clause-room : goal.copy_colours-r-requires-clause-room
copy_colours-r-requires-clause-room c =
    let m = c.args.self.records.now in
    let few = own_few m.form in
    let size = joined_size m c.args.flag c.requires.joined in
    let ps = points_placed m _ _ _ c.place_points-q.ensures (omega arith) (rw c.own_points-own.ensures (omega arith)) (omega arith) in
    omega (arith, ps.0)

pub returns : goal.returns
unfolding side_points side_colours
returns c =
    let a = c.args in
    let m = a.self.records.now in
    let n = m.input.layout.n in
    let few = own_few m.form in
    let e = c.own_points-own.ensures in
    let size = joined_size m a.flag c.requires.joined in
    let fits = side_fits (4 + own_of m.form) (table_of m.form) (a.flag - 1) _ (table_fits m.form) c.side-side.ensures in
    let ps = points_placed m _ _ _ c.place_points-q.ensures (omega arith) (rw e (omega arith)) (omega arith) in
    let cs = colours_placed m _ 2 _ c.place_colours.ensures (omega arith) (rw e (omega arith)) (omega (arith, ps.0)) in
    let w = written_then c.copy_points-p.ensures.written ps.1 in
    let first = a.at - c.patch_size.result + (4 + c.own_points-own.result) * 2 in
    let stay = colours_stay n first c.side-side.result.now.colours fits.2 w (omega arith) in
    let all = written_then w (written_then (rw stay at c.copy_colours-r.ensures.written) cs.1) in
    let next = row_next m (held_ranges a.self.ranges.now) a.out.now (a.at - patch_size m) a.place.0 a.flag _ c.requires.joined c.side-side.ensures in
    rw next at (rw (c.patch_size.ensures, e) at all)
