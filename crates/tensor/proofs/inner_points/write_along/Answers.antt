-- `tensor::inner_points::write_along` meets its contract. Assumes nothing.
use Prim.Native.Nat.{◌+◌}
use native.Mathlib.Omega.{arith}
use Rattle.tensor.proofs.Placing.{number_at, stored_along}
use Rattle.tensor.proofs.inner_points.write_along.Goals as goal

pub returns : goal.returns
returns g c =
    let a = c.args in
    let T = g.C.Coordinate.turning in
    let p00 = number_at a.border.now a.axis T.missing (omega arith) c.index-border-axis.is in
    let p01 = number_at a.border.now (a.axis + 2) T.missing (omega arith) c.index-border-axis-2.is in
    let p02 = number_at a.border.now (a.axis + 4) T.missing (omega arith) c.index-border-axis-3.is in
    let p03 = number_at a.border.now (a.axis + 6) T.missing (omega arith) c.index-border-axis-4.is in
    let p13 = number_at a.border.now (a.axis + 8) T.missing (omega arith) c.index-border-axis-5.is in
    let p23 = number_at a.border.now (a.axis + 10) T.missing (omega arith) c.index-border-axis-6.is in
    let p33 = number_at a.border.now (a.axis + 12) T.missing (omega arith) c.index-border-axis-7.is in
    let p32 = number_at a.border.now (a.axis + 14) T.missing (omega arith) c.index-border-axis-8.is in
    let p31 = number_at a.border.now (a.axis + 16) T.missing (omega arith) c.index-border-axis-9.is in
    let p30 = number_at a.border.now (a.axis + 18) T.missing (omega arith) c.index-border-axis-10.is in
    let p20 = number_at a.border.now (a.axis + 20) T.missing (omega arith) c.index-border-axis-11.is in
    let p10 = number_at a.border.now (a.axis + 22) T.missing (omega arith) c.index-border-axis-12.is in
    stored_along T a.border.now a.axis c.requires.x_or_y a.out.now a.axis (cc c.inner.ensures) (cc c.inner-2.ensures) (cc c.inner-3.ensures) (cc c.inner-4.ensures)
