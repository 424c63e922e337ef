-- `tensor::raw::U32Coordinate::inner` meets its contract. Assumes nothing.
use Prim.Native.Nat.{◌+◌, ◌*◌, ◌^◌, ◌<◌}
use mathlib.Core.Path.{sym}
use native.Mathlib.Omega.{arith}
use mir.Syntax.{w64}
use mir.Facts.{to_z_pos}
use Rattle.tensor.specs.Formulas.{ninefold}
use Rattle.tensor.proofs.Signed.{told, difference_fits}
use Rattle.tensor.proofs.Differences.{gathered}
use Rattle.tensor.proofs.raw.U32Coordinate.inner.Goals as goal

pub returns : goal.returns
unfolding ninefold
returns c =
    let v = c.args in
    let more : 6 * (v.b + v.c) + 3 * (v.f + v.g) < 2 ^ 63 = omega arith in
    let less : 4 * v.a + 2 * (v.d + v.e) + v.h < 2 ^ 63 = omega arith in
    rw (to_z_pos w64 more, to_z_pos w64 less)
    (told (difference_fits _ _ more less).sfits
    (sym (gathered (4 * v.a) (6 * (v.b + v.c)) (2 * (v.d + v.e)) (3 * (v.f + v.g)) v.h)))
