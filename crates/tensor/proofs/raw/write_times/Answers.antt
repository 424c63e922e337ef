-- `tensor::raw::write_times` meets its contract: after k turns the first k numbers stand. Assumes nothing.
use Prim.Native.Nat.{ℕ, ◌*◌}
use mathlib.Core.Path.{◌≡◌, ◌∙◌}
use native.Mathlib.Omega.{arith}
use lib.IntN.{pos}
use lib.ListN.{length, get_or}
use mir.Syntax.{w64}
use mir.Facts.{to_z_pos}
use Rattle.lists.proofs.Writing.{written_start, written_store}
use Rattle.lists.proofs.Parts.{written_whole}
use Rattle.tensor.proofs.RawRows.{times_small, mapped_all}
use Rattle.tensor.proofs.raw.write_times.Goals as goal

pub loop-k-init : goal.loop-k-init
loop-k-init c = written_start _ 0 _ (omega arith)

pub loop-k-preserved : goal.loop-k-preserved
loop-k-preserved c =
    let l = c.loop-k in
    let a = c.args in
    let x = get_or a.numbers.now l.k 0 in
    let small = times_small a.factor x c.requires.small (omega (arith, c.type_inv.numbers l.k)) in
    written_store l.k (λ (j : ℕ). pos (a.factor * get_or a.numbers.now j 0)) l.invariant (omega arith) (to_z_pos w64 small)

pub returns : goal.returns
returns c =
    let a = c.args in
    let e : c.loop-k.k ≡ length a.numbers.now = omega arith in
    written_whole (rw e at c.loop-k.invariant) c.requires.as_many ∙ mapped_all (λ (x : ℕ). pos (a.factor * x)) 0 a.numbers.now
