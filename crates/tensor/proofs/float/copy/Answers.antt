-- `tensor::float::copy` meets its contract: after k turns the first k numbers stand. Assumes nothing.
use Prim.Native.Nat.{ℕ}
use mathlib.Core.Path.{◌≡◌, refl, ◌∙◌}
use mathlib.Core.List.{map-id}
use native.Mathlib.Omega.{arith}
use lib.Ieee.{nan}
use lib.ListN.{length, get_or}
use Rattle.lists.proofs.Writing.{written_start, written_store}
use Rattle.lists.proofs.Parts.{written_whole}
use Rattle.tensor.proofs.RawRows.{mapped_all}
use Rattle.tensor.proofs.float.copy.Goals as goal

pub loop-k-init : goal.loop-k-init
loop-k-init c = written_start _ 0 _ (omega arith)

pub loop-k-preserved : goal.loop-k-preserved
loop-k-preserved c =
    let l = c.loop-k in
    written_store l.k (λ (j : ℕ). get_or c.args.values.now j nan) l.invariant (omega arith) refl

pub returns : goal.returns
returns c =
    let a = c.args in
    let e : c.loop-k.k ≡ length a.values.now = omega arith in
    written_whole (rw e at c.loop-k.invariant) c.requires.as_many ∙ mapped_all (λ x. x) nan a.values.now ∙ map-id a.values.now
