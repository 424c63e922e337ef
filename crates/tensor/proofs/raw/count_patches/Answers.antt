-- `tensor::raw::count_patches` meets its contract. Assumes nothing.
use Prim.Native.Nat.{ℕ, suc, ◌+◌, ◌*◌, ◌<◌, ◌≤◌}
use mathlib.Core.Path.{◌≡◌, refl, sym, ap, ◌∙◌}
use mathlib.Core.List.{List, [], ◌∷◌, ◌++◌}
use mathlib.Core.Option.{none, some}
use native.Mathlib.Omega.{arith}
use lib.Dec.{ltb}
use lib.ListN.{length, drop, length-append, length-drop}
use lib.Seq.{drop-drop, drop-cons}
use Rattle.tensor.proofs.Walk.{size_of, walk_start, walk_end, walk_ends, walk_cut, walk_more, walk_makes, count_broken, count_all}
use Rattle.tensor.proofs.Rows.{nothing_left}
use Rattle.tensor.proofs.raw.count_patches.Goals as goal

pub loop-i-init : goal.loop-i-init
loop-i-init c = (omega arith, omega arith, (none, ([], (walk_start _ _, refl))))

pub returns-in_err-coords-clause-value : goal.returns-in_err-coords-clause-value
returns-in_err-coords-clause-value c =
    let w = c.loop-i.invariant.2.1.1.0 in
    let started = ap (ltb 0) (sym c.loop-i.invariant.2.1.1.1) ∙ w.begun in
    let e = drop-cons c.args.numbers.now c.loop-i.i 0 c.loop-i-test.true in
    rw c.from_residual.ensures (count_broken _ _ (walk_ends w e (rw (← started) (sym c.shape.ensures ∙ c.in_err-coords.was))))

pub returns-then-numbers-next-clause-value : goal.returns-then-numbers-next-clause-value
returns-then-numbers-next-clause-value c =
    let w = c.loop-i.invariant.2.1.1.0 in
    let started = ap (ltb 0) (sym c.loop-i.invariant.2.1.1.1) ∙ w.begun in
    let e = drop-cons c.args.numbers.now c.loop-i.i 0 c.loop-i-test.true in
    let shaped = rw started at (sym c.shape.ensures ∙ c.in_ok-coords.was) in
    let cut : length (drop (suc c.loop-i.i) c.args.numbers.now) < size_of c.args.n c.in_ok-coords.field-0 =
    rw length-drop (omega (arith, c.if-numbers-next.true)) in
    count_broken _ _ (walk_cut w e _ shaped cut)

pub loop-i-preserved : goal.loop-i-preserved
loop-i-preserved c =
    let w = c.loop-i.invariant.2.1.1.0 in
    let i : ℕ = c.loop-i.i in
    let f = c.in_ok-coords.field-0 in
    let size : ℕ = size_of c.args.n f in
    let next : ℕ = i + 1 + f.coords + f.colours * c.args.n in
    let xs : List ℕ = c.args.numbers.now in
    let started = ap (ltb 0) (sym c.loop-i.invariant.2.1.1.1) ∙ w.begun in
    let e = drop-cons xs i 0 c.loop-i-test.true in
    let shaped = rw started at (sym c.shape.ensures ∙ c.in_ok-coords.was) in
    let p = walk_makes w e _ shaped in
    let there : size ≤ length (drop (suc i) xs) = rw length-drop (omega (arith, c.if-numbers-next.false)) in
    let same : next ≡ suc i + size = omega arith in
    let rest : drop next xs ≡ drop size (drop (suc i) xs) = ap (λ (k : ℕ). drop k xs) same ∙ sym (drop-drop size (suc i) xs) in
    let done = c.loop-i.invariant.2.1.0 in (
      omega (arith, c.if-numbers-next.false),
      omega arith,
      (some p.0, (done ++ (p.0 ∷ []), (rw rest (walk_more w e _ shaped there p.0 p.1), rw length-append (omega (arith, c.loop-i.invariant.2.1.1.1))))),
    )

pub returns-clause-value : goal.returns-clause-value
returns-clause-value c =
    let l = c.loop-i in
    count_all _ _ l.invariant.2.1.0 l.count
    (walk_end l.invariant.2.1.1.0 (nothing_left _ (rw length-drop (omega (arith, c.loop-i-test.false))))) l.invariant.2.1.1.1
