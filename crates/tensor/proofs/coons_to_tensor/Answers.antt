-- `tensor::coons_to_tensor` meets its contract. Assumes nothing.
use mathlib.Core.Path.{sym}
use Prim.Native.Nat.{◌+◌}
use native.Mathlib.Omega.{arith}
use Rattle.tensor.specs.Turning.{rounded}
use Rattle.tensor.specs.Outcomes.{coons_size, coons_to_tensor}
use Rattle.tensor.proofs.FloatRows.{length_read, read_numbered}
use Rattle.tensor.proofs.Answers.{some_left, none_left, many_components, many_numbers, not_whole, small_output, wrote_all}
use Rattle.tensor.proofs.coons_to_tensor.Goals as goal

pub returns-then-n-gt-MOST_COMPONENTS : goal.returns-then-n-gt-MOST_COMPONENTS
unfolding coons_to_tensor
returns-then-n-gt-MOST_COMPONENTS c = many_components rounded _ _ _ _ _ (omega arith)

pub returns-then-values-gt-MOST_NUMBERS : goal.returns-then-values-gt-MOST_NUMBERS
unfolding coons_to_tensor
returns-then-values-gt-MOST_NUMBERS c = many_numbers rounded _ _ _ _ _ (omega arith) (omega arith)

pub returns-then-values-size-gt0 : goal.returns-then-values-size-gt0
unfolding coons_to_tensor
returns-then-values-size-gt0 c = not_whole rounded _ _ _ _ _ (omega arith) (omega arith) (some_left _ c.if-values-size-gt0.true)

pub returns-then-out-needed : goal.returns-then-out-needed
unfolding coons_to_tensor
returns-then-out-needed c =
    let a = c.args in
    small_output rounded _ _ _ _ _ (omega arith) (omega arith) (none_left _ c.if-values-size-gt0.false) (8 + a.n) (coons_size a.n + 8)
    (omega arith) (read_numbered a.n a.values.now) (sym (length_read a.n a.values.now)) c.if-out-needed.true

pub returns : goal.returns
unfolding coons_to_tensor
returns c =
    let a = c.args in
    wrote_all rounded _ _ _ _ _ (omega arith) (omega arith) (none_left _ c.if-values-size-gt0.false) (8 + a.n) (coons_size a.n + 8)
    (omega arith) (read_numbered a.n a.values.now) (sym (length_read a.n a.values.now)) (omega arith) c.write_patches.ensures
