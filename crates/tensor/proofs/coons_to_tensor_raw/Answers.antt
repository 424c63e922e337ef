-- `tensor::coons_to_tensor_raw` meets its contract. Assumes nothing.
use Prim.Native.Nat.{◌+◌, ◌*◌}
use mathlib.Core.Path.{◌≡◌, refl, sym, ap, ◌∙◌}
use native.Mathlib.Omega.{arith}
use Rattle.records.specs.Format.{whole_number}
use Rattle.rules.specs.Patches.{sides}
use Rattle.rules.proofs.Meshes.{patches_numbered}
use Rattle.rules.proofs.Tables.{sides_fit}
use Rattle.tensor.specs.Turning.{raw}
use Rattle.tensor.specs.Outcomes.{coons_to_tensor_raw}
use Rattle.tensor.proofs.Walk.{told_broken, told_patches}
use Rattle.tensor.proofs.Answers.{many_components, many_numbers, not_whole, small_output, wrote_all}
use Rattle.std.specs.Prelude.{None, Err}
use Rattle.std.proofs.lemmas.Result.{err_from_is_err_and}
use Rattle.tensor.proofs.coons_to_tensor_raw.Goals as goal

pub returns-then-n-gt-MOST_COMPONENTS : goal.returns-then-n-gt-MOST_COMPONENTS
unfolding coons_to_tensor_raw
returns-then-n-gt-MOST_COMPONENTS c = many_components raw _ _ _ _ _ (omega arith)

pub returns-then-numbers-gt-MOST_NUMBERS : goal.returns-then-numbers-gt-MOST_NUMBERS
unfolding coons_to_tensor_raw
returns-then-numbers-gt-MOST_NUMBERS c = many_numbers raw _ _ _ _ _ (omega arith) (omega arith)

pub returns-in_err-count : goal.returns-in_err-count
unfolding coons_to_tensor_raw
returns-in_err-count c =
    let none : c.count_patches.result ≡ None = c.in_err-count.ensures.ok_part in
    let p = err_from_is_err_and c.from_residual.result c.from_residual.ensures.1 in
    let refusal = rw none at c.in_err-count.ensures.value in
    rw (p.1 ∙ ap Err p.2 ∙ refusal) (not_whole raw _ _ _ _ _ (omega arith) (omega arith) (told_broken _ _ (sym c.count_patches.ensures.value ∙ none)))

pub returns-then-out-needed : goal.returns-then-out-needed
unfolding coons_to_tensor_raw
returns-then-out-needed c =
    let n = c.args.n in
    let counted = told_patches _ _ _ (sym c.count_patches.ensures.value ∙ c.in_ok-count.ensures.ok_part) in
    small_output raw _ _ _ _ _ (omega arith) (omega arith) counted.0 n (32 + 4 * n) refl
    (patches_numbered 0 whole_number 8 n sides sides_fit.0 c.args.numbers.now) counted.1 c.if-out-needed.true

pub returns : goal.returns
unfolding coons_to_tensor_raw
returns c =
    let n = c.args.n in
    let counted = told_patches _ _ _ (sym c.count_patches.ensures.value ∙ c.in_ok-count.ensures.ok_part) in
    wrote_all raw _ _ _ _ _ (omega arith) (omega arith) counted.0 n (32 + 4 * n) refl
    (patches_numbered 0 whole_number 8 n sides sides_fit.0 c.args.numbers.now) counted.1 (omega arith) c.write_patches.ensures
