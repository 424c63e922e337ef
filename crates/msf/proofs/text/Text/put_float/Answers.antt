-- `msf::text::Text::put_float` meets its contract: a NaN has no bits; digits are stored from the highest on. Assumes nothing.
use Prim.Native.Nat.{◌-◌, ◌+◌, ◌*◌}
use mathlib.Core.Path.{◌≡◌, sym, ◌∙◌, refl}
use native.Mathlib.Omega.{arith}
use lib.Ieee.{to_bits, binary64}
use Rattle.lists.proofs.Writing.{written_none, written_one, written_then, written_length}
use Rattle.lists.proofs.Parts.{written_whole}
use Rattle.msf.proofs.Digits.{float_nan, float_digits, no_digits, digits_more, all_digits}
use Rattle.msf.proofs.text.Text.put_float.Goals as goal

pub returns-then-is_nan-clause-appended : goal.returns-then-is_nan-clause-appended
returns-then-is_nan-clause-appended c =
    rw (float_nan c.args.x (sym c.is_nan.ensures.value ∙ c.if-is_nan.true)) c.put_bytes.ensures

pub loop-k-init : goal.loop-k-init
loop-k-init c = record { stored = rw no_digits (written_none _ 0 (omega arith)); within = omega arith }

pub loop-k-preserved : goal.loop-k-preserved
loop-k-preserved c =
    let v = to_bits binary64 c.args.x in
    let k = c.loop-k.k in
    let w = c.loop-k.invariant.stored in
    let n = written_length w in
    let e : 16 - (k + 1) ≡ 15 - k = omega arith in
    let more : 15 - k + 1 ≡ 16 - k = omega arith in
    let low : 60 - 4 * k ≡ 4 * (15 - k) = omega arith in
    let g = rw low at c.glyph.ensures in
    record {
      stored = rw (e, digits_more v (15 - k) (omega arith), more, ← g) (written_then w (written_one _ k _ (omega (arith, n))));
      within = omega arith;
    }

pub returns-clause-appended : goal.returns-clause-appended
returns-clause-appended c =
    let k : c.loop-k.k ≡ 16 = omega arith in
    let w = rw k at c.loop-k.invariant.stored in
    rw (float_digits c.args.x (sym c.is_nan.ensures.value ∙ c.if-is_nan.false), ← (all_digits (to_bits binary64 c.args.x)), ← (written_whole w refl)) c.put_bytes-2.ensures
