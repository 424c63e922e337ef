-- `decode::decode_scale` meets its contract. A width up to 32 leaves 2 ^ w whole in a u64, and 2 ^ w - 1 is a whole number that an f64 counts. Assumes nothing.
use Rattle.std.proofs.Common.{true, ◌≡◌, ℕ, ◌*◌, ◌%◌, ◌^◌, ◌≤◌, ap, ◌∙◌, sym, mod-eq_of_lt, one-mul, arith, pow_mono}
use lib.Ieee.{of_bits}
use Rattle.bits.specs.Reading.{readable}
use Rattle.bits.proofs.Widths.{width_readable}
use Rattle.decode.specs.Decode.{scale_of}
use Rattle.decode.proofs.decode_scale.Goals as goal

power : (w : ℕ) → w ≤ 32 → (1 * 2 ^ w) % 2 ^ 64 ≡ 2 ^ w
power w h = let p : 2 ^ w ≤ 2 ^ 32 = pow_mono h in ap (λ (x : ℕ). x % 2 ^ 64) (one-mul (2 ^ w)) ∙ mod-eq_of_lt (omega arith)

pub returns-then-not-width_is_readable : goal.returns-then-not-width_is_readable
unfolding scale_of of_bits
returns-then-not-width_is_readable c = rw (← c.width_is_readable.ensures, c.if-not-width_is_readable.true)

pub returns : goal.returns
unfolding scale_of
returns c =
    let r : readable c.args.bits ≡ true = sym c.width_is_readable.ensures ∙ c.if-not-width_is_readable.false in
    rw (r, power c.args.bits (width_readable _ r).few_bits)
