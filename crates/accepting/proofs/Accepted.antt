-- What an accepted input promises: how wide its flag is, that it has no more bytes than LENGTH lets in, and its widths and its mask. Assumes nothing.
use Prim.Native.Nat.{ℕ, ◌≤◌}
use mathlib.Core.Path.{◌≡◌, refl}
use mathlib.Core.List.{List}
use native.Mathlib.Omega.{arith}
use lib.ListN.{length}
use lib.Ieee.{Float}
use Rattle.std.specs.Prelude.{Option, Some, None}
use Rattle.std.specs.Option.{unwrap_or}
use Rattle.answers.specs.Limits.{most_bytes}
use Rattle.bits.proofs.Widths.{Width}
use Rattle.records.specs.Layout.{first_width}
use Rattle.records.proofs.Layouts.{layout_widths}
use Rattle.rows.specs.declared.Source.{Source}
use Rattle.rows.specs.declared.Source.TheVariants.{Bits, List as Listed}
use Rattle.rows.specs.declared.Input.{Input}
use Rattle.rows.specs.Inner.Sources.{places, width_in, mask_in}
use Rattle.accepting.specs.Inner.Accepting.{HoldsBits, HoldsList, FromBits}

pub flag_few : (flag : Option ℕ) (coord : ℕ) → Width (first_width flag coord) → unwrap_or flag 0 ≤ 32
flag_few (Some flag) coord w = w.few_bits
flag_few None coord w = omega arith

pub flag_some : (s : List ℕ) (coord comp flag : ℕ) (entries : List Float) (n : ℕ) {I : Input} → FromBits s coord comp (Some flag) entries n I
    → 1 ≤ I.layout.flag
flag_some s coord comp flag entries n f =
    let w = layout_widths (Some flag) coord comp (length entries) f.readable in
    rw f.flag_is w.of_first.some_bits

-- ---- bytes

module _ (s : List ℕ) where
  pub bits_short : (S : Source) → HoldsBits S s → places S ≤ 134217728 → length s ≤ most_bytes
  bits_short (Bits b) h short = let few : length b.now ≤ most_bytes = omega arith in rw h at few
  bits_short (Listed b) h short = absurd h

  pub bits_width : (S : Source) → HoldsBits S s → (width : ℕ) → width ≡ width_in S width
  bits_width (Bits b) h width = refl
  bits_width (Listed b) h width = absurd h

  pub bits_mask : (S : Source) → HoldsBits S s → (mask : ℕ) → mask ≡ mask_in S mask
  bits_mask (Bits b) h mask = refl
  bits_mask (Listed b) h mask = absurd h

-- ---- a list

module _ (vs : List Float) where
  pub list_width : (S : Source) → HoldsList S vs → (width : ℕ) → 1 ≡ width_in S width
  list_width (Bits b) h width = absurd h
  list_width (Listed b) h width = refl

  pub list_mask : (S : Source) → HoldsList S vs → (mask : ℕ) → 4294967295 ≡ mask_in S mask
  list_mask (Bits b) h mask = absurd h
  list_mask (Listed b) h mask = refl
