-- Bits go out a byte at a time, and one put comes after another. Assumes nothing.
use mathlib.Core.Path.{◌≡◌, refl, sym, ap, ap₂, ◌∙◌}
use mathlib.Core.List.{List, [], ◌∷◌, ◌++◌, append_assoc, append-nil}
use Prim.Native.Nat.{ℕ, ◌+◌, ◌-◌, ◌*◌, ◌/◌, ◌%◌, ◌^◌, ◌≤◌, ◌<◌}
use native.Mathlib.Nat.{add-zero, add_assoc, mod-eq_of_lt, mod-lt, mul-mod_left}
use native.Mathlib.Omega.{arith}
use lib.Bits.{bit_or, or_shifted, or_zero_r}
use lib.Dec.{lit<}
use lib.Pow.{pow_pos, mod-pow-add, mod-mod-pow, shl-shr}
use lib.ListN.{length, set, replicate, length-append}
use Rattle.lists.specs.Writing.{Written}
use Rattle.lists.proofs.Members.{all_append}
use Rattle.lists.proofs.Writing.{written_none, written_set, written_then, written_length}
use Rattle.bits.specs.Bits.{bits_of, stream}
use Rattle.bits.proofs.Digits.{length-bits, bits_mod, bits_add, bits_join}
use Rattle.bits.proofs.Streams.{length-stream, stream_append}
use Rattle.packing.specs.declared.waiting.Waiting.{Waiting}
use Rattle.packing.specs.Packed.{byte_count, bytes}
use Rattle.packing.specs.Inner.Passes.{Stored, Put}
use Rattle.packing.proofs.Filling.{bytes_are, zeros}

-- ---- bytes stored

pub stored_none : (l : List ℕ) (at number : ℕ) → at ≤ length l → Stored l l at 0 number
unfolding stream bits_of
stored_none l at number h = record { bytes = []; written = rw add-zero (written_none l at h); clean = tt; same = refl }

-- the next byte is the low one of a number that goes on
pub stored_more : {l o : List ℕ} {at k : ℕ} (number : ℕ) → at + k < length l → Stored l o at k (number / 2 ^ 8)
    → Stored l (set o (at + k) (number % 256)) at (k + 1) number
unfolding stream
stored_more {l} {o} {at} {k} number h s =
    record {
      bytes = s.bytes ++ (number % 256 ∷ []);
      written = rw (← add_assoc) (written_set (at + k) (number % 256) refl h s.written);
      clean = all_append (λ (x : ℕ). x < 256) s.bytes (number % 256 ∷ []) s.clean (mod-lt number (lit< tt), tt);
      same =
          rw (stream_append s.bytes (number % 256 ∷ []), append-nil, s.same)
          (ap (λ (b : List ℕ). bits_of (8 * k) (number / 2 ^ 8) ++ b) (bits_mod 8 (number % 256) number (mod-eq_of_lt (mod-lt number (lit< tt))))
          ∙ sym (bits_add (8 * k) 8 number)
          ∙ ap (λ (n : ℕ). bits_of n number) (omega arith));
    }

-- ---- a number put below bits that wait

-- how the code puts it: a shift, whose overflow is lost, and an or
shifted : (bits w : ℕ) → w ≤ 64 → bits * 2 ^ w % 2 ^ 64 ≡ bits % 2 ^ (64 - w) * 2 ^ w
shifted bits w h =
    let e : 64 ≡ (64 - w) + w = omega arith in
    ap (λ (k : ℕ). bits * 2 ^ w % 2 ^ k) e ∙ mod-pow-add (bits * 2 ^ w) (64 - w) w ∙ rw (shl-shr bits w, mul-mod_left bits (2 ^ w)) (add-zero _)

pub bits_put : (count w bits x : ℕ) → count + w ≤ 64 → x < 2 ^ w → bits_of (count + w) (bit_or (bits * 2 ^ w % 2 ^ 64) x) ≡ bits_of count bits ++ bits_of w x
bits_put count w bits x h f =
    let room : 64 - w ≡ (64 - w - count) + count = omega arith in
    let z : ℕ = bits % 2 ^ (64 - w) in
    let low : z % 2 ^ count ≡ bits % 2 ^ count = ap (λ (k : ℕ). bits % 2 ^ k % 2 ^ count) room ∙ mod-mod-pow bits (64 - w - count) count in
    rw (shifted bits w (omega arith), or_shifted z w x f, bits_join count w z x f, bits_mod count z bits low)

-- ---- one put after another

pub put_none : (a : Waiting) (l : List ℕ) → a.at ≤ length l → Put a a l l []
unfolding stream
put_none a l h = record { bytes = []; written = written_none l a.at h; clean = tt; same = sym (append-nil _) }

pub put_then : {a b c : Waiting} {l m o p q : List ℕ} → Put a b l m p → Put b c m o q → Put a c l o (p ++ q)
put_then {a} {b} {c} {l} {m} {o} {p} {q} f g =
    record {
      bytes = f.bytes ++ g.bytes;
      written = written_then f.written g.written;
      clean = all_append (λ (x : ℕ). x < 256) f.bytes g.bytes f.clean g.clean;
      same =
          rw (stream_append f.bytes g.bytes, append_assoc, g.same, ← append_assoc (stream f.bytes), f.same) (append_assoc (bits_of a.count a.bits) p q);
    }

-- how far a put has come, in bits
pub put_place : {a b : Waiting} {l o p : List ℕ} → Put a b l o p → 8 * b.at + b.count ≡ 8 * a.at + a.count + length p
put_place {a} {b} {l} {o} {p} f =
    omega (
      arith,
      ap length f.same,
      length-append (stream f.bytes) (bits_of b.count b.bits),
      length-append (bits_of a.count a.bits) p,
      length-stream f.bytes,
      length-bits a.count a.bits,
      length-bits b.count b.bits,
      f.written.after,
    )

pub put_length : {a b : Waiting} {l o p : List ℕ} → Put a b l o p → length o ≡ length l
put_length f = written_length f.written

-- ---- a number put

module _ (a : Waiting) (x w : ℕ) (l : List ℕ) (f : x < 2 ^ w) (w32 : w ≤ 32) where
  abbrev wide : ℕ
  wide = bit_or (a.bits * 2 ^ w % 2 ^ 64) x

  -- all its bits wait
  pub put_waits : {few : a.count + w < 32} → 8 * a.at + a.count + w ≤ 8 * length l
      → Put a (record { at = a.at; count = a.count + w; bits = wide; few = few }) l l (bits_of w x)
  unfolding stream
  put_waits h =
      record {
        bytes = [];
        written = written_none l a.at (omega arith);
        clean = tt;
        same = bits_put a.count w a.bits x (omega arith) f;
      }

  -- four bytes go out
  pub put_goes : {o : List ℕ} {few : a.count + w - 32 < 32} → 32 ≤ a.count + w → Stored l o a.at 4 (wide / 2 ^ (a.count + w - 32))
      → Put a (record { at = a.at + 4; count = a.count + w - 32; bits = wide; few = few }) l o (bits_of w x)
  put_goes {o} c s =
      let left : ℕ = a.count + w - 32 in
      let e : 32 + left ≡ a.count + w = omega arith in
      record {
        bytes = s.bytes;
        written = s.written;
        clean = s.clean;
        same =
            rw s.same
            (sym (bits_add 32 left wide) ∙ ap (λ (n : ℕ). bits_of n wide) e ∙ bits_put a.count w a.bits x (omega arith) f);
      }

-- ---- the bits that are left

-- the last bytes, filled with zeros
pub flush_writes : (a : Waiting) {l o : List ℕ} → a.count < 32
    → Stored l o a.at (byte_count a.count) (a.bits * 2 ^ (8 * byte_count a.count - a.count) % 2 ^ 64)
    → Written l o a.at (bytes (bits_of a.count a.bits)) (a.at + byte_count a.count)
flush_writes a {l} {o} h s =
    let z : ℕ = 8 * byte_count a.count - a.count in
    let e : 8 * byte_count a.count ≡ a.count + z = omega arith in
    let f : ℕ = a.bits * 2 ^ z % 2 ^ 64 in
    let filled : bits_of (8 * byte_count a.count) f ≡ bits_of a.count a.bits ++ replicate z 0 =
    ap₂ bits_of e (sym (or_zero_r f)) ∙ bits_put a.count z a.bits 0 (omega arith) (pow_pos z) ∙ ap (λ (b : List ℕ). bits_of a.count a.bits ++ b) (zeros z) in
    rw (← bytes_are s.bytes (bits_of a.count a.bits) z s.clean (s.same ∙ filled) (omega arith)) s.written
