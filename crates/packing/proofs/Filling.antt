-- Bits in bytes, the last byte filled with zeros. Assumes nothing.
use mathlib.Core.Path.{◌≡◌, refl, sym, ap, ap₂, ◌∙◌, subst}
use mathlib.Core.List.{List, [], ◌∷◌, ◌++◌, append_assoc, append-nil}
use Prim.Native.Nat.{ℕ, zero, suc, ◌+◌, ◌-◌, ◌*◌, ◌%◌, ◌<◌}
use native.Mathlib.Nat.{zero-add, suc-add, div-eq_of_lt}
use native.Mathlib.Omega.{arith}
use lib.Dec.{lit<}
use lib.Pow.{pow_pos}
use lib.ListN.{length, take, drop, replicate, length-append, length-replicate, length-drop, take-append-drop}
use lib.Seq.{length-take-le, take_at, drop_at}
use Rattle.lists.specs.Lists.{AllBelow}
use Rattle.lists.proofs.Members.{all_append, all_take, all_drop, all_replicate}
use Rattle.bits.specs.Bits.{bits_of, number, stream}
use Rattle.bits.proofs.Digits.{length-bits, bits_of_number, number_of_bits}
use Rattle.bits.proofs.Streams.{length-stream}
use Rattle.packing.specs.Packed.{byte_count, octets, bytes}

-- ---- bytes from bits

length-octets : (k : ℕ) (bits : List ℕ) → length (octets k bits) ≡ k
unfolding octets
length-octets zero bits = refl
length-octets (suc k) bits = ap suc (length-octets k (drop 8 bits))

pub length-bytes : (bits : List ℕ) → length (bytes bits) ≡ byte_count (length bits)
unfolding bytes
length-bytes bits = length-octets (byte_count (length bits)) _

stream_octets : (k : ℕ) (bits : List ℕ) → AllBelow 2 bits → length bits ≡ 8 * k → stream (octets k bits) ≡ bits
unfolding stream octets
stream_octets zero [] p e = refl
stream_octets zero (b ∷ bits) p e = absurd (omega arith)
stream_octets (suc k) bits p e =
    let bit : ℕ → Type 0 = λ x. x < 2 in
    ap₂ (λ (x y : List ℕ). x ++ y)
    (subst (λ (n : ℕ). bits_of n (number (take 8 bits)) ≡ take 8 bits) (length-take-le 8 bits (omega arith)) (bits_of_number (take 8 bits) (all_take bit 8 bits p)))
    (stream_octets k (drop 8 bits) (all_drop bit 8 bits p) (omega (arith, length-drop 8 bits)))
    ∙ take-append-drop 8 bits

-- the bits of the bytes that hold bits: those bits, and fewer than 8 zeros
abbrev pub filler : ℕ → List ℕ
filler count = replicate (8 * byte_count count - count) 0

pub length-filler : (count : ℕ) → length (filler count) < 8
length-filler count = omega (arith, length-replicate {A = ℕ} (8 * byte_count count - count) 0)

pub stream_bytes : (bits : List ℕ) → AllBelow 2 bits → stream (bytes bits) ≡ bits ++ filler (length bits)
unfolding bytes
stream_bytes bits p =
    let zeros : ℕ = 8 * byte_count (length bits) - length bits in
    let bit : ℕ → Type 0 = λ x. x < 2 in
    stream_octets (byte_count (length bits)) (bits ++ filler (length bits))
    (all_append bit bits (filler (length bits)) p (all_replicate bit zeros 0 (lit< tt)))
    (omega (arith, length-append bits (filler (length bits)), length-replicate {A = ℕ} zeros 0))

-- ---- bits from bytes

-- bytes before bits are the first of the bytes that hold both
octets_after : (s : List ℕ) (k : ℕ) (bits : List ℕ) → AllBelow 256 s → octets (length s + k) (stream s ++ bits) ≡ s ++ octets k bits
unfolding octets stream
octets_after [] k bits p = rw zero-add
octets_after (b ∷ s) k bits p =
    rw (suc-add, append_assoc, octets, take_at (bits_of 8 b) (stream s ++ bits) 8 (length-bits 8 b), drop_at (bits_of 8 b) (stream s ++ bits) 8 (length-bits 8 b), number_of_bits 8 b p.0, octets_after s k bits p.1)

pub bytes_after : (s bits : List ℕ) → AllBelow 256 s → bytes (stream s ++ bits) ≡ s ++ bytes bits
unfolding bytes
bytes_after s bits p =
    let l : length (stream s ++ bits) ≡ 8 * length s + length bits = length-append (stream s) bits ∙ ap (λ (k : ℕ). k + length bits) (length-stream s) in
    let k : byte_count (length (stream s ++ bits)) ≡ length s + byte_count (length bits) = omega arith in
    let z : 8 * byte_count (length (stream s ++ bits)) - length (stream s ++ bits) ≡ 8 * byte_count (length bits) - length bits = omega arith in
    rw (z, k, append_assoc) (octets_after s (byte_count (length bits)) _ p)

-- the bytes whose bits are given bits and fewer than 8 zeros
pub bytes_are : (s bits : List ℕ) (z : ℕ) → AllBelow 256 s → stream s ≡ bits ++ replicate z 0 → z < 8 → s ≡ bytes bits
unfolding bytes octets
bytes_are s bits z p e h =
    let total : 8 * length s ≡ length bits + z = sym (length-stream s) ∙ ap length e ∙ length-append bits (replicate z 0) ∙ ap (λ (k : ℕ). length bits + k) (length-replicate z 0) in
    let k : byte_count (length bits) ≡ length s + 0 = omega arith in
    let pad : 8 * byte_count (length bits) - length bits ≡ z = omega arith in
    sym (rw (pad, k, ← e, ← append-nil (stream s), octets_after s 0 [] p) (append-nil s))

pub zeros : (k : ℕ) → bits_of k 0 ≡ replicate k 0
unfolding bits_of
zeros zero = refl
zeros (suc k) = ap₂ (λ (b : ℕ) (l : List ℕ). b ∷ l) (ap (λ (n : ℕ). n % 2) (div-eq_of_lt (pow_pos k))) (zeros k)
