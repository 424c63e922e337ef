-- The bits of bytes. Assumes nothing.
use Prim.Native.Nat.{ℕ, zero, suc, ◌+◌, ◌-◌, ◌*◌, ◌^◌, ◌≤◌, ◌<◌}
use mathlib.Core.Path.{◌≡◌, refl, sym, ap, ◌∙◌, subst}
use mathlib.Core.List.{List, [], ◌∷◌, ◌++◌, append_assoc}
use native.Mathlib.Nat.{add_comm, mul-suc}
use native.Mathlib.Omega.{arith}
use lib.ListN.{length, take, drop, length-append, length-take, length-drop, take-append-drop}
use lib.Seq.{take_all, drop-nil, drop-drop, drop_at, take-append-le, drop-append-le}
use Rattle.lists.specs.Lists.{AllBelow}
use Rattle.lists.proofs.Members.{all_append, all_take, all_drop}
use Rattle.bits.specs.Bits.{bits_of, number, stream, field_at}
use Rattle.bits.proofs.Digits.{length-bits, bits_below, number_below}

pub length-stream : (s : List ℕ) → length (stream s) ≡ 8 * length s
unfolding stream
length-stream [] = refl
length-stream (b ∷ s) = omega (arith, length-append (bits_of 8 b) (stream s), length-bits 8 b, length-stream s)

pub stream_append : (s t : List ℕ) → stream (s ++ t) ≡ stream s ++ stream t
unfolding stream
stream_append [] t = refl
stream_append (b ∷ s) t =
    ap (λ (r : List ℕ). bits_of 8 b ++ r) (stream_append s t) ∙ sym (append_assoc (bits_of 8 b) (stream s) (stream t))

pub stream_below : (s : List ℕ) → AllBelow 2 (stream s)
unfolding stream
stream_below [] = tt
stream_below (b ∷ s) = all_append (λ (x : ℕ). x < 2) (bits_of 8 b) (stream s) (bits_below 8 b) (stream_below s)

-- whole bytes left out are so many bits left out
pub drop-stream : (i : ℕ) (s : List ℕ) → drop (8 * i) (stream s) ≡ stream (drop i s)
unfolding stream
drop-stream zero s = refl
drop-stream (suc i) [] = drop-nil (8 * suc i)
drop-stream (suc i) (b ∷ s) =
    rw (mul-suc 8 i, add_comm (8 * i) 8, ← drop-drop (8 * i) 8 (stream (b ∷ s)), drop_at (bits_of 8 b) (stream s) 8 (length-bits 8 b)) (drop-stream i s)

-- n bits of some bytes are there whatever bytes come after
stream_before : (s z : List ℕ) (off n : ℕ) → off + n ≤ 8 * length s → take n (drop off (stream (s ++ z))) ≡ take n (drop off (stream s))
stream_before s z off n inside =
    let h₁ : off ≤ length (stream s) = rw length-stream (omega arith) in
    let h₂ : n ≤ length (drop off (stream s)) = simp (length-drop, length-stream) (omega arith) in
    ap (take n) (ap (drop off) (stream_append s z) ∙ drop-append-le off (stream s) (stream z) h₁)
    ∙ take-append-le n (drop off (stream s)) (stream z) h₂

-- n bits at an offset into a run of count bytes are those of the whole
pub bytes_window : (s : List ℕ) (from count off n : ℕ) → from + count ≤ length s → off + n ≤ 8 * count
    → take n (drop (8 * from + off) (stream s)) ≡ take n (drop off (stream (take count (drop from s))))
bytes_window s from count off n fits inside =
    let t : List ℕ = drop from s in
    let lt : length (take count t) ≡ count = simp (length-take, length-drop) (omega arith) in
    ap (take n) (sym (drop-drop off (8 * from) (stream s)) ∙ ap (drop off) (drop-stream from s ∙ ap stream (sym (take-append-drop count t))))
    ∙ stream_before (take count t) (drop count t) off n (rw lt inside)

-- a field is the same whatever bytes come after
pub field_before : (s z : List ℕ) (p w : ℕ) → p + w ≤ 8 * length s → field_at (s ++ z) p w ≡ field_at s p w
unfolding field_at
field_before s z p w h = ap number (stream_before s z p w h)

-- a field of w bits is below 2 ^ w
pub field_below : (s : List ℕ) (p w : ℕ) → p + w ≤ 8 * length s → field_at s p w < 2 ^ w
unfolding field_at
field_below s p w h =
    let e : length (take w (drop p (stream s))) ≡ w = simp (length-take, length-drop, length-stream) (omega arith) in
    let bit : ℕ → Type 0 = λ x. x < 2 in
    subst (λ (k : ℕ). number (take w (drop p (stream s))) < 2 ^ k) e
    (number_below (take w (drop p (stream s))) (all_take bit w (drop p (stream s)) (all_drop bit p (stream s) (stream_below s))))

-- a field of the bytes from i on is one of the whole
pub field_from : (s : List ℕ) (i off w : ℕ) → field_at (take (length s - i) (drop i s)) off w ≡ field_at s (8 * i + off) w
unfolding field_at
field_from s i off w =
    ap (λ (l : List ℕ). number (take w (drop off (stream l)))) (take_all (length s - i) (drop i s) (rw length-drop (omega arith)))
    ∙ ap (λ (l : List ℕ). number (take w (drop off l))) (sym (drop-stream i s))
    ∙ ap (λ (l : List ℕ). number (take w l)) (drop-drop off (8 * i) (stream s))
