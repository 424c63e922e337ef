-- A number and its binary digits, high first. Assumes nothing.
use Prim.Native.Nat.{ℕ, zero, suc, ◌+◌, ◌*◌, ◌/◌, ◌%◌, ◌^◌, ◌<◌}
use mathlib.Core.Path.{◌≡◌, refl, sym, ap, ap₂, ◌∙◌, subst}
use mathlib.Core.List.{List, [], ◌∷◌, ◌++◌}
use native.Mathlib.Nat.{mod-lt, mod-eq_of_lt, mod-one, pow-suc, mul_comm, add_comm, zero-add, suc-add}
use native.Mathlib.Numerals.{one-add}
use lib.Arith.{digits_lt}
use lib.Dec.{lit<}
use lib.ListN.{length, take, drop}
use lib.Seq.{take_at, drop_at}
use lib.Pow.{mod-pow-add, mod-mod-pow, field, high, low, shr-shr}
use Rattle.lists.specs.Lists.{AllBelow}
use Rattle.bits.specs.Bits.{bits_of, number}

pub length-bits : (w x : ℕ) → length (bits_of w x) ≡ w
unfolding bits_of
length-bits zero x = refl
length-bits (suc w) x = ap suc (length-bits w x)

pub bits_below : (w x : ℕ) → AllBelow 2 (bits_of w x)
unfolding bits_of
bits_below zero x = tt
bits_below (suc w) x = (mod-lt (x / 2 ^ w) (lit< tt), bits_below w x)

mod-suc : (x w : ℕ) → x % 2 ^ suc w ≡ x / 2 ^ w % 2 * 2 ^ w + x % 2 ^ w
mod-suc x w = ap (λ (k : ℕ). x % 2 ^ k) (sym (one-add w)) ∙ mod-pow-add x 1 w

-- the digits of a number stand for it, as far as they go
pub number_bits : (w x : ℕ) → number (bits_of w x) ≡ x % 2 ^ w
unfolding bits_of number
number_bits zero x = sym (mod-one x)
number_bits (suc w) x =
    ap₂ (λ (k r : ℕ). x / 2 ^ w % 2 * 2 ^ k + r) (length-bits w x) (number_bits w x) ∙ sym (mod-suc x w)

pub number_of_bits : (w x : ℕ) → x < 2 ^ w → number (bits_of w x) ≡ x
number_of_bits w x h = number_bits w x ∙ mod-eq_of_lt h

-- w bits are a number below 2 ^ w
pub number_below : (bs : List ℕ) → AllBelow 2 bs → number bs < 2 ^ length bs
unfolding number
number_below [] p = lit< tt
number_below (b ∷ bs) p =
    rw (pow-suc 2 (length bs), mul_comm (2 ^ length bs) 2) (digits_lt {m = 2} p.0 (number_below bs p.1))

-- what stands above the w low digits does not count
pub bits_mod : (w x y : ℕ) → x % 2 ^ w ≡ y % 2 ^ w → bits_of w x ≡ bits_of w y
unfolding bits_of
bits_mod zero x y e = refl
bits_mod (suc w) x y e =
    ap₂ (λ (b : ℕ) (r : List ℕ). b ∷ r)
    (sym (field x 1 w) ∙ ap (λ (k : ℕ). k / 2 ^ w) e' ∙ field y 1 w)
    (bits_mod w x y (sym (mod-mod-pow x 1 w) ∙ ap (λ (k : ℕ). k % 2 ^ w) e' ∙ mod-mod-pow y 1 w))
  where
    e' : x % 2 ^ (1 + w) ≡ y % 2 ^ (1 + w)
    e' = subst (λ (k : ℕ). x % 2 ^ k ≡ y % 2 ^ k) (sym (one-add w)) e

-- a list of bits is the digits of its number
pub bits_of_number : (bs : List ℕ) → AllBelow 2 bs → bits_of (length bs) (number bs) ≡ bs
unfolding bits_of number
bits_of_number [] p = refl
bits_of_number (b ∷ bs) p =
    ap₂ (λ (c : ℕ) (r : List ℕ). c ∷ r)
    (ap (λ (k : ℕ). k % 2) (high b (length bs) h) ∙ mod-eq_of_lt p.0)
    (bits_mod (length bs) (b * 2 ^ length bs + number bs) (number bs) (low b (length bs) h ∙ sym (mod-eq_of_lt h)) ∙ bits_of_number bs p.1)
  where
    h : number bs < 2 ^ length bs
    h = number_below bs p.1

-- the digits of a number, cut in two
pub bits_add : (a b x : ℕ) → bits_of (a + b) x ≡ bits_of a (x / 2 ^ b) ++ bits_of b x
unfolding bits_of
bits_add zero b x = ap (λ (k : ℕ). bits_of k x) (zero-add b)
bits_add (suc a) b x =
    ap (λ (k : ℕ). bits_of k x) (suc-add a b)
    ∙ ap₂ (λ (c : ℕ) (r : List ℕ). c ∷ r)
    (ap (λ (k : ℕ). x / 2 ^ k % 2) (add_comm a b) ∙ ap (λ (k : ℕ). k % 2) (sym (shr-shr x b a)))
    (bits_add a b x)

pub take-bits : (a b x : ℕ) → take a (bits_of (a + b) x) ≡ bits_of a (x / 2 ^ b)
take-bits a b x = ap (take a) (bits_add a b x) ∙ take_at (bits_of a (x / 2 ^ b)) (bits_of b x) a (length-bits a (x / 2 ^ b))

pub drop_bits : (a b x : ℕ) → drop a (bits_of (a + b) x) ≡ bits_of b x
drop_bits a b x = ap (drop a) (bits_add a b x) ∙ drop_at (bits_of a (x / 2 ^ b)) (bits_of b x) a (length-bits a (x / 2 ^ b))

-- a number put below another
pub bits_join : (a b p x : ℕ) → x < 2 ^ b → bits_of (a + b) (p * 2 ^ b + x) ≡ bits_of a p ++ bits_of b x
bits_join a b p x h =
    bits_add a b (p * 2 ^ b + x)
    ∙ ap₂ (λ (k : ℕ) (r : List ℕ). bits_of a k ++ r) (high p b h)
    (bits_mod b (p * 2 ^ b + x) x (low p b h ∙ sym (mod-eq_of_lt h)))
