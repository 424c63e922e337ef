-- The f64 sum, difference, product and quotient of whole numbers up to 2 ^ 53 are those of the integers, rounded once. Assumes nothing.
use mathlib.Core.Path.{◌≡◌, refl, sym, ap, ◌∙◌}
use mathlib.Core.Bool.{Bool, true, false, not, ◌&&◌, cond}
use Prim.Native.Nat.{ℕ, zero, suc, ◌+◌, ◌-◌, ◌*◌, ◌^◌, ◌≤◌, ◌<◌}
use native.Mathlib.Nat.{add-zero, zero-add, sub-zero, zero-mul, mul-one, mul-pos, mul_comm, mul-sub, mul-le-mul_right, mul-lt-mul_of_pos_right}
use native.Mathlib.Omega.{arith}
use borrow.Author.Tests.{ltb-true, ltb-false, le-ltb, lt-ltb, ne_eqb}
use lib.Dec.{ltb}
use lib.IntN.{ℤ, pos, negsuc, neg_ℤ, nat_abs, sub_ℕ, ◌+ℤ◌, ◌-ℤ◌, +ℤ_idr}
use lib.Ieee.{Float, nan, inf, fin, binary64, unlike, up, down, round, sum, add, sub, mul, div, neg, of_int}
use lib.Ieee.Exact.{HasValue}
use lib.Ieee.Fits.{down_pos}
use lib.Ieee.Scale.{round_same}
use lib.Ieee.Back.{round_whole}

-- x is n, negative where s is true
abbrev Is : Float → Bool → ℕ → Type 0
Is x s n = HasValue x s n 1

abbrev signed : Bool → ℕ → Float
signed s n = round binary64 s n 1

signed_is : (s : Bool) (n : ℕ) → n ≤ 2 ^ 53 → Is (signed s n) s n
signed_is s n h = round_whole binary64 s n h

-- ---- what an operation gives, by the signs and sizes of its operands: a product

over_both : (x y a b p q : ℕ) → x * 1 ≡ a * p → y * 1 ≡ b * q → x * y * 1 ≡ a * b * (p * q)
over_both x y a b p q h k =
    let h' : x ≡ a * p = sym (mul-one x) ∙ h in
    let k' : y ≡ b * q = sym (mul-one y) ∙ k in
    rw (h', k') (omega arith)

product : (x y : Float) (s t : Bool) (a b : ℕ) → Is x s a → Is y t b → mul binary64 x y ≡ signed (unlike s t) (a * b)
unfolding mul
product nan y s t a b h k = absurd h
product (inf u) y s t a b h k = absurd h
product (fin u m e) nan s t a b h k = absurd k
product (fin u m e) (inf v) s t a b h k = absurd k
product (fin u m e) (fin v n d) s t a b h k =
    rw (h.0, k.0)
    (round_same binary64 (unlike s t) (m * up e * (n * up d)) (down e * down d) (a * b) 1 (mul-pos (down_pos e) (down_pos d)) (omega arith)
    (over_both (m * up e) (n * up d) a b (down e) (down d) h.1 k.1))

-- ---- a sum

ltb_scaled : (a b c : ℕ) → 0 < c → ltb (a * c) (b * c) ≡ ltb a b
ltb_scaled a b c h = go (ltb a b) refl
  where
    go : (t : Bool) → ltb a b ≡ t → ltb (a * c) (b * c) ≡ t
    go true e = lt-ltb (a * c) (b * c) (mul-lt-mul_of_pos_right (ltb-true a b e) h)
    go false e = le-ltb (a * c) (b * c) (mul-le-mul_right c (ltb-false a b e))

round_scaled : (s : Bool) (n c : ℕ) → 0 < c → round binary64 s (n * c) c ≡ signed s n
round_scaled s n c h = round_same binary64 s (n * c) c n 1 h (omega arith) (mul-one (n * c))

sub_scaled : (a b c : ℕ) → a * c - b * c ≡ (a - b) * c
sub_scaled a b c = rw (mul_comm a c, mul_comm b c, mul_comm (a - b) c) (sym (mul-sub c a b))

sum_scaled : (s t : Bool) (a b c : ℕ) → 0 < c → sum binary64 s (a * c) t (b * c) c ≡ sum binary64 s a t b 1
unfolding sum
sum_scaled s t a b c h =
    let more : a * c + b * c ≡ (a + b) * c = omega arith in
    rw (
      ltb_scaled a b c h,
      ltb_scaled b a c h,
      more,
      sub_scaled b a c,
      sub_scaled a b c,
      round_scaled s (a + b) c h,
      round_scaled t (b - a) c h,
      round_scaled (s && ltb b a) (a - b) c h,
    )

over_all : (x a p q : ℕ) → x * 1 ≡ a * p → x * q ≡ a * (p * q)
over_all x a p q h =
    let h' : x ≡ a * p = sym (mul-one x) ∙ h in
    rw h' (omega arith)

total : (x y : Float) (s t : Bool) (a b : ℕ) → Is x s a → Is y t b → add binary64 x y ≡ sum binary64 s a t b 1
unfolding add
total nan y s t a b h k = absurd h
total (inf u) y s t a b h k = absurd h
total (fin u m e) nan s t a b h k = absurd k
total (fin u m e) (inf v) s t a b h k = absurd k
total (fin u m e) (fin v n d) s t a b h k =
    let left : m * up e * down d ≡ a * (down e * down d) = over_all (m * up e) a (down e) (down d) h.1 in
    let right : n * up d * down e ≡ b * (down e * down d) =
    over_all (n * up d) b (down d) (down e) k.1 ∙ ap (λ (c : ℕ). b * c) (mul_comm (down d) (down e)) in
    rw (h.0, k.0, left, right) (sum_scaled s t a b (down e * down d) (mul-pos (down_pos e) (down_pos d)))

-- ---- a quotient

factor_pos : (m u c : ℕ) → m * u * 1 ≡ c → 0 < c → m ≡ 0 → ⊥
factor_pos m u c h p e = let z : m * u ≡ 0 = ap (λ (x : ℕ). x * u) e ∙ zero-mul u in omega arith

crossed : (x y a b p q : ℕ) → x * 1 ≡ a * p → y * 1 ≡ b * q → x * q * b ≡ a * (y * p)
crossed x y a b p q h k =
    let h' : x ≡ a * p = sym (mul-one x) ∙ h in
    let k' : y ≡ b * q = sym (mul-one y) ∙ k in
    rw (h', k') (omega arith)

quotient : (x y : Float) (s t : Bool) (a b : ℕ) → Is x s a → Is y t b → 0 < b → div binary64 x y ≡ round binary64 (unlike s t) a b
unfolding div
quotient nan y s t a b h k b-pos = absurd h
quotient (inf u) y s t a b h k b-pos = absurd h
quotient (fin u m e) nan s t a b h k b-pos = absurd k
quotient (fin u m e) (inf v) s t a b h k b-pos = absurd k
quotient (fin u m e) (fin v n d) s t a b h k b-pos =
    let y-pos : 0 < n * up d = omega (arith, k.1, mul-pos b-pos (down_pos d)) in
    rw (h.0, k.0, ne_eqb n 0 (factor_pos n (up d) (b * down d) k.1 (mul-pos b-pos (down_pos d))))
    (round_same binary64 (unlike s t) (m * up e * down d) (n * up d * down e) a b (mul-pos y-pos (down_pos e)) b-pos
    (crossed (m * up e) (n * up d) a b (down e) (down d) h.1 k.1))

-- ---- whole numbers

abbrev pub whole : ℤ → Float
whole z = of_int binary64 z

-- whether it is negative
abbrev pub sign : ℤ → Bool
sign (pos n) = false
sign (negsuc n) = true

whole_is : (z : ℤ) → nat_abs z ≤ 2 ^ 53 → Is (whole z) (sign z) (nat_abs z)
unfolding of_int
whole_is (pos n) h = signed_is false n h
whole_is (negsuc n) h = signed_is true (suc n) h

-- - a + b; where a is 0 that is - 0 + b, which is no - 0
less_more : (a b : ℕ) → sum binary64 true a false b 1 ≡ whole (neg_ℤ (pos a) +ℤ pos b)
unfolding sum of_int
less_more zero zero = refl
less_more zero (suc b) = rw (lt-ltb 0 (suc b) (omega arith), sub-zero, zero-add)
less_more (suc a) b = go (ltb b (suc a)) refl (ltb (suc a) b) refl
  where
    go : (t : Bool) → ltb b (suc a) ≡ t → (u : Bool) → ltb (suc a) b ≡ u
        → cond u (signed false (b - suc a)) (signed (true && t) (suc a - b)) ≡ whole (cond t (negsuc (suc a - suc b)) (pos (b - suc a)))
    go true e true f = absurd (omega (arith, ltb-true b (suc a) e, ltb-true (suc a) b f))
    go true e false f = let n : suc a - b ≡ suc (suc a - suc b) = omega (arith, ltb-true b (suc a) e) in ap (signed true) n
    go false e true f = refl
    go false e false f = let n : suc a - b ≡ b - suc a = omega (arith, ltb-false b (suc a) e, ltb-false (suc a) b f) in ap (signed false) n

more_less : (a b : ℕ) → sum binary64 false a true b 1 ≡ whole (pos a -ℤ pos b)
unfolding sum of_int
more_less a zero = rw (le-ltb a 0 (omega arith), sub-zero, add-zero)
more_less a (suc b) = go (ltb a (suc b)) refl
  where
    go : (t : Bool) → ltb a (suc b) ≡ t
        → cond t (signed true (suc b - a)) (signed false (a - suc b)) ≡ whole (cond t (negsuc (suc b - suc a)) (pos (a - suc b)))
    go true e = let n : suc b - a ≡ suc (suc b - suc a) = omega (arith, ltb-true a (suc b) e) in ap (signed true) n
    go false e = refl

both_more : (a b : ℕ) → sum binary64 false a false b 1 ≡ whole (pos (a + b))
unfolding sum of_int
both_more a b = refl

both_less : (a b : ℕ) → sum binary64 true (suc a) true (suc b) 1 ≡ whole (negsuc (suc (a + b)))
unfolding sum of_int
both_less a b = let n : suc a + suc b ≡ suc (suc (a + b)) = omega arith in ap (signed true) n

less_none : (a : ℕ) → sum binary64 true (suc a) true 0 1 ≡ whole (negsuc a)
unfolding sum of_int
less_none a = ap (signed true) (add-zero (suc a))

neg_is : (x : Float) (s : Bool) (n : ℕ) → Is x s n → Is (neg x) (not s) n
unfolding neg
neg_is nan s n h = absurd h
neg_is (inf t) s n h = absurd h
neg_is (fin t m e) s n h = (ap not h.0, h.1)

module _ (y z : ℤ) (y-small : nat_abs y ≤ 2 ^ 53) (z-small : nat_abs z ≤ 2 ^ 53) where
  pub add-whole : add binary64 (whole y) (whole z) ≡ whole (y +ℤ z)
  add-whole = total (whole y) (whole z) (sign y) (sign z) (nat_abs y) (nat_abs z) (whole_is y y-small) (whole_is z z-small) ∙ go y z
    where
      go : (y z : ℤ) → sum binary64 (sign y) (nat_abs y) (sign z) (nat_abs z) 1 ≡ whole (y +ℤ z)
      go (pos a) (pos b) = both_more a b
      go (pos a) (negsuc b) = more_less a (suc b)
      go (negsuc a) (pos b) = less_more (suc a) b
      go (negsuc a) (negsuc b) = both_less a b

  pub sub-whole : sub binary64 (whole y) (whole z) ≡ whole (y -ℤ z)
  unfolding sub
  sub-whole =
      total (whole y) (neg (whole z)) (sign y) (not (sign z)) (nat_abs y) (nat_abs z) (whole_is y y-small)
      (neg_is (whole z) (sign z) (nat_abs z) (whole_is z z-small))
      ∙ go y z
    where
      go : (y z : ℤ) → sum binary64 (sign y) (nat_abs y) (not (sign z)) (nat_abs z) 1 ≡ whole (y -ℤ z)
      go (pos a) (pos b) = more_less a b
      go (pos a) (negsuc b) = both_more a (suc b)
      go (negsuc a) (pos zero) = less_none a ∙ ap whole (sym (+ℤ_idr (negsuc a)))
      go (negsuc a) (pos (suc b)) = both_less a b
      go (negsuc a) (negsuc b) = less_more (suc a) (suc b)

pub mul-whole : (a b : ℕ) → a ≤ 2 ^ 53 → b ≤ 2 ^ 53 → mul binary64 (whole (pos a)) (whole (pos b)) ≡ whole (pos (a * b))
unfolding of_int
mul-whole a b h k = product (signed false a) (signed false b) false false a b (signed_is false a h) (signed_is false b k)

-- - a * b + c; where b is 0 the product is - 0
pub less_times_plus : (a b c : ℕ) → suc a ≤ 2 ^ 53 → b ≤ 2 ^ 53 → suc a * b ≤ 2 ^ 53 → c ≤ 2 ^ 53
    → add binary64 (mul binary64 (whole (negsuc a)) (whole (pos b))) (whole (pos c)) ≡ whole (neg_ℤ (pos (suc a * b)) +ℤ pos c)
unfolding of_int
less_times_plus a b c h k l m =
    ap (λ (x : Float). add binary64 x (signed false c))
    (product (signed true (suc a)) (signed false b) true false (suc a) b (signed_is true (suc a) h) (signed_is false b k))
    ∙ total (signed true (suc a * b)) (signed false c) true false (suc a * b) c (signed_is true (suc a * b) l) (signed_is false c m)
    ∙ less_more (suc a * b) c

-- the f64 that is nearest to z / b
pub div-whole : (z : ℤ) (b : ℕ) → nat_abs z ≤ 2 ^ 53 → 0 < b → b ≤ 2 ^ 53
    → div binary64 (whole z) (whole (pos b)) ≡ round binary64 (sign z) (nat_abs z) b
div-whole z b h b-pos k =
    quotient (whole z) (whole (pos b)) (sign z) false (nat_abs z) b (whole_is z h) (whole_is (pos b) k) b-pos
    ∙ ap (λ (s : Bool). round binary64 s (nat_abs z) b) (go (sign z))
  where
    go : (s : Bool) → unlike s false ≡ s
    go true = refl
    go false = refl

-- ---- sizes

nat_abs_sub : (a b : ℕ) → nat_abs (sub_ℕ a b) ≤ a + b
nat_abs_sub a b = go (ltb a b) refl
  where
    go : (t : Bool) → ltb a b ≡ t → nat_abs (cond t (negsuc (b - suc a)) (pos (a - b))) ≤ a + b
    go true e = omega (arith, ltb-true a b e)
    go false e = omega arith

pub nat_abs_add : (y z : ℤ) → nat_abs (y +ℤ z) ≤ nat_abs y + nat_abs z
nat_abs_add (pos a) (pos b) = omega arith
nat_abs_add (pos a) (negsuc b) = nat_abs_sub a (suc b)
nat_abs_add (negsuc a) (pos b) = omega (arith, nat_abs_sub b (suc a))
nat_abs_add (negsuc a) (negsuc b) = omega arith

pub nat_abs_neg : (z : ℤ) → nat_abs (neg_ℤ z) ≡ nat_abs z
nat_abs_neg (pos zero) = refl
nat_abs_neg (pos (suc n)) = refl
nat_abs_neg (negsuc n) = refl

pub nat_abs_less : (y z : ℤ) → nat_abs (y -ℤ z) ≤ nat_abs y + nat_abs z
nat_abs_less y z = omega (arith, nat_abs_add y (neg_ℤ z), nat_abs_neg z)
