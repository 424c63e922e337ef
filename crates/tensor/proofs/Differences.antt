-- Signed numbers as differences of natural ones. Assumes nothing.
use Prim.Native.Nat.{ℕ, zero, suc, ◌+◌, ◌-◌, ◌*◌, ◌≤◌}
use mathlib.Core.Path.{◌≡◌, refl, sym, ap, ◌∙◌}
use mathlib.Core.Bool.{Bool, true, false}
use native.Mathlib.Nat.{zero-mul}
use native.Mathlib.Omega.{arith}
use borrow.Author.Tests.{leb-true, leb-false}
use lib.Dec.{leb}
use lib.IntN.{ℤ, pos, neg_ℤ, ◌+ℤ◌, ◌-ℤ◌, ◌*ℤ◌, +ℤ_assoc, +ℤ_comm, +ℤ_invr, +ℤ_idl, +ℤ_idr, neg_ℤ-+ℤ}

-- ---- sums

pub add-more : (a b c : ℕ) → pos a -ℤ pos b +ℤ pos c ≡ pos (a + c) -ℤ pos b
add-more a b c =
    +ℤ_assoc (pos a) (neg_ℤ (pos b)) (pos c)
    ∙ ap (λ (z : ℤ). pos a +ℤ z) (+ℤ_comm (neg_ℤ (pos b)) (pos c))
    ∙ sym (+ℤ_assoc (pos a) (pos c) (neg_ℤ (pos b)))

pub take_more : (a b c : ℕ) → pos a -ℤ pos b -ℤ pos c ≡ pos a -ℤ pos (b + c)
take_more a b c = +ℤ_assoc (pos a) (neg_ℤ (pos b)) (neg_ℤ (pos c)) ∙ ap (λ (z : ℤ). pos a +ℤ z) (sym (neg_ℤ-+ℤ (pos b) (pos c)))

-- all that is taken away put last
pub gathered : (a b c d e : ℕ) → neg_ℤ (pos a) +ℤ pos b -ℤ pos c +ℤ pos d -ℤ pos e ≡ pos (b + d) -ℤ pos (a + c + e)
gathered a b c d e = rw (+ℤ_comm (neg_ℤ (pos a)) (pos b), take_more b a c, add-more b (a + c) d) (take_more (b + d) (a + c) e)

pub add_difference : (a b c d : ℕ) → (pos a -ℤ pos b) +ℤ (pos c -ℤ pos d) ≡ pos (a + c) -ℤ pos (b + d)
add_difference a b c d = rw (← (+ℤ_assoc (pos a -ℤ pos b) (pos c) (neg_ℤ (pos d))), add-more a b c) (take_more (a + c) b d)

shifted : (a b d : ℕ) → pos (a + d) -ℤ pos (b + d) ≡ pos a -ℤ pos b
shifted a b d = sym (add_difference a b d d) ∙ ap (λ (z : ℤ). (pos a -ℤ pos b) +ℤ z) (+ℤ_invr (pos d)) ∙ +ℤ_idr (pos a -ℤ pos b)

pub same_difference : (a b c d : ℕ) → a + d ≡ c + b → pos a -ℤ pos b ≡ pos c -ℤ pos d
same_difference a b c d e =
    let f : b + d ≡ d + b = omega arith in
    sym (shifted a b d) ∙ ap (λ (k : ℕ). pos k -ℤ pos (b + d)) e ∙ ap (λ (k : ℕ). pos (c + b) -ℤ pos k) f ∙ shifted c d b

-- ---- products

negative_times : (d w : ℕ) → neg_ℤ (pos d) *ℤ pos w ≡ neg_ℤ (pos (d * w))
negative_times zero w = rw zero-mul refl
negative_times (suc d) w = refl

pub times_difference : (g l w : ℕ) → (pos g -ℤ pos l) *ℤ pos w ≡ pos (g * w) -ℤ pos (l * w)
times_difference g l w = go (leb l g) refl
  where
    go : (t : Bool) → leb l g ≡ t → (pos g -ℤ pos l) *ℤ pos w ≡ pos (g * w) -ℤ pos (l * w)
    go true e =
        let h : l ≤ g = leb-true _ _ e in
        let d : ℕ = g - l in
        let p : g + 0 ≡ d + l = omega arith in
        let q : d * w + l * w ≡ g * w + 0 = omega (arith, ap (λ (k : ℕ). k * w) p) in
        ap (λ (z : ℤ). z *ℤ pos w) (same_difference g l d 0 p ∙ +ℤ_idr (pos d))
        ∙ sym (+ℤ_idr (pos (d * w))) ∙ same_difference (d * w) 0 (g * w) (l * w) q
    go false e =
        let h : suc g ≤ l = leb-false _ _ e in
        let d : ℕ = l - g in
        let p : g + d ≡ 0 + l = omega arith in
        let q : 0 + l * w ≡ g * w + d * w = omega (arith, ap (λ (k : ℕ). k * w) p) in
        ap (λ (z : ℤ). z *ℤ pos w) (same_difference g l 0 d p ∙ +ℤ_idl (neg_ℤ (pos d))) ∙ negative_times d w
        ∙ sym (+ℤ_idl (neg_ℤ (pos (d * w)))) ∙ same_difference 0 (d * w) (g * w) (l * w) q
