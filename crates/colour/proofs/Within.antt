-- Each of r, g and b is NaN or within 0..1: `colour_within`. Where there are four components none of them is NaN. Assumes nothing.
use mathlib.Core.Path.{◌≡◌, refl, sym, ap, ◌∙◌, subst}
use mathlib.Core.Bool.{Bool, true, false, cond, ◌&&◌, ◌||◌}
use mathlib.Core.List.{List, [], ◌∷◌}
use Prim.Native.Nat.{ℕ, ◌+◌, ◌-◌, ◌*◌, ◌≤◌, ◌<◌}
use native.Mathlib.Nat.{mul-pos, zero-mul}
use native.Mathlib.Omega.{arith}
use lib.Dec.{T, ltb, eqb, ltb→lt, eqb→eq}
use borrow.Author.Tests.{ltb-false, lt-ltb, le-ltb, eq-eqb}
use lib.Ieee.{Float, nan, inf, fin, binary64, up, down, round, sum, add, sub, neg, lt, eq, le, is_nan}
use lib.Ieee.Fits.{down_pos, and_i, and_l}
use lib.Ieee.Order.{le_of_values, round_mono}
use lib.Ieee.Scale.{round_same}
use Rattle.decode.specs.Floats.{float0, float1}
use Rattle.colour.specs.Light.{clamp_of, lesser_of, light_of, within}
use Rattle.colour.specs.Colour.{colour_of}

-- ---- small things
yes : (b : Bool) → b ≡ true → T b
yes b h = subst T (sym h) tt

no : true ≡ false → ⊥
no h = subst T h tt

or_l : (a b : Bool) → T a → T (a || b)
or_l true b h = tt
or_l false b h = elim h [ ]

or_r : (a b : Bool) → T b → T (a || b)
or_r true b h = tt
or_r false b h = h

-- within 0..1, and no NaN
abbrev Inside : Float → Type 0
Inside x = T (le float0 x) × T (le x float1)

inside→within : (x : Float) → Inside x → T (within x)
inside→within x h = or_r (is_nan x) (le float0 x && le x float1) (and_i (le float0 x) (le x float1) h.0 h.1)

zero_inside : Inside float0
unfolding le
zero_inside = (tt, tt)

one_inside : Inside float1
unfolding le
one_inside = (tt, tt)

lt→le : (x y : Float) → T (lt x y) → T (le x y)
unfolding le
lt→le x y h = or_l (lt x y) (eq x y) h

-- ---- what the order says of a finite value
at_most : (a b : ℕ) → T (ltb a b || (eqb a b && true)) → a ≤ b
at_most a b = go (ltb a b) (eqb a b) (ltb→lt a b) (eqb→eq a b)
  where
    go : (x y : Bool) → (T x → a < b) → (T y → a ≡ b) → T (x || (y && true)) → a ≤ b
    go true y p q h = let r = p tt in omega arith
    go false true p q h = let r = q tt in omega arith
    go false false p q h = absurd h

-- a negative one that is not below 0.0 is -0.0
zero_if_negative : (m : ℕ) (e : _) → T (le float0 (fin true m e)) → m * up e ≡ 0
unfolding le
zero_if_negative m e h = let p = eqb→eq (0 * down e) (m * up e * 1) (and_l (eqb (0 * down e) (m * up e * 1)) (eqb (0 * down e) 0) h) in omega arith

below_one : (m : ℕ) (e : _) → T (le (fin false m e) float1) → m * up e ≤ down e
unfolding le
below_one m e h = let p = at_most (m * up e * 1) (1 * down e) h in omega arith

-- ---- the clamp
kept : (x : Float) → lt x float0 ≡ false → lt float1 x ≡ false → T (within x)
unfolding lt is_nan
kept nan g h = tt
kept (inf true) g h = absurd (no g)
kept (inf false) g h = absurd (no h)
kept (fin true m e) g h =
    let p = ltb-false 0 (m * up e * 1 + 0 * down e) g in
    and_i (le float0 (fin true m e)) (le (fin true m e) float1)
    (unfold le in and_i (eqb (0 * down e) (m * up e * 1)) (eqb (0 * down e) 0) (yes _ (eq-eqb (0 * down e) (m * up e * 1) (omega arith))) (yes _ (eq-eqb (0 * down e) 0 (omega arith))))
    (lt→le (fin true m e) float1 (yes _ (lt-ltb 0 (m * up e * 1 + 1 * down e) (omega (arith, down_pos e)))))
kept (fin false m e) g h =
    let p = ltb-false (1 * down e) (m * up e * 1) h in
    and_i (le float0 (fin false m e)) (le (fin false m e) float1)
    (le_of_values float0 (fin false m e) 0 1 (m * up e) (down e) (omega arith) (down_pos e) (refl, refl) (refl, refl) (omega arith))
    (le_of_values (fin false m e) float1 (m * up e) (down e) 1 1 (down_pos e) (omega arith) (refl, refl) (refl, refl) (omega arith))

pub clamp_within : (x : Float) → T (within (clamp_of x))
clamp_within x = go (lt x float0) (lt float1 x) refl refl
  where
    go : (a b : Bool) → lt x float0 ≡ a → lt float1 x ≡ b → T (within (cond a float0 (cond b float1 x)))
    go true b g h = inside→within float0 zero_inside
    go false true g h = inside→within float1 one_inside
    go false false g h = kept x g h

-- ---- a rounded fraction within 0..1
round_inside : (a c : ℕ) → 0 < c → a ≤ c → Inside (round binary64 false a c)
unfolding round
round_inside a c C h = (round_mono binary64 0 1 a c (omega arith) C (omega arith), round_mono binary64 a c 1 1 C (omega arith) (omega arith))

round_low : (a c : ℕ) → 0 < c → T (le float0 (round binary64 false a c))
unfolding round
round_low a c C = round_mono binary64 0 1 a c (omega arith) C (omega arith)

minus_zero : T (le float0 (round binary64 true 0 1))
unfolding round le
minus_zero = tt

round_zero : (c : ℕ) → 0 < c → T (le float0 (round binary64 true 0 c))
round_zero c C = subst (λ (x : Float). T (le float0 x)) (round_same binary64 true 0 1 0 c (omega arith) C (omega arith)) minus_zero

-- ---- the sum of two inks
sum_low : (s t : Bool) (a b c : ℕ) → 0 < c → (T s → a ≡ 0) → (T t → b ≡ 0) → T (le float0 (sum binary64 s a t b c))
unfolding sum
sum_low false false a b c C p q = round_low (a + b) c C
sum_low true true a b c C p q = rw (p tt, q tt) (round_zero c C)
sum_low false true a b c C p q = rw (q tt, le-ltb a 0 (omega arith)) (round_low (a - 0) c C)
sum_low true false a b c C p q = rw (p tt, le-ltb b 0 (omega arith)) (go (ltb 0 b))
  where
    go : (x : Bool) → T (le float0 (cond x (round binary64 false (b - 0) c) (round binary64 false (0 - b) c)))
    go true = round_low (b - 0) c C
    go false = round_low (0 - b) c C

not_negative : (s : Bool) (m : ℕ) (e : _) (d : ℕ) → T (within (fin s m e)) → T s → m * up e * d ≡ 0
unfolding is_nan
not_negative true m e d h t =
    ap (λ (x : ℕ). x * d) (zero_if_negative m e (and_l (le float0 (fin true m e)) (le (fin true m e) float1) h)) ∙ zero-mul d
not_negative false m e d h t = elim t [ ]

no_infinity : (s : Bool) → T (within (inf s)) → ⊥
unfolding is_nan le
no_infinity true h = h
no_infinity false h = h

ink_low : (c k : Float) → T (within c) → T (within k) → T (lt (add binary64 c k) float1) → T (le float0 (add binary64 c k))
unfolding add lt
ink_low nan k p q h = absurd h
ink_low (inf s) k p q h = absurd (no_infinity s p)
ink_low (fin s m e) nan p q h = absurd h
ink_low (fin s m e) (inf t) p q h = absurd (no_infinity t q)
ink_low (fin s m e) (fin t n d) p q h =
    sum_low s t (m * up e * down d) (n * up d * down e) (down e * down d) (mul-pos (down_pos e) (down_pos d)) (not_negative s m e (down d) p) (not_negative t n d (down e) q)

lesser_inside : (c k : Float) → T (within c) → T (within k) → Inside (lesser_of (add binary64 c k))
lesser_inside c k p q = go (lt (add binary64 c k) float1) refl
  where
    go : (b : Bool) → lt (add binary64 c k) float1 ≡ b → Inside (cond b (add binary64 c k) float1)
    go true h = (ink_low c k p q (yes _ h), lt→le (add binary64 c k) float1 (yes _ h))
    go false h = one_inside

-- ---- 1 less a value within 0..1
one_less : (m : Float) → Inside m → Inside (sub binary64 float1 m)
unfolding sub neg add sum
one_less nan h = absurd (unfold le in h.0)
one_less (inf true) h = absurd (unfold le in h.0)
one_less (inf false) h = absurd (unfold le in h.1)
one_less (fin true m e) h =
    let z = zero_if_negative m e h.0 in
    round_inside (1 * down e + m * up e * 1) (1 * down e) (omega (arith, down_pos e)) (omega arith)
one_less (fin false m e) h =
    let z = below_one m e h.1 in
    rw (le-ltb (1 * down e) (m * up e * 1) (omega arith)) (round_inside (1 * down e - m * up e * 1) (1 * down e) (omega (arith, down_pos e)) (omega arith))

-- the light that two clamped inks leave is no NaN
pub light_inside : (c k : Float) → T (within c) → T (within k) → Inside (light_of c k)
light_inside c k p q = one_less (lesser_of (add binary64 c k)) (lesser_inside c k p q)

pub light_within : (c k : Float) → T (within c) → T (within k) → T (within (light_of c k))
light_within c k p q = inside→within (light_of c k) (light_inside c k p q)

-- ---- a colour
clamped_light : (a b : Float) → T (within (light_of (clamp_of a) (clamp_of b)))
clamped_light a b = light_within (clamp_of a) (clamp_of b) (clamp_within a) (clamp_within b)

black : T (within float0)
black = inside→within float0 zero_inside

pub colour_within : (l : List Float) → T (within (colour_of l).r) × T (within (colour_of l).g) × T (within (colour_of l).b)
unfolding colour_of
colour_within [] = (black, black, black)
colour_within (a ∷ []) = (clamp_within a, clamp_within a, clamp_within a)
colour_within (a ∷ (b ∷ [])) = (black, black, black)
colour_within (a ∷ (b ∷ (c ∷ []))) = (clamp_within a, clamp_within b, clamp_within c)
colour_within (a ∷ (b ∷ (c ∷ (d ∷ [])))) = (clamped_light a d, clamped_light b d, clamped_light c d)
colour_within (a ∷ (b ∷ (c ∷ (d ∷ (e ∷ l))))) = (clamp_within a, clamp_within b, clamp_within c)
