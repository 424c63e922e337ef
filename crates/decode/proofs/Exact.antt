-- A Decode range of 0 to 2 ^ w - 1 gives the raw number itself: `exact`, once over w. Assumes nothing.
-- Each step works on a value of size n / 1 (`HasValue x false n 1`), and `round_same` takes the operation's fraction back to n / 1.
use Rattle.std.proofs.Common.{◌≡◌, ℕ, ◌+◌, ◌-◌, ◌*◌, ◌^◌, ◌<◌, ◌≤◌, true, false, T, pos, refl, ap, ◌∙◌, subst, mul_comm, mul-pos, one-mul, zero-add, zero-mul, mul-one, arith, pow_mono, le-ltb, ne_eqb, le-leb}
use native.Mathlib.Nat.{sub-zero}
use lib.Ieee.{Float, nan, inf, fin, binary64, up, down, round, sum, add, sub, mul, div, neg, of_int}
use lib.Ieee.Exact.{HasValue}
use lib.Ieee.Fits.{down_pos}
use lib.Ieee.Scale.{round_same}
use lib.Ieee.Back.{round_whole}
use Rattle.decode.specs.Floats.{float0, float1}
use Rattle.decode.specs.Decode.{scale_of, value_of}

-- x is n, as a value that is not negative
abbrev Is : Float → ℕ → Type 0
Is x n = HasValue x false n 1

abbrev whole' : ℕ → Float
whole' n = round binary64 false n 1

times_one : (x : Float) (n : ℕ) → Is x n → mul binary64 x float1 ≡ whole' n
unfolding mul
times_one nan n h = absurd h
times_one (inf s) n h = absurd h
times_one (fin true m e) n h = absurd (subst T h.0 tt)
times_one (fin false m e) n h =
    round_same binary64 false (m * up e * 1) (down e * 1) n 1 (mul-pos (down_pos e) (omega arith)) (omega arith)
    (ap (λ (x : ℕ). x * 1) h.1 ∙ simp mul-one)

plus : (a b c : ℕ) → b ≡ 0 → sum binary64 false a true b c ≡ round binary64 false a c
unfolding sum
plus a b c h = simp (h, le-ltb a 0 (omega arith), sub-zero)

less_zero : (x : Float) (n : ℕ) → Is x n → sub binary64 x float0 ≡ whole' n
unfolding sub neg add
less_zero nan n h = absurd h
less_zero (inf s) n h = absurd h
less_zero (fin true m e) n h = absurd (subst T h.0 tt)
less_zero (fin false m e) n h =
    plus (m * up e * 1) (0 * down e) (down e * 1) (zero-mul (down e))
    ∙ round_same binary64 false (m * up e * 1) (down e * 1) n 1 (mul-pos (down_pos e) (omega arith)) (omega arith)
    (ap (λ (x : ℕ). x * 1) h.1 ∙ simp mul-one)

zero_plus : (x : Float) (n : ℕ) → Is x n → add binary64 float0 x ≡ whole' n
unfolding add sum
zero_plus nan n h = absurd h
zero_plus (inf s) n h = absurd h
zero_plus (fin true m e) n h = absurd (subst T h.0 tt)
zero_plus (fin false m e) n h =
    round_same binary64 false (0 * down e + m * up e * 1) (1 * down e) n 1 (mul-pos (omega arith) (down_pos e)) (omega arith)
    (simp (zero-mul, zero-add) (ap (λ (x : ℕ). x * 1) h.1 ∙ simp (mul-one, one-mul)))

product_pos : (m u d n : ℕ) → m * u * 1 ≡ n * d → 0 < n → 0 < d → 0 < m * u
product_pos m u d n h N D = omega (arith, mul-pos N D)

not_zero : (m u : ℕ) → 0 < m * u → m ≡ 0 → ⊥
not_zero m u h e = let z : m * u ≡ 0 = ap (λ (x : ℕ). x * u) e ∙ zero-mul u in omega arith

one_is : whole' 1 ≡ float1
unfolding round
one_is = refl

over_itself : (x : Float) (n : ℕ) → Is x n → 0 < n → div binary64 x x ≡ float1
unfolding div
over_itself nan n h N = absurd h
over_itself (inf s) n h N = absurd h
over_itself (fin true m e) n h N = absurd (subst T h.0 tt)
over_itself (fin false m e) n h N =
    let p = product_pos m (up e) (down e) n h.1 N (down_pos e) in
    let d = m * up e * down e in
    simp (ne_eqb m 0 (not_zero m (up e) p))
    (round_same binary64 false d d 1 1 (mul-pos p (down_pos e)) (omega arith) (mul_comm d 1) ∙ one_is)

whole_is : (n : ℕ) → n ≤ 2 ^ 53 → Is (whole' n) n
whole_is n h = round_whole binary64 false n h

-- up to 2 ^ 53, for any range top n above 0 and any raw number
scale_one : (n : ℕ) → 0 < n → n ≤ 2 ^ 53 → div binary64 (sub binary64 (whole' n) float0) (whole' n) ≡ float1
scale_one n N h = ap (λ (x : Float). div binary64 x (whole' n)) (less_zero (whole' n) n (whole_is n h)) ∙ over_itself (whole' n) n (whole_is n h) N

ones_pos : (w : ℕ) → 1 ≤ w → 0 < 2 ^ w - 1
ones_pos w h = let p : 2 ≤ 2 ^ w = pow_mono h in omega arith

ones_small : (w : ℕ) → w ≤ 32 → 2 ^ w - 1 ≤ 2 ^ 53
ones_small w h = let p : 2 ^ w ≤ 2 ^ 32 = pow_mono h in omega arith

small : (w raw : ℕ) → w ≤ 32 → raw < 2 ^ w → raw ≤ 2 ^ 53
small w raw h r = let p : 2 ^ w ≤ 2 ^ 32 = pow_mono h in omega arith

scale_exact : (w : ℕ) → 1 ≤ w → w ≤ 32 → scale_of w float0 (of_int binary64 (pos (2 ^ w - 1))) ≡ float1
unfolding scale_of of_int
scale_exact w a b = simp (le-leb 1 w a, le-leb w 32 b) (scale_one (2 ^ w - 1) (ones_pos w a) (ones_small w b))

pub exact : (w raw : ℕ) → 1 ≤ w → w ≤ 32 → raw < 2 ^ w → value_of raw (scale_of w float0 (of_int binary64 (pos (2 ^ w - 1)))) float0 ≡ of_int binary64 (pos raw)
unfolding of_int
exact w raw a b r =
    let i = whole_is raw (small w raw b r) in
    ap (λ (s : Float). add binary64 float0 (mul binary64 (whole' raw) s)) (scale_exact w a b)
    ∙ ap (λ (x : Float). add binary64 float0 x) (times_one (whole' raw) raw i)
    ∙ zero_plus (whole' raw) raw i
