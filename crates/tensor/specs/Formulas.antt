-- The inner control points of the tensor-product patch that a Coons patch is: ISO 32000-1, 8.7.4.5.8. A point pij goes by 10 * i + j.
use Rattle.std.specs.Prelude.{ℕ, cond, eqb, ℤ, pos, negsuc, neg_ℤ, ◌+ℤ◌, ◌-ℤ◌, ◌*ℤ◌, Float}
use Rattle.std.specs.Float.{binary64}
use Rattle.std.specs.Float.Ieee.{add, sub, mul, div, of_int}

-- The clause's four formulas, where p ij is one coordinate of pij, x or y. They are one formula of eight points, which is given:
-- formula a b c d e f g h is - 4 a + 6 (b + c) - 2 (d + e) + 3 (f + g) - h, or a ninth of that.
module _ {A B : Type 0} (formula : A → A → A → A → A → A → A → A → B) (p : ℕ → A) where
  abbrev pub p11 : B
  p11 = formula (p 00) (p 01) (p 10) (p 03) (p 30) (p 31) (p 13) (p 33)

  abbrev pub p12 : B
  p12 = formula (p 03) (p 02) (p 13) (p 00) (p 33) (p 32) (p 10) (p 30)

  abbrev pub p21 : B
  p21 = formula (p 30) (p 31) (p 20) (p 33) (p 00) (p 01) (p 23) (p 03)

  abbrev pub p22 : B
  p22 = formula (p 33) (p 32) (p 23) (p 30) (p 03) (p 02) (p 20) (p 00)

  -- the inner point ij
  abbrev pub inner_at : ℕ → B
  inner_at ij = cond (eqb ij 11) p11 (cond (eqb ij 12) p12 (cond (eqb ij 21) p21 p22))

-- nine times an inner coordinate, exactly
unfoldable pub ninefold : ℤ → ℤ → ℤ → ℤ → ℤ → ℤ → ℤ → ℤ → ℤ
ninefold a b c d e f g h = neg_ℤ (pos 4 *ℤ a) +ℤ pos 6 *ℤ (b +ℤ c) -ℤ pos 2 *ℤ (d +ℤ e) +ℤ pos 3 *ℤ (f +ℤ g) -ℤ h

-- an inner coordinate in f64, each operation rounded once, in the clause's order from left to right
unfoldable pub ninth : Float → Float → Float → Float → Float → Float → Float → Float → Float
ninth a b c d e f g h =
    let corner : Float = mul binary64 (of_int binary64 (negsuc 3)) a in  -- - 4 a
    let beside : Float = add binary64 corner (mul binary64 (of_int binary64 (pos 6)) (add binary64 b c)) in  -- + 6 (b + c)
    let corners : Float = sub binary64 beside (mul binary64 (of_int binary64 (pos 2)) (add binary64 d e)) in  -- - 2 (d + e)
    let across : Float = add binary64 corners (mul binary64 (of_int binary64 (pos 3)) (add binary64 f g)) in  -- + 3 (f + g)
    div binary64 (sub binary64 across h) (of_int binary64 (pos 9))  -- - h, over 9
