-- Numbers as text: document 01, "Dump program". A text is a list of ASCII bytes.
use Rattle.std.specs.Prelude.{ℕ, zero, suc, ◌+◌, ◌/◌, ◌%◌, cond, List, [], ◌∷◌, ◌++◌, ltb, Float}
use Rattle.std.specs.Float.{nan, inf, fin, binary64}
use Rattle.std.specs.Float.Ieee.{to_bits}

-- 0 to 9, then a to f
abbrev pub glyph : ℕ → ℕ
glyph d = cond (ltb d 10) (48 + d) (87 + d)

-- the last k digits of v in base 16, the highest first
unfoldable pub hex : ℕ → ℕ → List ℕ
hex zero v = []
hex (suc k) v = hex k (v / 16) ++ (glyph (v % 16) ∷ [])

-- the decimal digits of v, k at most
unfoldable pub decimal_to : ℕ → ℕ → List ℕ
decimal_to zero v = []
decimal_to (suc k) v = cond (ltb v 10) (glyph v ∷ []) (decimal_to k (v / 10) ++ (glyph (v % 10) ∷ []))

unfoldable pub decimal : ℕ → List ℕ
decimal v = decimal_to (suc v) v

-- the 16 digits of a float's bits; any NaN is `nan`
unfoldable pub float_text : Float → List ℕ
float_text nan = 110 ∷ 97 ∷ 110 ∷ []
float_text (inf s) = hex 16 (to_bits binary64 (inf s))
float_text (fin s m e) = hex 16 (to_bits binary64 (fin s m e))
