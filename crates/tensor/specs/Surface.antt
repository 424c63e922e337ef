-- The two surfaces along one axis, in whole numbers: ISO 32000-1, 8.7.4.5.7 and 8.7.4.5.8. p ij is a coordinate of pij, which goes by 10 * i + j.
-- u = t / (s + t) and v = y / (x + y) are any fractions from 0 to 1; 1 - u = s / (s + t) and 1 - v = x / (x + y). What is worked out at u is given
-- times (s + t)³, and at v times (x + y)³, so each surface times (s + t)³ (x + y)³.
use Rattle.std.specs.Prelude.{ℕ, zero, suc, ◌+◌, ◌*◌, ℤ, pos, ◌+ℤ◌, ◌-ℤ◌, ◌*ℤ◌}

-- the Bernstein polynomials B0, B1, B2 and B3 at u: (1 - u)³, 3 u (1 - u)², 3 u² (1 - u) and u³
unfoldable pub B : ℕ → ℕ → ℕ → ℕ
B zero s t = s * s * s
B (suc zero) s t = 3 * (t * s * s)
B (suc (suc zero)) s t = 3 * (t * t * s)
B (suc (suc (suc i))) s t = t * t * t

-- the cubic Bezier curve of four points at u: a B0(u) + b B1(u) + c B2(u) + d B3(u)
unfoldable pub curve : ℤ → ℤ → ℤ → ℤ → ℕ → ℕ → ℤ
curve a b c d s t = a *ℤ pos (B 0 s t) +ℤ b *ℤ pos (B 1 s t) +ℤ c *ℤ pos (B 2 s t) +ℤ d *ℤ pos (B 3 s t)

-- (1 - u) a + u b
unfoldable pub between : ℤ → ℤ → ℕ → ℕ → ℤ
between a b s t = a *ℤ pos (s * ((s + t) * (s + t))) +ℤ b *ℤ pos (t * ((s + t) * (s + t)))

module _ (p : ℕ → ℤ) where
  -- 8.7.4.5.8: the sum of pij Bi(u) Bj(v) over i and j from 0 to 3
  unfoldable pub tensor_surface : ℕ → ℕ → ℕ → ℕ → ℤ
  tensor_surface s t x y =
      curve
      (curve (p 00) (p 01) (p 02) (p 03) x y)
      (curve (p 10) (p 11) (p 12) (p 13) x y)
      (curve (p 20) (p 21) (p 22) (p 23) x y)
      (curve (p 30) (p 31) (p 32) (p 33) x y)
      s t

  -- 8.7.4.5.7: the curves C1 and C2 at u, on the sides v = 0 and v = 1
  abbrev pub C1 : ℕ → ℕ → ℤ
  C1 s t = curve (p 00) (p 10) (p 20) (p 30) s t

  abbrev pub C2 : ℕ → ℕ → ℤ
  C2 s t = curve (p 03) (p 13) (p 23) (p 33) s t

  -- the curves D1 and D2 at v, on the sides u = 0 and u = 1
  abbrev pub D1 : ℕ → ℕ → ℤ
  D1 x y = curve (p 00) (p 01) (p 02) (p 03) x y

  abbrev pub D2 : ℕ → ℕ → ℤ
  D2 x y = curve (p 30) (p 31) (p 32) (p 33) x y

  -- (1 - v) C1(u) + v C2(u)
  abbrev pub SC : ℕ → ℕ → ℕ → ℕ → ℤ
  SC s t x y = between (C1 s t) (C2 s t) x y

  -- (1 - u) D1(v) + u D2(v)
  abbrev pub SD : ℕ → ℕ → ℕ → ℕ → ℤ
  SD s t x y = between (D1 x y) (D2 x y) s t

  -- (1 - v) ((1 - u) C1(0) + u C1(1)) + v ((1 - u) C2(0) + u C2(1)); u = 0 is s = 1, t = 0, and u = 1 is s = 0, t = 1
  abbrev pub SB : ℕ → ℕ → ℕ → ℕ → ℤ
  SB s t x y = between (between (C1 1 0) (C1 0 1) s t) (between (C2 1 0) (C2 0 1) s t) x y

  unfoldable pub coons_surface : ℕ → ℕ → ℕ → ℕ → ℤ
  coons_surface s t x y = SC s t x y +ℤ SD s t x y -ℤ SB s t x y
