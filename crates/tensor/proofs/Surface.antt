-- The tensor-product patch that a Coons patch is turned into has nine times the Coons patch's surface: ISO 32000-1, 8.7.4.5.7 and 8.7.4.5.8.
-- Assumes nothing.
use Prim.Native.Nat.{ℕ, zero, suc, ◌+◌, ◌-◌, ◌*◌, ◌<◌}
use mathlib.Core.Path.{◌≡◌, refl, sym, ap, ◌∙◌}
use mathlib.Core.Bool.{true, false}
use mathlib.Core.List.{List, [], ◌∷◌, map}
use native.Mathlib.Omega.{arith}
use borrow.Author.Tests.{leb-true, leb-false}
use lib.Dec.{leb}
use lib.IntN.{ℤ, pos, neg_ℤ, ◌-ℤ◌, ◌*ℤ◌, +ℤ_assoc, *ℤ_comm}
use lib.ListN.{length, get_or, length-map, get_or-append, get_or-map}
use lib.Seq.{get_or-append-add}
use Rattle.lists.specs.Lists.{All}
use Rattle.rules.specs.Patches.{Patch, sides}
use Rattle.rules.specs.Meshes.{patches}
use Rattle.rules.proofs.Lists.{all_map}
use Rattle.rules.proofs.Tables.{sides_fit}
use Rattle.rules.proofs.Meshes.{Numbered, patches_numbered}
use Rattle.tensor.specs.Formulas.{ninefold, inner_at, p11, p12, p21, p22}
use Rattle.tensor.specs.Turning.{raw, coordinate, inner_names, inner_point, tensor_patch}
use Rattle.tensor.specs.Surface.{B, curve, between, tensor_surface, coons_surface}
use Rattle.tensor.proofs.Differences.{gathered, add-more, add_difference, same_difference, times_difference}

-- ---- curves of natural numbers

unfoldable bezier : ℕ → ℕ → ℕ → ℕ → ℕ → ℕ → ℕ
bezier a b c d s t = a * B 0 s t + b * B 1 s t + c * B 2 s t + d * B 3 s t

unfoldable line : ℕ → ℕ → ℕ → ℕ → ℕ
line a b s t = a * (s * ((s + t) * (s + t))) + b * (t * ((s + t) * (s + t)))

-- a line is a cubic curve, whose inner points are at its thirds
line_is_curve : (a b s t : ℕ) → 3 * line a b s t ≡ bezier (3 * a) (2 * a + b) (a + 2 * b) (3 * b) s t
unfolding line bezier B
line_is_curve a b s t = omega arith

times_nine : (a b c d s t : ℕ) → bezier (9 * a) (9 * b) (9 * c) (9 * d) s t ≡ 9 * bezier a b c d s t
unfolding bezier
times_nine a b c d s t = omega arith

-- a line between two curves is a curve of lines
line_of_curves : (a b c d e f g h s t x y : ℕ)
    → line (bezier a b c d s t) (bezier e f g h s t) x y ≡ bezier (line a e x y) (line b f x y) (line c g x y) (line d h x y) s t
unfolding line bezier
line_of_curves a b c d e f g h s t x y = go (B 0 s t) (B 1 s t) (B 2 s t) (B 3 s t) (x * ((x + y) * (x + y))) (y * ((x + y) * (x + y)))
  where
    go : (i j k l m n : ℕ) → (a * i + b * j + c * k + d * l) * m + (e * i + f * j + g * k + h * l) * n
        ≡ (a * m + e * n) * i + (b * m + f * n) * j + (c * m + g * n) * k + (d * m + h * n) * l
    go i j k l m n = omega arith

line_of_lines : (a b c d s t x y : ℕ) → line (line a b s t) (line c d s t) x y ≡ line (line a c x y) (line b d x y) s t
unfolding line
line_of_lines a b c d s t x y =
    go (s * ((s + t) * (s + t))) (t * ((s + t) * (s + t))) (x * ((x + y) * (x + y))) (y * ((x + y) * (x + y)))
  where
    go : (i j m n : ℕ) → (a * i + b * j) * m + (c * i + d * j) * n ≡ (a * m + c * n) * i + (b * m + d * n) * j
    go i j m n = omega arith

-- the curve of p10 p11 p12 p13, where what is taken from p11 and p12 stands on the other side
module _ (p00 p01 p02 p03 p10 p13 p30 p31 p32 p33 x y : ℕ) where
  added : ℕ
  added = bezier (9 * p10) (6 * (p01 + p10) + 3 * (p31 + p13)) (6 * (p02 + p13) + 3 * (p32 + p10)) (9 * p13) x y

  taken : ℕ
  taken = (4 * p00 + 2 * (p03 + p30) + p33) * B 1 x y + (4 * p03 + 2 * (p00 + p33) + p30) * B 2 x y

  thirds : ℕ → ℕ → ℕ
  thirds a b = bezier (3 * a) (2 * a + b) (a + 2 * b) (3 * b) x y

  inner_curves : added + (2 * thirds p00 p03 + thirds p30 p33)
      ≡ 3 * thirds p10 p13 + 3 * (2 * bezier p00 p01 p02 p03 x y + bezier p30 p31 p32 p33 x y) + taken
  unfolding added taken thirds bezier
  inner_curves = omega arith

  inner_row : added + 3 * (2 * line p00 p03 x y + line p30 p33 x y)
      ≡ 9 * line p10 p13 x y + 3 * (2 * bezier p00 p01 p02 p03 x y + bezier p30 p31 p32 p33 x y) + taken
  unfolding thirds
  inner_row = omega (arith, inner_curves, line_is_curve p00 p03 x y, line_is_curve p10 p13 x y, line_is_curve p30 p33 x y)

rows : (d1 d2 m0 m1 m2 m3 g1 l1 g2 l2 s t : ℕ) → g1 + 3 * (2 * m0 + m3) ≡ 9 * m1 + 3 * (2 * d1 + d2) + l1
    → g2 + 3 * (2 * m3 + m0) ≡ 9 * m2 + 3 * (2 * d2 + d1) + l2
    → bezier (9 * d1) g1 g2 (9 * d2) s t + 9 * line m0 m3 s t
    ≡ 9 * (bezier m0 m1 m2 m3 s t + line d1 d2 s t) + (l1 * B 1 s t + l2 * B 2 s t)
unfolding bezier
rows d1 d2 m0 m1 m2 m3 g1 l1 g2 l2 s t h1 h2 =
    omega (arith, line_is_curve m0 m3 s t, line_is_curve d1 d2 s t, ap (λ (k : ℕ). k * B 1 s t) h1, ap (λ (k : ℕ). k * B 2 s t) h2)

-- ---- curves of signed numbers

curve_gathered : (a g1 l1 g2 l2 d s t : ℕ)
    → curve (pos a) (pos g1 -ℤ pos l1) (pos g2 -ℤ pos l2) (pos d) s t ≡ pos (bezier a g1 g2 d s t) -ℤ pos (l1 * B 1 s t + l2 * B 2 s t)
unfolding curve bezier
curve_gathered a g1 l1 g2 l2 d s t =
    let i : ℕ = B 1 s t in
    let j : ℕ = B 2 s t in
    rw (
      times_difference g1 l1 i,
      times_difference g2 l2 j,
      ← (+ℤ_assoc (pos (a * B 0 s t)) (pos (g1 * i)) (neg_ℤ (pos (l1 * i)))),
      add_difference (a * B 0 s t + g1 * i) (l1 * i) (g2 * j) (l2 * j),
    )
    (add-more (a * B 0 s t + g1 * i + g2 * j) (l1 * i + l2 * j) (d * B 3 s t))

nine_times : (a b : ℕ) → pos 9 *ℤ (pos a -ℤ pos b) ≡ pos (9 * a) -ℤ pos (9 * b)
nine_times a b = *ℤ_comm (pos 9) (pos a -ℤ pos b) ∙ times_difference a b 9 ∙ same_difference (a * 9) (b * 9) (9 * a) (9 * b) (omega arith)

inner_gathered : (a b c d e f g h : ℕ)
    → ninefold (pos a) (pos b) (pos c) (pos d) (pos e) (pos f) (pos g) (pos h) ≡ pos (6 * (b + c) + 3 * (f + g)) -ℤ pos (4 * a + 2 * (d + e) + h)
unfolding ninefold
inner_gathered a b c d e f g h = gathered (4 * a) (6 * (b + c)) (2 * (d + e)) (3 * (f + g)) h

-- ---- one axis

curve_whole : (a b c d s t : ℕ) → curve (pos a) (pos b) (pos c) (pos d) s t ≡ pos (bezier a b c d s t)
unfolding curve bezier
curve_whole a b c d s t = refl

between_whole : (a b s t : ℕ) → between (pos a) (pos b) s t ≡ pos (line a b s t)
unfolding between line
between_whole a b s t = refl

begins_at : (a b c d : ℕ) → bezier a b c d 1 0 ≡ a
unfolding bezier B
begins_at a b c d = omega arith

ends_at : (a b c d : ℕ) → bezier a b c d 0 1 ≡ d
unfolding bezier B
ends_at a b c d = omega arith

module _ (q : ℕ → ℕ) (s t x y : ℕ) where
  d1 : ℕ
  d1 = bezier (q 00) (q 01) (q 02) (q 03) x y

  d2 : ℕ
  d2 = bezier (q 30) (q 31) (q 32) (q 33) x y

  across : ℕ → ℕ
  across i = line (q (10 * i)) (q (10 * i + 3)) x y

  coons_gathered : coons_surface (λ ij. pos (q ij)) s t x y
      ≡ pos (bezier (across 0) (across 1) (across 2) (across 3) s t + line d1 d2 s t) -ℤ pos (line (across 0) (across 3) s t)
  unfolding coons_surface d1 d2 across
  coons_gathered = simp (curve_whole, begins_at, ends_at, between_whole, line_of_curves, line_of_lines)

  same_surface : curve
      (curve (pos (9 * q 00)) (pos (9 * q 01)) (pos (9 * q 02)) (pos (9 * q 03)) x y)
      (curve (pos (9 * q 10)) (p11 raw.inner q) (p12 raw.inner q) (pos (9 * q 13)) x y)
      (curve (pos (9 * q 20)) (p21 raw.inner q) (p22 raw.inner q) (pos (9 * q 23)) x y)
      (curve (pos (9 * q 30)) (pos (9 * q 31)) (pos (9 * q 32)) (pos (9 * q 33)) x y)
      s t
      ≡ pos 9 *ℤ coons_surface (λ ij. pos (q ij)) s t x y
  unfolding d1 d2 across added taken
  same_surface =
      simp (inner_gathered, curve_gathered, curve_whole, times_nine, coons_gathered, nine_times)
      (same_difference _ _ _ _
      (rows d1 d2 (across 0) (across 1) (across 2) (across 3) _ _ _ _ s t
      (inner_row (q 00) (q 01) (q 02) (q 03) (q 10) (q 13) (q 30) (q 31) (q 32) (q 33) x y)
      (inner_row (q 30) (q 31) (q 32) (q 33) (q 20) (q 23) (q 00) (q 01) (q 02) (q 03) x y)))

-- ---- the points of a patch

-- the surface of the sixteen points is nine times that of the twelve, along each axis, 0 for x and 1 for y, and at all parameters
abbrev pub SameSurface : Patch (List ℕ) (List ℕ) → Type 0
SameSurface P =
    (axis : ℕ) → axis < 2 → (s t x y : ℕ)
    → tensor_surface (coordinate (pos 0) (tensor_patch raw P).points axis) s t x y
    ≡ pos 9 *ℤ coons_surface (λ (ij : ℕ). pos (coordinate 0 P.points axis ij)) s t x y

module _ (P : Patch (List ℕ) (List ℕ)) (twelve : length P.points ≡ 12) (axis : ℕ) (x-or-y : axis < 2) where
  abbrev answered : ℕ → ℤ
  answered k = get_or (get_or (tensor_patch raw P).points k []) axis (pos 0)

  front : List (List ℤ)
  front = map (map raw.border) P.points

  length_front : length front ≡ 12
  unfolding front
  length_front = rw length-map twelve

  border : (k : ℕ) → leb 12 k ≡ false → answered k ≡ pos (9 * get_or (get_or P.points k []) axis 0)
  unfolding tensor_patch front
  border k e =
      let h : k < length front = omega (arith, length_front, leb-false 12 k e) in
      rw (get_or-append front (map (inner_point raw P.points) inner_names) [] k h, get_or-map (map raw.border) P.points k [])
      (get_or-map raw.border (get_or P.points k []) axis 0)

  along : List ℕ → List ℤ
  along names = map (inner_at raw.inner (coordinate 0 P.points axis)) names

  inner_along_lem : (names : List ℕ) (j : ℕ) → get_or (get_or (map (inner_point raw P.points) names) j []) axis (pos 0) ≡ get_or (along names) j (pos 0)
  unfolding along
  inner_along_lem [] j = refl
  inner_along_lem (ij ∷ names) zero = go axis x-or-y
    where
      go : (a : ℕ) → a < 2 → get_or (inner_point raw P.points ij) a (pos 0) ≡ inner_at raw.inner (coordinate 0 P.points a) ij
      go zero h = refl
      go (suc zero) h = refl
      go (suc (suc a)) h = absurd (omega arith)
  inner_along_lem (ij ∷ names) (suc j) = inner_along_lem names j

  inside : (k : ℕ) → leb 12 k ≡ true → answered k ≡ get_or (along inner_names) (k - 12) (pos 0)
  unfolding tensor_patch front
  inside k e =
      let place : length front + (k - 12) ≡ k = omega (arith, length_front, leb-true 12 k e) in
      ap (λ (i : ℕ). get_or (get_or (tensor_patch raw P).points i []) axis (pos 0)) (sym place)
      ∙ ap (λ (l : List ℤ). get_or l axis (pos 0)) (get_or-append-add front (map (inner_point raw P.points) inner_names) (k - 12) [])
      ∙ inner_along_lem inner_names (k - 12)

pub tensor_is_coons : (P : Patch (List ℕ) (List ℕ)) → length P.points ≡ 12 → SameSurface P
unfolding tensor_surface along
tensor_is_coons P twelve axis h s t x y =
    simp (border P twelve axis h, inside P twelve axis h) (same_surface (coordinate 0 P.points axis) s t x y)

-- so it is for every patch of a list of raw numbers
pub every_surface : (n : ℕ) (xs : List ℕ) → All SameSurface (patches 0 sides (λ x. x) 8 n xs)
every_surface n xs =
    all_map (Numbered 12 4 n) SameSurface (patches 0 sides (λ x. x) 8 n xs) (λ P z. tensor_is_coons P z.0.0)
    (patches_numbered 0 (λ x. x) 8 n sides sides_fit.0 xs)
