-- A side copied inside the output, and a row in its parts. Assumes nothing.
use Prim.Native.Nat.{ℕ, zero, suc, ◌+◌, ◌-◌, ◌*◌, ◌≤◌, ◌<◌}
use mathlib.Core.Path.{◌≡◌, refl, ap, ap₂, ◌∙◌}
use mathlib.Core.List.{List, [], ◌∷◌, ◌++◌}
use mathlib.Core.Option.{some, none-ne-some, some-injective}
use native.Mathlib.Nat.{mul-le-mul_right, le_of_suc-le-suc}
use native.Mathlib.Omega.{arith}
use lib.ListN.{length, get_or, get_elem?, take}
use lib.Ieee.{Float, nan}
use Rattle.std.proofs.lemmas.List.{take_more}
use Rattle.lists.specs.Lists.{All, AllBelow, flat}
use Rattle.lists.specs.Writing.{Written}
use Rattle.lists.proofs.Pieces.{flat_more}
use Rattle.lists.proofs.Writing.{written_then, part_before}
use Rattle.decode.specs.Decode.{Ranges}
use Rattle.rules.specs.Patches.{Places, Table}
use Rattle.rules.specs.Inner.Sides.{Fits}
use Rattle.patches.specs.declared.finding.Records.{Records}
use Rattle.patches.specs.declared.forms.Side.{Side}
use Rattle.patches.specs.Inner.Forms.{own_of, table_of, places_of, TakenSide}
use Rattle.patches.specs.Inner.Records.{points_from, colours_from, point_in, colour_in, with_side, row_at}

-- ---- some places of a side, and one more

pub below_at : {k : ℕ} (l : List ℕ) (i : ℕ) → AllBelow k l → i < length l → get_or l i 0 < k
below_at [] i a h = absurd (omega arith)
below_at (x ∷ l) zero a h = a.0
below_at (x ∷ l) (suc i) a h = below_at l i a.1 (le_of_suc-le-suc h)

flat_taken : (f : ℕ → List Float) (l : List ℕ) (i : ℕ) → i < length l → flat f (take (i + 1) l) ≡ flat f (take i l) ++ f (get_or l i 0)
flat_taken f l i h = ap (flat f) (take_more l i 0 h) ∙ flat_more f (take i l) (get_or l i 0)

-- what stands before what was written stays
module _ {l o o' : List Float} {at p q : ℕ} (is : List ℕ) (i : ℕ) (h : i < length is) where
  pub point_then : (start : ℕ) → start + (get_or is i 0 * 2 + 2) ≤ at → Written l o at (flat (point_in l start) (take i is)) p
      → Written o o' p (point_in o start (get_or is i 0)) q → Written l o' at (flat (point_in l start) (take (i + 1) is)) q
  point_then start b w v =
      let same : point_in o start (get_or is i 0) ≡ point_in l start (get_or is i 0) =
      unfold point_in in part_before nan (start + get_or is i 0 * 2) 2 w (omega arith) in
      rw (flat_taken (point_in l start) is i h) (written_then w (rw same at v))

  pub colour_then : (n start : ℕ) → get_or is i 0 < 4 → start + 4 * (8 + n) ≤ at → Written l o at (flat (colour_in n l start) (take i is)) p
      → Written o o' p (colour_in n o start (get_or is i 0)) q → Written l o' at (flat (colour_in n l start) (take (i + 1) is)) q
  colour_then n start few b w v =
      let same : colour_in n o start (get_or is i 0) ≡ colour_in n l start (get_or is i 0) =
      unfold colour_in in part_before nan (start + get_or is i 0 * (8 + n)) (8 + n) w (omega (arith, mul-le-mul_right (8 + n) few)) in
      rw (flat_taken (colour_in n l start) is i h) (written_then w (rw same at v))

-- the colours of a side
pub colours_stay : (n start : ℕ) (is : List ℕ) {l o xs : List Float} {at p : ℕ} → AllBelow 4 is → Written l o at xs p → start + 4 * (8 + n) ≤ at
    → flat (colour_in n o start) is ≡ flat (colour_in n l start) is
unfolding flat colour_in
colours_stay n start [] a w h = refl
colours_stay n start (i ∷ is) a w h =
    ap₂ (λ (x y : List Float). x ++ y)
    (part_before nan (start + i * (8 + n)) (8 + n) w (omega (arith, mul-le-mul_right (8 + n) a.0)))
    (colours_stay n start is a.1 w h)

-- ---- a row of the table

pub side_fits : (k : ℕ) (T : Table) (i : ℕ) (side : Places) → All (Fits k) T → get_elem? T i ≡ some side → Fits k side
side_fits k [] i side a e = absurd (none-ne-some side e)
side_fits k (x ∷ T) zero side a e = rw (← (some-injective x side e)) a.0
side_fits k (x ∷ T) (suc i) side a e = side_fits k T i side a.1 e

module _ (m : Records) (R : Ranges) (o : List Float) (start pos : ℕ) where
  pub row_first : points_from m R (4 + own_of m.form) (pos + m.input.layout.flag)
      ++ colours_from m R 4 (pos + m.input.layout.flag + (4 + own_of m.form) * (2 * m.input.layout.coord))
      ≡ row_at m R o start 0 pos
  unfolding row_at
  row_first = refl

  pub row_next : (f : ℕ) (side : Side) → 1 ≤ f → TakenSide (table_of m.form) f side
      → with_side m o start (some (places_of side)) (points_from m R (own_of m.form) (pos + m.input.layout.flag))
      (colours_from m R 2 (pos + m.input.layout.flag + own_of m.form * (2 * m.input.layout.coord)))
      ≡ row_at m R o start f pos
  unfolding row_at
  row_next zero side h e = absurd (omega arith)
  row_next (suc f) side h e =
      let k : suc f - 1 ≡ f = omega arith in
      rw (rw k at e)
