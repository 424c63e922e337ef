-- What a test that all is there says, and the plain facts that make it hold. Assumes nothing.
use Prim.Native.Nat.{ℕ, ◌+◌, ◌*◌, ◌≤◌, ◌<◌}
use mathlib.Core.Path.{◌≡◌, refl}
use mathlib.Core.Logic.{◌↔◌}
use mathlib.Core.Bool.{Bool, true, false, ◌&&◌, cond, and-eq-true_iff}
use native.Mathlib.Omega.{arith}
use lib.Dec.{leb, ltb}
use borrow.Author.Tests.{leb-true, le-leb, ltb-true, ltb-false}
use Rattle.rows.specs.declared.Input.{Input}
use Rattle.rows.specs.Inner.Sources.{places}
use Rattle.rows.specs.Inner.Placing.{points_fit, colours_fit, copy_fits, row_index, rows_fit, vertex_places, corner_fits}

leb_iff : (a b : ℕ) → (leb a b ≡ true) ↔ (a ≤ b)
leb_iff a b = (leb-true a b, le-leb a b)

-- ---- points and colours

module _ (I : Input) (k p at room : ℕ) where
  pub points_fit_iff : (points_fit I k p at room ≡ true) ↔ (k ≤ 16 × (p + k * (2 * I.layout.coord) ≤ places I.source × at + 2 * k ≤ room))
  unfolding points_fit
  points_fit_iff = (λ t. simp (and-eq-true_iff, leb_iff) at t, λ h. simp (and-eq-true_iff, leb_iff) h)

  pub colours_fit_iff : (colours_fit I k p at room ≡ true)
      ↔ (k ≤ 4 × (p + k * (I.layout.n * I.layout.comp) ≤ places I.source × at + k * (8 + I.layout.n) ≤ room))
  unfolding colours_fit
  colours_fit_iff = (λ t. simp (and-eq-true_iff, leb_iff) at t, λ h. simp (and-eq-true_iff, leb_iff) h)

-- ---- copies

pub copy_fits_iff : (size from at room : ℕ) → (copy_fits size from at room ≡ true) ↔ (from + size ≤ at × at + size ≤ room)
copy_fits_iff size from at room = (λ t. simp (and-eq-true_iff, leb_iff) at t, λ h. simp (and-eq-true_iff, leb_iff) h)

-- ---- a vertex with a side

module _ (size side at room : ℕ) where
  pub rows_there : rows_fit size side at room ≡ true → (row_index side size at + size ≤ room) × (side < at → side + size ≤ at)
  unfolding rows_fit
  rows_there t = by_side (ltb side at) refl
    where
      by_side : (b : Bool) → ltb side at ≡ b → (row_index side size at + size ≤ room) × (side < at → side + size ≤ at)
      by_side true q =
          let g : side + size ≤ at × at + 3 * size ≤ room = simp (and-eq-true_iff, leb_iff) at (rw q at t) in
          (rw q (omega (arith, g.1)), λ h. g.0)
      by_side false q =
          let none : at ≤ side = ltb-false side at q in
          (rw q (leb-true _ _ (rw q at t)), λ h. omega (arith, none, h))

  pub rows_fit_lem : row_index side size at + size ≤ room → (side < at → side + size ≤ at) → rows_fit size side at room ≡ true
  unfolding rows_fit
  rows_fit_lem h b = by_side (ltb side at) refl
    where
      by_side : (t : Bool) → ltb side at ≡ t → cond t (leb (side + size) at && leb (at + 3 * size) room) (leb (at + size) room) ≡ true
      by_side true q =
          let first = b (ltb-true _ _ q) in
          let last : at + 2 * size + size ≤ room = rw q at h in
          let all : at + 3 * size ≤ room = omega arith in
          rw (le-leb _ _ first, le-leb _ _ all)
      by_side false q =
          let all : at + size ≤ room = rw q at h in
          rw (le-leb _ _ all)

pub corner_there : (I : Input) (p side at room : ℕ) → corner_fits I p side at room ≡ true
    → (row_index side (10 + I.layout.n) at + (10 + I.layout.n) ≤ room) × (side < at → side + (10 + I.layout.n) ≤ at) × (p + vertex_places I ≤ places I.source)
corner_there I p side at room t =
    let f : rows_fit (10 + I.layout.n) side at room ≡ true × p + vertex_places I ≤ places I.source = simp (and-eq-true_iff, leb_iff) at t in
    let g = rows_there (10 + I.layout.n) side at room f.0 in
    (g.0, g.1, f.1)

pub corner_fits_lem : (I : Input) (p side at room : ℕ) → row_index side (10 + I.layout.n) at + (10 + I.layout.n) ≤ room
    → (side < at → side + (10 + I.layout.n) ≤ at) → p + vertex_places I ≤ places I.source → corner_fits I p side at room ≡ true
corner_fits_lem I p side at room h b there = simp (and-eq-true_iff, leb_iff) (rows_fit_lem (10 + I.layout.n) side at room h b, there)
