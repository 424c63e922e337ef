-- The functions that take any source and widths: what their tests say, and what an input that holds these gives. Assumes nothing.
use Prim.Native.Nat.{ℕ, ◌+◌, ◌-◌, ◌*◌, ◌≤◌, ◌<◌}
use mathlib.Core.Path.{◌≡◌, refl, sym, ap, ◌∙◌}
use mathlib.Core.Bool.{Bool, true, false, ◌&&◌, and-eq-true_iff, and-false}
use mathlib.Core.List.{List, [], ◌∷◌}
use mathlib.Core.Logic.{◌↔◌}
use native.Mathlib.Nat.{mul-one, mul-le-mul_right}
use native.Mathlib.Omega.{arith}
use borrow.Author.Tests.{leb-true, le-leb, lt-leb, eqb-true, eq-eqb}
use lib.Dec.{leb, eqb}
use lib.ListN.{length, get_or, take, drop}
use lib.Ieee.{Float, nan}
use Rattle.std.specs.Borrow.{Bor}
use Rattle.lists.specs.Lists.{part}
use Rattle.lists.specs.Writing.{Placed}
use Rattle.lists.proofs.Pieces.{part_all, length_part, joined_same, get_d_singles}
use Rattle.lists.proofs.Parts.{part_between}
use Rattle.decode.specs.Decode.{Ranges}
use Rattle.colour.specs.Colour.{colour_row}
use Rattle.colour.specs.Inner.Places.{list_numbers, point_at, components_at, points_at, colours_at, vertex_at}
use Rattle.rows.specs.declared.Source.{Source}
use Rattle.rows.specs.declared.Source.TheVariants.{Bits, List as Listed}
use Rattle.rows.specs.declared.Input.{Input}
use Rattle.rows.specs.declared.any.Widths.{Widths}
use Rattle.rows.specs.Inner.Sources.{places, width_in, numbers_of}
use Rattle.rows.specs.Inner.Placing.{points_fit, colours_fit, corner_fits}
use Rattle.rows.specs.Inner.Any.{taken_by, fair, any_points_fit, any_colours_fit, any_corner_fits, Near, Holds}
use Rattle.rows.proofs.Sources.{point_of_list, points_of_list, components_of_list}

leb_iff : (a b : ℕ) → (leb a b ≡ true) ↔ (a ≤ b)
leb_iff a b = (leb-true a b, le-leb a b)

eqb_iff : (a b : ℕ) → (eqb a b ≡ true) ↔ (a ≡ b)
eqb_iff a b = (eqb-true a b, eq-eqb a b)

pub placed_alike : {ok ok' : Bool} {entry exit xs xs' : List Float} {at next : ℕ} → Placed ok entry exit at xs next → ok' ≡ ok → xs' ≡ xs
    → Placed ok' entry exit at xs' next
placed_alike w e f = rw (e, f) w

-- ---- a part of a list

part_same : (l m : List Float) (p q n : ℕ)
    → ((j : ℕ) → j < n → get_or l (p + j) nan ≡ get_or m (q + j) nan)
    → part nan l p n ≡ part nan m q n
unfolding part
part_same l m p q n h = joined_same n _ _ (λ j b. ap (λ (x : Float). x ∷ []) (h j b))

module _ (l : List Float) (from size : ℕ) where
  pub part_element : (i q : ℕ) → i < size → from + i ≡ q → get_or (part nan l from size) i nan ≡ get_or l q nan
  unfolding part
  part_element i q h e = get_d_singles (λ (j : ℕ). get_or l (from + j) nan) nan size i h ∙ ap (λ (r : ℕ). get_or l r nan) e

  pub part_inside : (i q n : ℕ) → i + n ≤ size → from + i ≡ q → part nan (part nan l from size) i n ≡ part nan l q n
  part_inside i q n h e = part_same (part nan l from size) l i q n (λ j b. part_element (i + j) (q + j) (omega arith) (omega arith))

  pub part_near : from + size ≤ length l → size ≤ 134217728 → length (take (from + size - from) (drop from l)) ≤ 134217728
  part_near there few = rw (part_between nan l from size there, length_part) few

module _ (l : List Float) (from size : ℕ) where
  pub point_of_part : 2 ≤ size → point_at (list_numbers l) 1 from ≡ point_at (list_numbers (part nan l from size)) 1 0
  point_of_part h =
      let first = part_element l from size 0 from (omega arith) (omega arith) in
      let second = part_element l from size (0 + 1) (from + 1) (omega arith) (omega arith) in
      rw (point_of_list l from, point_of_list (part nan l from size) 0, first, second)

  pub components_of_part : (n q i : ℕ) → i + n ≤ size → from + i ≡ q
      → components_at (list_numbers l) 1 n q ≡ components_at (list_numbers (part nan l from size)) 1 n i
  components_of_part n q i h e =
      rw (components_of_list l n q, components_of_list (part nan l from size) n i)
      (sym (part_inside l from size i q n h e))

-- ---- the input

pub fair_widths : (S : Source) (w : Widths) → fair S w ≡ true
    → w.n ≤ 32 × ((1 ≤ w.coord × w.coord ≤ 32) × ((1 ≤ w.comp × w.comp ≤ 32) × taken_by w S ≡ true))
unfolding fair
fair_widths S w h = simp (and-eq-true_iff, leb_iff) at h

singles : (w : Widths) → eqb w.coord 1 && eqb w.comp 1 ≡ true → w.coord ≡ 1 × w.comp ≡ 1
singles w h = simp (and-eq-true_iff, eqb_iff) at h

pub taken_short : (S : Source) (w : Widths) → taken_by w S ≡ true → Near S → places S ≤ 134217728
taken_short (Bits s) w h near = let f = leb-true (length s.now) 16777216 h in omega arith
taken_short (Listed vs) w h near = near

pub taken_widths : (S : Source) (w : Widths) → taken_by w S ≡ true → w.coord ≡ width_in S w.coord × w.comp ≡ width_in S w.comp
taken_widths (Bits s) w h = (refl, refl)
taken_widths (Listed vs) w h = singles w h

-- in a list
listed : (vs : Bor (List Float)) (w : Widths) → fair (Listed vs) w ≡ true → w.coord ≡ 1 × w.comp ≡ 1
listed vs w h =
    let f = fair_widths (Listed vs) w h in
    taken_widths (Listed vs) w f.1.1.1

-- ---- points

module _ (S : Source) (w : Widths) (k p at room : ℕ) where
  pub unfair_points : fair S w ≡ false → any_points_fit S w k p at room ≡ false
  unfolding any_points_fit
  unfair_points h = rw h

  pub many_points : 16 < k → any_points_fit S w k p at room ≡ false
  unfolding any_points_fit
  many_points h = simp (lt-leb k 16 h, and-false)

  pub points_fit_alike : (I : Input) → fair S w ≡ true → Holds S w I → any_points_fit S w k p at room ≡ points_fit I k p at room
  unfolding any_points_fit points_fit
  points_fit_alike I h same = rw (h, same.source_is, same.coord_is)

-- of a list the part that is taken is lent
module _ (vs : Bor (List Float)) (w : Widths) (fair_is : fair (Listed vs) w ≡ true) (k p at room : ℕ) where
  pub list_points_missing : length vs.now < p + 2 * k → any_points_fit (Listed vs) w k p at room ≡ false
  unfolding any_points_fit
  list_points_missing h =
      let one = (listed vs w fair_is).0 in
      let far : length vs.now < p + k * (2 * w.coord) = rw one (omega arith) in
      simp (lt-leb (p + k * (2 * w.coord)) (length vs.now) far, and-false)

  module _ (part_of : Bor (List Float)) (I : Input) (same : Holds (Listed part_of) w I)
      (there : p + 2 * k ≤ length vs.now) (is : part_of.now ≡ part nan vs.now p (2 * k)) where
    pub list_points_fit : any_points_fit (Listed vs) w k p at room ≡ points_fit I k 0 at room
    unfolding any_points_fit points_fit
    list_points_fit =
        let one = (listed vs w fair_is).0 in
        let whole : p + k * (2 * 1) ≤ length vs.now = omega arith in
        let size = length_part nan vs.now p (2 * k) in
        let lent : 0 + k * (2 * 1) ≤ length part_of.now = rw is (omega arith) in
        rw (fair_is, same.source_is, same.coord_is, one, le-leb _ _ whole, le-leb _ _ lent)

    pub list_points : (R : Ranges) → points_at (numbers_of (Listed vs) R) w.coord k p ≡ points_at (numbers_of I.source R) I.layout.coord k 0
    unfolding numbers_of
    list_points R =
        let one = (listed vs w fair_is).0 in
        let size = length_part nan vs.now p (2 * k) in
        rw (same.source_is, same.coord_is, one, points_of_list vs.now k p, points_of_list part_of.now k 0, is)
        (sym (rw size at (part_all nan (part nan vs.now p (2 * k)))))

-- ---- colours

module _ (S : Source) (w : Widths) (k p at room : ℕ) where
  pub unfair_colours : fair S w ≡ false → any_colours_fit S w k p at room ≡ false
  unfolding any_colours_fit
  unfair_colours h = rw h

  pub many_colours : 4 < k → any_colours_fit S w k p at room ≡ false
  unfolding any_colours_fit
  many_colours h = simp (lt-leb k 4 h, and-false)

  pub colours_fit_alike : (I : Input) → fair S w ≡ true → Holds S w I → any_colours_fit S w k p at room ≡ colours_fit I k p at room
  unfolding any_colours_fit colours_fit
  colours_fit_alike I h same = rw (h, same.source_is, same.comp_is, same.n_is)

-- no colours take many places
pub colours_few : (k n : ℕ) → k ≤ 4 → n ≤ 32 → k * n ≤ 128
colours_few k n h f = let g = mul-le-mul_right n h in omega arith

module _ (vs : Bor (List Float)) (w : Widths) (fair_is : fair (Listed vs) w ≡ true) (k p at room : ℕ) where
  pub list_colours_missing : length vs.now < p + k * w.n → any_colours_fit (Listed vs) w k p at room ≡ false
  unfolding any_colours_fit
  list_colours_missing h =
      let one = (listed vs w fair_is).1 in
      let far : length vs.now < p + k * (w.n * w.comp) = rw (one, mul-one w.n) h in
      simp (lt-leb (p + k * (w.n * w.comp)) (length vs.now) far, and-false)

  module _ (part_of : Bor (List Float)) (I : Input) (same : Holds (Listed part_of) w I)
      (there : p + k * w.n ≤ length vs.now) (is : part_of.now ≡ part nan vs.now p (k * w.n)) where
    pub list_colours_fit : any_colours_fit (Listed vs) w k p at room ≡ colours_fit I k 0 at room
    unfolding any_colours_fit colours_fit
    list_colours_fit =
        let one = (listed vs w fair_is).1 in
        let size = length_part nan vs.now p (k * w.n) in
        let lent : 0 + k * w.n ≤ length part_of.now = rw is (omega arith) in
        rw (fair_is, same.source_is, same.comp_is, same.n_is, one, mul-one w.n, le-leb _ _ there, le-leb _ _ lent)

    pub list_colours : (R : Ranges) → colours_at (numbers_of (Listed vs) R) w.comp w.n k p
        ≡ colours_at (numbers_of I.source R) I.layout.comp I.layout.n k 0
    unfolding numbers_of colours_at
    list_colours R =
        let one = (listed vs w fair_is).1 in
        rw (same.source_is, same.comp_is, same.n_is, one, mul-one w.n, is)
        (joined_same k _ _ (λ i b.
        let g = mul-le-mul_right w.n b in
        let inside : i * w.n + w.n ≤ k * w.n = omega arith in
        ap colour_row (components_of_part vs.now p (k * w.n) w.n (p + i * w.n) (0 + i * w.n) (omega arith) (omega arith))))

-- ---- a vertex

module _ (S : Source) (w : Widths) (p side at room : ℕ) where
  pub unfair_corner : fair S w ≡ false → any_corner_fits S w p side at room ≡ false
  unfolding any_corner_fits
  unfair_corner h = rw h

  pub corner_fits_alike : (I : Input) → fair S w ≡ true → Holds S w I → any_corner_fits S w p side at room ≡ corner_fits I p side at room
  unfolding any_corner_fits
  corner_fits_alike I h same = rw (h, same.source_is, same.coord_is, same.comp_is, same.n_is)

module _ (vs : Bor (List Float)) (w : Widths) (fair_is : fair (Listed vs) w ≡ true) (p side at room : ℕ) where
  pub list_corner_missing : length vs.now < p + (2 + w.n) → any_corner_fits (Listed vs) w p side at room ≡ false
  unfolding any_corner_fits
  list_corner_missing h =
      let one = listed vs w fair_is in
      let far : length vs.now < p + (2 * w.coord + w.n * w.comp) = rw (one.0, one.1, mul-one w.n) h in
      simp (lt-leb (p + (2 * w.coord + w.n * w.comp)) (length vs.now) far, and-false)

  module _ (part_of : Bor (List Float)) (I : Input) (same : Holds (Listed part_of) w I)
      (there : p + (2 + w.n) ≤ length vs.now) (is : part_of.now ≡ part nan vs.now p (2 + w.n)) where
    pub list_corner_fits : any_corner_fits (Listed vs) w p side at room ≡ corner_fits I 0 side at room
    unfolding any_corner_fits
    list_corner_fits =
        let one = listed vs w fair_is in
        let size = length_part nan vs.now p (2 + w.n) in
        let lent : 0 + (2 + w.n) ≤ length part_of.now = rw is (omega arith) in
        rw (fair_is, same.source_is, same.coord_is, same.comp_is, same.n_is, one.0, one.1, mul-one w.n, le-leb _ _ there, le-leb _ _ lent)

    pub list_vertex : (R : Ranges) → vertex_at (numbers_of (Listed vs) R) 1 1 w.n p
        ≡ vertex_at (numbers_of I.source R) I.layout.coord I.layout.comp I.layout.n 0
    unfolding numbers_of vertex_at
    list_vertex R =
        let one = listed vs w fair_is in
        let point = point_of_part vs.now p (2 + w.n) (omega arith) in
        let components = components_of_part vs.now p (2 + w.n) w.n (p + 2) 2 (omega arith) (omega arith) in
        rw (same.source_is, same.coord_is, same.comp_is, same.n_is, one.0, one.1, is) (rw (point, components))
