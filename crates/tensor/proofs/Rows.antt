-- What a turned patch is written as. Assumes nothing.
use Prim.Native.Nat.{ℕ, zero, suc, ◌+◌, ◌-◌, ◌*◌, ◌≤◌}
use mathlib.Core.Path.{◌≡◌, refl, sym, ap, ap₂, ◌∙◌}
use mathlib.Core.List.{List, [], ◌∷◌, ◌++◌, map, map-append, append_assoc, append-nil}
use native.Mathlib.Nat.{add-zero, add_assoc, zero-mul, suc-mul, mul-le-mul_right}
use native.Mathlib.Omega.{arith}
use lib.ListN.{length, get_or, take, drop, length-append, length-map}
use lib.Seq.{drop-drop}
use borrow.Rule.Slice.PartMut.{put_mid}
use Rattle.lists.specs.Lists.{joined, part, flat, All}
use Rattle.lists.proofs.Pieces.{joined_same, get_d_singles, part_all, part_then, flat_append}
use Rattle.lists.specs.Writing.{put, Written}
use Rattle.lists.proofs.Parts.{written_whole}
use Rattle.rules.specs.Patches.{Patch, patch_row}
use Rattle.rules.specs.Meshes.{groups}
use Rattle.rules.proofs.Lists.{all_map, length_flat_all}
use Rattle.rules.proofs.Meshes.{Numbered}
use Rattle.tensor.specs.Turning.{Turning, inner_names, inner_point, tensor_patch, numbers_of}
use Rattle.tensor.specs.Inner.Placing.{spaced, inner_along}
use Rattle.tensor.proofs.Placing.{inner_placed}

-- ---- what is left, and what is written, of a list

pub nothing_left : {A : Type 0} (l : List A) → length l ≡ 0 → l ≡ []
nothing_left [] e = refl
nothing_left (x ∷ l) e = absurd (omega arith)

-- a row is written where it stands
pub row_written : {A : Type 0} (l : List A) (at end : ℕ) {ys xs : List A} → ys ≡ xs → at ≤ end → length ys ≡ end - at → end ≤ length l
    → Written l (put_mid at (end - at) l ys) at xs end
unfolding put
row_written l at end {ys} {xs} same f e h =
    let all : at + (end - at) ≡ at + length xs = omega (arith, ap length same) in
    record {
      held = ap₂ (λ (x y : List _). take at l ++ (x ++ y)) same (drop-drop (end - at) at l ∙ ap (λ (m : ℕ). drop m l) all);
      room = omega arith;
      after = omega arith;
    }

-- ---- groups of numbers

module _ {A : Type 0} (d : A) (l : List A) where
  part_of_part : (from n i k : ℕ) → i + k ≤ n → part d (part d l from n) i k ≡ part d l (from + i) k
  unfolding part
  part_of_part from n i k h =
      joined_same k (λ (j : ℕ). get_or (part d l from n) (i + j) d ∷ []) (λ (j : ℕ). get_or l (from + i + j) d ∷ [])
      (λ j b.
      ap (λ (v : A). v ∷ [])
      (get_d_singles (λ (m : ℕ). get_or l (from + m) d) d n (i + j) (omega arith) ∙ ap (λ (m : ℕ). get_or l m d) (sym (add_assoc from i j))))

  -- the groups of a copy, or of a piece of it
  pub groups_in_part : (from n i k m : ℕ) → i + k * m ≤ n → groups d (part d l from n) i k m ≡ groups d l (from + i) k m
  unfolding groups
  groups_in_part from n i k m h =
      joined_same k (λ (j : ℕ). part d (part d l from n) (i + j * m) m ∷ []) (λ (j : ℕ). part d l (from + i + j * m) m ∷ [])
      (λ j b.
      ap (λ (v : List A). v ∷ [])
      (part_of_part from n (i + j * m) m (omega (arith, mul-le-mul_right m b, suc-mul j m)) ∙ ap (λ (p : ℕ). part d l p m) (sym (add_assoc from i (j * m)))))

  pub groups_of_part : (from k m : ℕ) → groups d (part d l from (k * m)) 0 k m ≡ groups d l from k m
  groups_of_part from k m = groups_in_part from (k * m) 0 k m (omega arith) ∙ ap (λ (p : ℕ). groups d l p k m) (add-zero from)

  pub flat_groups : (from k m : ℕ) → flat (λ x. x) (groups d l from k m) ≡ part d l from (k * m)
  unfolding groups flat joined part
  flat_groups from zero m = rw zero-mul
  flat_groups from (suc k) m =
      flat_append (λ (x : List A). x) (groups d l from k m) (part d l (from + k * m) m ∷ [])
      ∙ ap₂ (λ (x y : List A). x ++ y) (flat_groups from k m) (append-nil (part d l (from + k * m) m))
      ∙ sym (part_then d l from (k * m) m)
      ∙ ap (part d l from) (sym (suc-mul k m))

-- ---- a patch

flat_each : {A B : Type 0} (f : A → B) (xs : List (List A)) → flat (λ x. x) (map (map f) xs) ≡ map f (flat (λ x. x) xs)
unfolding flat
flat_each f [] = refl
flat_each f (x ∷ xs) = rw (flat_each f xs, map-append)

module _ {A B : Type 0} (T : Turning A B) where
  -- its border, the inner four, its colours
  pub row_parts : (p : Patch (List A) (List A))
      → numbers_of (tensor_patch T p)
      ≡ map T.border (flat (λ x. x) p.points)
      ++ (flat (λ x. x) (map (inner_point T p.points) inner_names) ++ map T.colour (flat (λ x. x) p.colours))
  unfolding patch_row tensor_patch
  row_parts p =
      let inner : List (List B) = map (inner_point T p.points) inner_names in
      ap₂ (λ (x y : List B). x ++ y)
      (flat_append (λ (x : List B). x) (map (map T.border) p.points) inner
      ∙ ap (λ (x : List B). x ++ flat (λ (y : List B). y) inner) (flat_each T.border p.points))
      (flat_each T.colour p.colours)
      ∙ append_assoc (map T.border (flat (λ x. x) p.points)) (flat (λ x. x) inner) (map T.colour (flat (λ x. x) p.colours))

  -- the border, the inner four along one axis and along the other, the colours
  pub turned_row : (p : Patch (List A) (List A)) (border : List A) (l : List B) → length border ≡ 24 → length l ≡ 8
      → groups T.missing border 0 12 2 ≡ p.points
      → map T.border border
      ++ (spaced (spaced l 0 (inner_along T (groups T.missing border 0 12 2) 0)) 1 (inner_along T (groups T.missing border 0 12 2) 1)
      ++ map T.colour (flat (λ x. x) p.colours))
      ≡ numbers_of (tensor_patch T p)
  turned_row p border l long eight points =
      let all : part T.missing border 0 24 ≡ border = ap (part T.missing border 0) (sym long) ∙ part_all T.missing border in
      let is : border ≡ flat (λ x. x) p.points = sym all ∙ sym (flat_groups T.missing border 0 12 2) ∙ ap (flat (λ (x : List A). x)) points in
      let placed : spaced (spaced l 0 (inner_along T p.points 0)) 1 (inner_along T p.points 1) ≡ flat (λ x. x) (map (inner_point T p.points) inner_names) =
      written_whole (inner_placed T p.points l 0 (omega arith)) eight in
      rw (row_parts p, points, placed) (ap (λ (b : List A). map T.border b ++ (flat (λ x. x) (map (inner_point T p.points) inner_names) ++ map T.colour (flat (λ x. x) p.colours))) is)

  pub length-row : (m : ℕ) (p : Patch (List A) (List A)) → Numbered 12 4 m p → length (numbers_of (tensor_patch T p)) ≡ 32 + 4 * m
  unfolding flat
  length-row m p h =
      let points = length_flat_all (λ (x : List A). x) 2 p.points h.1.0 in
      let colours = length_flat_all (λ (x : List A). x) m p.colours h.1.1 in
      let four : length p.colours * m ≡ 4 * m = ap (λ (k : ℕ). k * m) h.0.1 in
      simp (row_parts p, length-append, length-map) (omega arith)

  -- every row is as long
  pub length-rows : (m : ℕ) (ps : List (Patch (List A) (List A))) → All (Numbered 12 4 m) ps
      → length (flat (λ p. numbers_of (tensor_patch T p)) ps) ≡ length ps * (32 + 4 * m)
  length-rows m ps h =
      length_flat_all (λ (p : Patch (List A) (List A)). numbers_of (tensor_patch T p)) (32 + 4 * m) ps (all_map _ _ ps (length-row m) h)
