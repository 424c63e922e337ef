-- Patches of f64, one after the other. Assumes nothing.
use Prim.Native.Nat.{ℕ, suc, ◌+◌, ◌*◌, ◌/◌, ◌%◌, ◌≤◌, ◌<◌}
use mathlib.Core.Path.{◌≡◌, refl, sym, ap, ap₂, ◌∙◌}
use mathlib.Core.List.{List, [], ◌∷◌, ◌++◌, map-id, append-nil}
use native.Mathlib.Nat.{add-zero, zero-mul, suc-mul, mul-le-mul_right, mul-div_cancel}
use Rattle.std.proofs.Math.Nat.{le-div_iff_mul-le, mod-eq-sub-div-mul, div-mul-le_self}
use Rattle.std.proofs.lemmas.Nat.{div-mul-add}
use native.Mathlib.Numerals.{add-one}
use native.Mathlib.Omega.{arith}
use lib.Ieee.{Float, nan}
use lib.ListN.{length, take, drop, length-append, length-drop}
use lib.Seq.{take_all, take_at, drop_at, drop-drop, length-take-le}
use Rattle.lists.specs.Lists.{joined, part, flat, All}
use Rattle.lists.specs.Writing.{Written}
use Rattle.lists.proofs.Pieces.{joined_same, length_singles, length_part, part_take, flat_joined}
use Rattle.lists.proofs.Writing.{written_start, written_more}
use Rattle.rules.specs.Patches.{Patch, patch}
use Rattle.rules.specs.Meshes.{groups}
use Rattle.rules.proofs.Lists.{all_joined}
use Rattle.rules.proofs.Meshes.{Numbered, length-groups}
use Rattle.tensor.specs.Turning.{rounded, tensor_patch, numbers_of}
use Rattle.tensor.specs.Outcomes.{coons_size, read_patches}
use Rattle.tensor.specs.Inner.Placing.{spaced, inner_along, read_patch}
use Rattle.tensor.proofs.Rows.{groups_in_part, groups_of_part, flat_groups, turned_row}

-- what the patch that begins at index from is written as
unfoldable pub row_at : ℕ → List Float → ℕ → List Float
row_at n vs from = numbers_of (tensor_patch rounded (read_patch n vs from))

-- ---- a row

-- the border copied, the inner points placed, the colours copied
pub float_row : (n : ℕ) (vs l : List Float) → length vs ≡ coons_size n → length l ≡ 8
    → take 24 vs
    ++ (spaced (spaced l 0 (inner_along rounded (groups nan (take 24 vs) 0 12 2) 0)) 1 (inner_along rounded (groups nan (take 24 vs) 0 12 2) 1)
    ++ drop 24 vs)
    ≡ numbers_of (tensor_patch rounded (read_patch n vs 0))
float_row n vs l size eight =
    let border : take 24 vs ≡ part nan vs 0 24 = sym (part_take nan vs 0 24 (omega arith)) in
    let long : length (take 24 vs) ≡ 24 = length-take-le 24 vs (omega arith) in
    let points : groups nan (take 24 vs) 0 12 2 ≡ groups nan vs 0 12 2 =
    ap (λ (b : List Float). groups nan b 0 12 2) border ∙ groups_of_part nan vs 0 12 2 in
    let rest : length (drop 24 vs) ≡ 4 * (8 + n) = rw length-drop (omega arith) in
    let colours : flat (λ x. x) (groups nan vs 24 4 (8 + n)) ≡ drop 24 vs =
    flat_groups nan vs 24 4 (8 + n) ∙ part_take nan vs 24 (4 * (8 + n)) (omega arith) ∙ take_all (4 * (8 + n)) (drop 24 vs) (omega arith) in
    let row = turned_row rounded (read_patch n vs 0) (take 24 vs) l long eight points in
    rw (map-id, map-id, colours) at row

-- ---- all rows

pub next_place : (k size : ℕ) → (k + 1) * size ≡ k * size + size
next_place k size = rw (add-one, suc-mul)

whole_times : (x k : ℕ) → 0 < k → x % k ≡ 0 → x ≡ x / k * k
whole_times x k h e = omega (arith, mod-eq-sub-div-mul x k, div-mul-le_self x k)

pub rows_read : (n : ℕ) (vs : List Float) (count : ℕ) → length vs ≡ count * coons_size n
    → joined count (λ (k : ℕ). row_at n vs (k * coons_size n)) ≡ flat (λ p. numbers_of (tensor_patch rounded p)) (read_patches n vs)
unfolding read_patches flat row_at
rows_read n vs count h =
    let row : ℕ → List Float = λ (k : ℕ). row_at n vs (k * coons_size n) in
    let all : ℕ = length vs / coons_size n in
    let times : all ≡ count = ap (λ (k : ℕ). k / coons_size n) h ∙ mul-div_cancel count {n = coons_size n} (omega arith) in
    sym
    (flat_joined (λ p. numbers_of (tensor_patch rounded p)) all (λ (k : ℕ). read_patch n vs (k * coons_size n) ∷ [])
    ∙ joined_same all (λ (k : ℕ). row k ++ []) row (λ k b. append-nil (row k))
    ∙ ap (λ (c : ℕ). joined c row) times)

-- what is written of the list, and what is left of it
pub record Pass (n : ℕ) (vs l o : List Float) (at : ℕ) (rest : List Float) : Type 0 where
  pub done : ℕ
  pub left : drop (done * coons_size n) vs ≡ rest
  pub all : done * coons_size n + length rest ≡ length vs
  pub place : at ≡ done * (coons_size n + 8)
  pub written : Written l o 0 (joined done (λ (k : ℕ). row_at n vs (k * coons_size n))) at

pub pass_start : (n : ℕ) (vs l : List Float) → Pass n vs l l 0 vs
pass_start n vs l =
    record {
      done = 0;
      left = rw zero-mul refl;
      all = rw zero-mul (omega arith);
      place = rw zero-mul refl;
      written = written_start l 0 _ (omega arith);
    }

module _ {n : ℕ} {vs l o : List Float} {at : ℕ} {rest : List Float} (p : Pass n vs l o at rest) where
  -- the patch x comes next
  module _ (x after : List Float) (e : rest ≡ x ++ after) (long : length x ≡ coons_size n) where
    fits : p.done * coons_size n + coons_size n ≤ length vs
    fits = omega (arith, p.all, ap length e, length-append x after)

    pub pass_room : length vs / coons_size n * (coons_size n + 8) ≤ length l → at + (coons_size n + 8) ≤ length l
    pass_room room =
        let more : suc p.done * coons_size n ≤ length vs = rw suc-mul fits in
        let there : suc p.done ≤ length vs / coons_size n = (le-div_iff_mul-le {k = coons_size n} (omega arith)).1 more in
        omega (arith, p.place, mul-le-mul_right (coons_size n + 8) there, suc-mul p.done (coons_size n + 8))

    row_is : numbers_of (tensor_patch rounded (read_patch n x 0)) ≡ row_at n vs (p.done * coons_size n)
    unfolding row_at
    row_is =
        let at : ℕ = p.done * coons_size n in
        let is : part nan vs at (coons_size n) ≡ x =
        part_take nan vs at (coons_size n) fits ∙ ap (take (coons_size n)) (p.left ∙ e) ∙ take_at x after (coons_size n) long in
        ap (λ (q : Patch (List Float) (List Float)). numbers_of (tensor_patch rounded q))
        (ap₂ (λ (ps cs : List (List Float)). patch ps cs)
        (ap (λ (v : List Float). groups nan v 0 12 2) (sym is) ∙ groups_in_part nan vs at (coons_size n) 0 12 2 (omega arith)
        ∙ ap (λ (i : ℕ). groups nan vs i 12 2) (add-zero at))
        (ap (λ (v : List Float). groups nan v 24 4 (8 + n)) (sym is) ∙ groups_in_part nan vs at (coons_size n) 24 4 (8 + n) (omega arith)))

    pub pass_next : {o' : List Float} {next : ℕ} → next ≡ at + (coons_size n + 8)
        → Written o o' at (numbers_of (tensor_patch rounded (read_patch n x 0))) next → Pass n vs l o' next after
    pass_next f w =
        record {
          done = p.done + 1;
          left =
              rw (next_place p.done (coons_size n))
              (sym (drop-drop (coons_size n) (p.done * coons_size n) vs) ∙ ap (drop (coons_size n)) (p.left ∙ e) ∙ drop_at x after (coons_size n) long);
          all = rw (next_place p.done (coons_size n)) (omega (arith, p.all, ap length e, length-append x after));
          place = rw (next_place p.done (coons_size n + 8)) (omega (arith, p.place));
          written = written_more p.done (λ (k : ℕ). row_at n vs (k * coons_size n)) p.written (rw row_is at w);
        }

  pub pass_end : length rest < coons_size n → length vs % coons_size n ≡ 0
      → Written l o 0 (flat (λ p. numbers_of (tensor_patch rounded p)) (read_patches n vs)) at
  pass_end short whole =
      let size : ℕ = coons_size n in
      let count : length vs / coons_size n ≡ p.done =
      ap (λ (k : ℕ). k / coons_size n) (sym p.all) ∙ div-mul-add p.done (coons_size n) (length rest) short in
      let times : length vs ≡ p.done * coons_size n = rw count at (whole_times (length vs) (coons_size n) (omega arith) whole) in
      rw (← (rows_read n vs p.done times)) p.written

pub length_read : (n : ℕ) (vs : List Float) → length (read_patches n vs) ≡ length vs / coons_size n
unfolding read_patches
length_read n vs = length_singles _ (length vs / coons_size n)

groups_sized : (vs : List Float) (from k m : ℕ) → All (λ (x : List Float). length x ≡ m) (groups nan vs from k m)
unfolding groups
groups_sized vs from k m = all_joined _ k _ (λ i b. (length_part nan vs (from + i * m) m, tt))

pub read_numbered : (n : ℕ) (vs : List Float) → All (Numbered 12 4 (8 + n)) (read_patches n vs)
unfolding read_patches
read_numbered n vs =
    all_joined _ (length vs / coons_size n) _
    (λ k b.
    let at : ℕ = k * coons_size n in (
      (
        (length-groups nan vs at 12 2, length-groups nan vs (at + 24) 4 (8 + n)),
        (groups_sized vs at 12 2, groups_sized vs (at + 24) 4 (8 + n)),
      ),
      tt,
    ))
