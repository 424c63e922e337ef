-- What a reader of Type 6 answers is taken apart into its own patches. Assumes nothing.
use mathlib.Core.Path.{◌≡◌, refl, sym, ap, ap₂, ◌∙◌}
use mathlib.Core.List.{List, [], ◌∷◌, ◌++◌, map, append_assoc, append-nil}
use mathlib.Core.Option.{none}
use Prim.Native.Nat.{ℕ, ◌+◌, ◌*◌, ◌/◌, ◌%◌}
use native.Mathlib.Nat.{zero-mul, zero-add, suc-mul, mul-div_cancel, mul-mod_left}
use native.Mathlib.Omega.{arith}
use lib.ListN.{length, length-append, length-map}
use lib.Ieee.{Float, nan}
use Rattle.lists.specs.Lists.{joined, part, flat, All}
use Rattle.lists.proofs.Pieces.{joined_same, length_singles, part_middle}
use Rattle.rules.specs.Patches.{Patch, patch, sides, Piece, mesh, patch_row}
use Rattle.rules.specs.Meshes.{Source, groups, pieces, patches, patch_mesh}
use Rattle.rules.proofs.Lists.{all_map, length_flat_all}
use Rattle.rules.proofs.Tables.{sides_fit}
use Rattle.rules.proofs.Patches.{each, each_piece, mesh_decoded}
use Rattle.rules.proofs.Meshes.{Numbered, to_whole, patches_numbered}
use Rattle.rules.proofs.Rows.{length-patch_row, numbered_rows, length-patch_mesh}
use Rattle.meshes.proofs.Parts.{joined_first}
use Rattle.tensor.specs.Turning.{rounded, tensor_patch}
use Rattle.tensor.specs.Outcomes.{coons_size, read_patches}
use Rattle.tensor.proofs.Sharing.{Whole, tensor_pieces, turned_mesh}

all_mapped : {A B : Type 0} (P : B → Type 0) (f : A → B) (l : List A) → All (λ (x : A). P (f x)) l → All P (map f l)
all_mapped P f [] h = tt
all_mapped P f (x ∷ l) h = (h.0, all_mapped P f l h.1)

-- ---- what is written one after the other is found again

module _ {P B Q : Type 0} (f : P → List B) (g : P → Q) (cut : List B → ℕ → Q) (m : ℕ) where
  -- x is written as m elements, and found again where they stand
  abbrev Found : P → Type 0
  Found x = (length (f x) ≡ m) × ((front back : List B) → cut (front ++ (f x ++ back)) (length front) ≡ g x)

  found_again : (front : List B) (l : List P) (back : List B) → All Found l
      → joined (length l) (λ (i : ℕ). cut (front ++ (flat f l ++ back)) (length front + i * m) ∷ []) ≡ map g l
  unfolding flat
  found_again front [] back a = unfold joined in refl
  found_again front (x ∷ l) back a =
      let vs : List B = front ++ (f x ++ (flat f l ++ back)) in
      let here : length front + 0 * m ≡ length front = omega (arith, zero-mul m) in
      rw (append_assoc (f x) (flat f l) back)
      (joined_first (length l) (λ (i : ℕ). cut vs (length front + i * m) ∷ [])
      ∙ ap₂ (λ (y : Q) (ys : List Q). y ∷ ys) (ap (cut vs) here ∙ a.0.1 front (flat f l ++ back))
      (joined_same (length l) _ _ (λ i h. ap (λ (y : Q). y ∷ [])
      (ap₂ cut (sym (append_assoc front (f x) (flat f l ++ back))) (omega (arith, length-append front (f x), a.0.0, suc-mul i m))))
      ∙ found_again (front ++ f x) l back a.1))

-- so are groups of m
groups_again : {P B : Type 0} (d : B) (f : P → List B) (m : ℕ) (front : List B) (l : List P) (back : List B) → All (λ (x : P). length (f x) ≡ m) l
    → groups d (front ++ (flat f l ++ back)) (length front) (length l) m ≡ map f l
unfolding groups
groups_again d f m front l back a =
    found_again f f (λ xs from. part d xs from m) m front l back
    (all_map _ _ l (λ x e. (e, λ before after. part_middle d before (f x) after (length before) m refl e)) a)

-- ---- the patches of a reader's answer

module _ {A : Type 0} (S : Source A Float) (n : ℕ) (point_sized : (x : List A) → length x ≡ 2 → length (S.point x) ≡ 2)
    (colour_sized : (x : List A) → length x ≡ n → length (S.colour x) ≡ 8 + n) where
  -- a patch of twelve points and four colours is found again in what is written of it
  patch_again : (p : Patch (List A) (List A)) → Numbered 12 4 n p → (front back : List Float)
      → patch (groups nan (front ++ (patch_row S.point S.colour p ++ back)) (length front) 12 2)
      (groups nan (front ++ (patch_row S.point S.colour p ++ back)) (length front + 24) 4 (8 + n))
      ≡ each S.point S.colour p
  unfolding patch_row
  patch_again p h front back =
      let rows = numbered_rows S 2 (8 + n) n point_sized colour_sized 12 4 p h in
      let points : List Float = flat S.point p.points in
      let colours : List Float = flat S.colour p.colours in
      let before : List Float = front ++ points in
      let long : length points ≡ 24 = length_flat_all S.point 2 p.points rows.0 ∙ ap (λ (k : ℕ). k * 2) h.0.0 in
      let from : length front + 24 ≡ length before = omega (arith, length-append front points) in
      let first : groups nan (front ++ (points ++ (colours ++ back))) (length front) 12 2 ≡ map S.point p.points =
      rw (← h.0.0) (groups_again nan S.point 2 front p.points (colours ++ back) rows.0) in
      let second : groups nan (front ++ (points ++ (colours ++ back))) (length front + 24) 4 (8 + n) ≡ map S.colour p.colours =
      rw (from, ← (append_assoc front points (colours ++ back)), ← h.0.1)
      (groups_again nan S.colour (8 + n) before p.colours back rows.1) in
      rw (append_assoc points colours back) (ap₂ (λ (ps cs : List (List Float)). patch ps cs) first second)

  module _ (xs : List A) where
    pub answer_length : length (patch_mesh sides 8 S n xs).numbers ≡ (patch_mesh sides 8 S n xs).count * coons_size n
    answer_length = length-patch_mesh S 2 (8 + n) n point_sized colour_sized sides 8 sides_fit.0 xs

    -- a reader's answer is never refused with RECORD
    pub answer_whole : length (patch_mesh sides 8 S n xs).numbers % coons_size n ≡ 0
    answer_whole = ap (λ (k : ℕ). k % coons_size n) answer_length ∙ mul-mod_left (patch_mesh sides 8 S n xs).count (coons_size n)

    answer_count : length (patch_mesh sides 8 S n xs).numbers / coons_size n ≡ (patch_mesh sides 8 S n xs).count
    answer_count =
        ap (λ (k : ℕ). k / coons_size n) answer_length ∙ mul-div_cancel (patch_mesh sides 8 S n xs).count {n = coons_size n} (omega arith)

    pub taken_apart : read_patches n (patch_mesh sides 8 S n xs).numbers
        ≡ map (each S.point S.colour) (patches S.missing sides S.flag 8 n xs)
    unfolding read_patches patch_mesh
    taken_apart =
        let point : List A → List Float = S.point in
        let colour : List A → List Float = S.colour in
        let ps : List (Patch (List A) (List A)) = patches S.missing sides S.flag 8 n xs in
        let cut : List Float → ℕ → Patch (List Float) (List Float) =
        λ vs from. patch (groups nan vs from 12 2) (groups nan vs (from + 24) 4 (8 + n)) in
        rw answer_count
        (joined_same (length ps) _ _ (λ k h. ap (λ (p : Patch (List Float) (List Float)). p ∷ [])
        (ap₂ cut (sym (append-nil (flat (patch_row point colour) ps))) (sym (zero-add (k * coons_size n)))))
        ∙ found_again (patch_row point colour) (each point colour) cut (coons_size n) [] ps []
        (all_map _ _ ps
        (λ p h. (
          length-patch_row point colour 2 (8 + n) 12 4 p h.0 (numbered_rows S 2 (8 + n) n point_sized colour_sized 12 4 p h),
          patch_again p h,
        ))
        (patches_numbered S.missing S.flag 8 n sides sides_fit.0 xs)))

    pub taken_apart_count : length (read_patches n (patch_mesh sides 8 S n xs).numbers) ≡ (patch_mesh sides 8 S n xs).count
    unfolding read_patches
    taken_apart_count = length_singles _ _ ∙ answer_count

    -- turned, they are the Type 7 mesh of their own records, by the flags that were read
    pub turned_answer : let qs : List (Piece (List Float) (List Float)) =
        tensor_pieces rounded none (map (each_piece S.point S.colour) (pieces S.missing S.flag 8 n xs)) in
        (map (tensor_patch rounded) (read_patches n (patch_mesh sides 8 S n xs).numbers) ≡ mesh sides none qs) × All (Whole 12) qs
    unfolding patches pieces
    turned_answer =
        let rs : List (Piece (List A) (List A)) = pieces S.missing S.flag 8 n xs in
        let qs : List (Piece (List Float) (List Float)) = map (each_piece S.point S.colour) rs in
        let same : read_patches n (patch_mesh sides 8 S n xs).numbers ≡ mesh sides none qs =
        taken_apart ∙ sym (mesh_decoded S.point S.colour sides none rs) in
        let whole : All (Whole 8) qs =
        all_mapped (Whole 8) (each_piece S.point S.colour) rs
        (all_map _ _ rs (λ q h. (rw length-map h.0.0, rw length-map h.0.1))
        (to_whole S.missing S.flag 8 n (length xs) xs)) in
        let t = turned_mesh rounded none qs tt whole in
        (ap (map (tensor_patch rounded)) same ∙ t.0, t.1)
