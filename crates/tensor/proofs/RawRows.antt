-- What the writing of a raw patch comes to. Assumes nothing.
use Prim.Native.Nat.{ℕ, zero, suc, ◌*◌, ◌^◌, ◌≤◌, ◌<◌}
use mathlib.Core.Path.{◌≡◌, refl, sym, ap, ap₂, ◌∙◌}
use mathlib.Core.List.{List, [], ◌∷◌, ◌++◌, map, map-append, append-nil}
use native.Mathlib.Nat.{zero-add, one-mul, mul-le-mul_left}
use native.Mathlib.Omega.{arith}
use lib.IntN.{ℤ, pos}
use lib.ListN.{length, get_or, length-append, take-append-drop}
use Rattle.lists.specs.Lists.{joined, part, flat}
use Rattle.lists.proofs.Pieces.{part_all}
use Rattle.rules.specs.Meshes.{groups}
use Rattle.tensor.specs.Turning.{raw, tensor_patch, numbers_of}
use Rattle.tensor.specs.declared.raw.Coons.{Coons}
use Rattle.tensor.specs.Inner.Standing.{patch_in}
use Rattle.tensor.specs.Inner.Placing.{spaced, inner_along}
use Rattle.tensor.proofs.Rows.{turned_row}
use Rattle.tensor.proofs.Taking.{groups_of_copies}

-- ---- numbers times a factor

pub times_small : (factor x : ℕ) → factor ≤ 9 → x < 2 ^ 32 → factor * x < 2 ^ 63
times_small factor x h k =
    let a : factor * x ≤ factor * 4294967296 = mul-le-mul_left factor (omega arith) in
    omega arith

-- g of each element
pub mapped : {A B : Type 0} (g : A → B) (d : A) (l : List A) (k : ℕ) → joined k (λ (j : ℕ). g (get_or l j d) ∷ []) ≡ map g (part d l 0 k)
unfolding joined part
mapped g d l zero = refl
mapped g d l (suc k) = rw (map-append, ← (mapped g d l k), zero-add)

pub mapped_all : {A B : Type 0} (g : A → B) (d : A) (l : List A) → joined (length l) (λ (j : ℕ). g (get_or l j d) ∷ []) ≡ map g l
mapped_all g d l = mapped g d l (length l) ∙ ap (map g) (part_all d l)

-- the border, the inner four along one axis and along the other, the colours
pub raw_row : (n : ℕ) (c : Coons) (border : List ℕ) (l : List ℤ) → border ≡ c.side ++ c.others.now → length c.side ≡ 8 → length c.others.now ≡ 16 → length l ≡ 8
    → map raw.border border
    ++ (spaced (spaced l 0 (inner_along raw (groups 0 border 0 12 2) 0)) 1 (inner_along raw (groups 0 border 0 12 2) 1)
    ++ map pos (c.c00.now ++ (c.c03.now ++ c.c33_c30.now)))
    ≡ numbers_of (tensor_patch raw (patch_in n c))
unfolding patch_in flat
raw_row n c border l is eight sixteen there =
    let side : c.side ≡ part 0 c.side 0 8 = sym (ap (part 0 c.side 0) (sym eight) ∙ part_all 0 c.side) in
    let others : c.others.now ≡ part 0 c.others.now 0 16 = sym (ap (part 0 c.others.now 0) (sym sixteen) ∙ part_all 0 c.others.now) in
    let points : groups 0 border 0 12 2 ≡ groups 0 c.side 0 4 2 ++ groups 0 c.others.now 0 8 2 =
    ap (λ (b : List ℕ). groups 0 b 0 12 2) (is ∙ ap₂ (λ (x y : List ℕ). x ++ y) side others) ∙ groups_of_copies c.side 0 4 c.others.now 0 8 2 in
    let long : length border ≡ 24 = ap length is ∙ length-append c.side c.others.now ∙ omega arith in
    simp (take-append-drop, append-nil) at (turned_row raw (patch_in n c) border l long there points)

-- the colours, one after the other
pub colours_row : (a b c : List ℕ) → map (λ x. pos (1 * x)) a ++ (map (λ x. pos (1 * x)) b ++ map (λ x. pos (1 * x)) c) ≡ map pos (a ++ (b ++ c))
colours_row a b c = simp (one-mul, map-append)
