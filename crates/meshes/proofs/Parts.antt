-- Pieces of the same length side by side: the first apart, and a part of one of them found again. Assumes nothing.
use Prim.Native.Nat.{ℕ, zero, suc, ◌+◌, ◌*◌, ◌/◌, ◌≤◌, ◌<◌}
use mathlib.Core.Path.{◌≡◌, sym, ap}
use mathlib.Core.List.{List, [], ◌∷◌, ◌++◌, append_assoc, append-nil}
use native.Mathlib.Nat.{add-zero, lt_of_not-le, add_assoc, mul-div_cancel}
use native.Mathlib.Decide.{dec_le}
use native.Mathlib.Omega.{arith}
use lib.ListN.{length, get_or, get_or-append}
use lib.Seq.{get_or-append-add}
use Rattle.lists.specs.Lists.{joined, part}
use Rattle.lists.proofs.Pieces.{joined_same, length-joined}

module _ {A : Type 0} where
  pub joined_first : (k : ℕ) (f : ℕ → List A) → joined (suc k) f ≡ f 0 ++ joined k (λ (i : ℕ). f (suc i))
  unfolding joined
  joined_first zero f = sym (append-nil (f 0))
  joined_first (suc k) f = rw (joined_first k f, append_assoc)

  -- a part of the second of two lists, or of the first
  pub part_second : (d : A) (xs ys : List A) (from k : ℕ) → part d (xs ++ ys) (length xs + from) k ≡ part d ys from k
  unfolding part
  part_second d xs ys from k =
      joined_same k _ _ (λ j b. ap (λ (v : A). v ∷ []) (rw (add_assoc (length xs) from j) (get_or-append-add xs ys (from + j) d)))

  pub part_first : (d : A) (xs ys : List A) (from k : ℕ) → from + k ≤ length xs → part d (xs ++ ys) from k ≡ part d xs from k
  unfolding part
  part_first d xs ys from k h =
      joined_same k _ _ (λ j b. ap (λ (v : A). v ∷ []) (get_or-append xs ys d (from + j) (omega arith)))

  -- of k pieces of m elements each, a part of piece i
  pub part_of_piece : (d : A) (k m : ℕ) (f : ℕ → List A) → ((i : ℕ) → length (f i) ≡ m) → (ys : List A) (i from size : ℕ) → i < k → from + size ≤ m
      → part d (joined k f ++ ys) (i * m + from) size ≡ part d (f i) from size
  unfolding joined
  part_of_piece d zero m f sized ys i from size h w = absurd (omega arith)
  part_of_piece d (suc k) m f sized ys i from size h w =
      rw append_assoc (by (dec_le k i) (λ g. part_of_piece d k m f sized (f k ++ ys) i from size g w))
    where
      by : Dec (k ≤ i) → (i < k → part d (joined k f ++ (f k ++ ys)) (i * m + from) size ≡ part d (f i) from size)
          → part d (joined k f ++ (f k ++ ys)) (i * m + from) size ≡ part d (f i) from size
      by (no g) rest = rest (lt_of_not-le g)
      by (yes g) rest =
          let e : i ≡ k = omega arith in
          rw (e, ← (length-joined k m f sized), part_second) (part_first d (f k) ys from size (rw (sized k) w))

  -- an element of piece i
  pub element_of_piece : (d : A) (k m : ℕ) (f : ℕ → List A) → ((i : ℕ) → length (f i) ≡ m) → (i j : ℕ) → i < k → j < m
      → get_or (joined k f) (i * m + j) d ≡ get_or (f i) j d
  element_of_piece d k m f sized i j h w =
      rw (← (append-nil (joined k f)))
      (heads (joined k f ++ []) (f i) (i * m + j) j (part_of_piece d k m f sized [] i j 1 h (omega arith)))
    where
      heads : (xs zs : List A) (from at : ℕ) → part d xs from 1 ≡ part d zs at 1 → get_or xs from d ≡ get_or zs at d
      heads xs zs from at e =
          let f : get_or xs (from + 0) d ≡ get_or zs (at + 0) d = unfold part joined in ap (λ (l : List A). get_or l 0 d) e in
          rw (add-zero from, add-zero at) at f

  -- how many pieces there are
  pub count_pieces : (k m : ℕ) (f : ℕ → List A) → ((i : ℕ) → length (f i) ≡ m) → 1 ≤ m → length (joined k f) / m ≡ k
  count_pieces k m f sized h = rw (length-joined k m f sized) (mul-div_cancel k h)
