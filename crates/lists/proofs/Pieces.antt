-- Lists by a count or by another list: one piece more, and their lengths. Assumes nothing.
use Prim.Native.Nat.{ℕ, zero, suc, ◌+◌, ◌*◌, ◌≤◌, ◌<◌}
use mathlib.Core.Path.{◌≡◌, refl, sym, ap, ◌∙◌}
use mathlib.Core.List.{List, [], ◌∷◌, ◌++◌, append_assoc, append-nil}
use native.Mathlib.Nat.{add-zero, add-suc, add_assoc, zero-mul, mul-one, suc-mul}
use native.Mathlib.Numerals.{add-one}
use native.Mathlib.Omega.{arith}
use lib.ListN.{length, get_or, take, drop, length-append, length-drop, get_or-append}
use lib.Seq.{take-length, take_at, drop_at, take-suc, get_or-drop, get_or_at}
use borrow.Author.Count.{below_more}
use Rattle.lists.specs.Lists.{joined, part, flat}

module _ {A : Type 0} where
  -- one more
  pub joined_more : (k : ℕ) (f : ℕ → List A) → joined (k + 1) f ≡ joined k f ++ f k
  unfolding joined
  joined_more k f = rw add-one

  -- where each f i has m elements
  pub length-joined : (k m : ℕ) (f : ℕ → List A) → ((i : ℕ) → length (f i) ≡ m) → length (joined k f) ≡ k * m
  unfolding joined
  length-joined zero m f h = sym (zero-mul m)
  length-joined (suc k) m f h = simp (length-append, suc-mul, length-joined k m f h, h)

  pub joined_same : (k : ℕ) (f g : ℕ → List A) → ((j : ℕ) → j < k → f j ≡ g j) → joined k f ≡ joined k g
  unfolding joined
  joined_same zero f g h = refl
  joined_same (suc k) f g h = rw (joined_same k f g (λ j l. h j (omega arith)), h k (omega arith))

  pub length_singles : (f : ℕ → A) (k : ℕ) → length (joined k (λ (i : ℕ). f i ∷ [])) ≡ k
  length_singles f k = length-joined k 1 (λ (i : ℕ). f i ∷ []) (λ i. refl) ∙ mul-one k

  -- element i of a list that has one for each number below k
  pub get_d_singles : (f : ℕ → A) (d : A) (k i : ℕ) → i < k → get_or (joined k (λ (j : ℕ). f j ∷ [])) i d ≡ f i
  unfolding joined
  get_d_singles f d zero i h = absurd (omega arith)
  get_d_singles f d (suc k) i h =
      let front : List A = joined k (λ (j : ℕ). f j ∷ []) in
      let long : length front ≡ k = length_singles f k in
      below_more (λ (j : ℕ). get_or (front ++ (f k ∷ [])) j d ≡ f j) k
      (λ j b. get_or-append front (f k ∷ []) d j (omega arith) ∙ get_d_singles f d k j b)
      (get_or_at front (f k) [] d k long) i (omega arith)

  pub length_part : (d : A) (l : List A) (from k : ℕ) → length (part d l from k) ≡ k
  unfolding part
  length_part d l from k = length_singles _ k

  -- a part, where all of it is there
  pub part_take : (d : A) (l : List A) (from k : ℕ) → from + k ≤ length l → part d l from k ≡ take k (drop from l)
  unfolding part joined
  part_take d l from zero h = refl
  part_take d l from (suc k) h =
      let n : k < length (drop from l) = rw length-drop (omega arith) in
      rw (part_take d l from k (omega arith), take-suc (drop from l) k d n, get_or-drop)

  pub part_all : (d : A) (l : List A) → part d l 0 (length l) ≡ l
  part_all d l = part_take d l 0 (length l) (omega arith) ∙ take-length l

  -- two parts side by side
  pub part_then : (d : A) (l : List A) (from j k : ℕ) → part d l from (j + k) ≡ part d l from j ++ part d l (from + j) k
  unfolding part joined
  part_then d l from j zero = rw (add-zero j, append-nil)
  part_then d l from j (suc k) = rw (add-suc j k, part_then d l from j k, append_assoc, add_assoc)

  -- a part that is the middle of three lists
  pub part_middle : (d : A) (xs ys zs : List A) (from k : ℕ) → length xs ≡ from → length ys ≡ k → part d (xs ++ (ys ++ zs)) from k ≡ ys
  part_middle d xs ys zs from k p q =
      rw (part_take d (xs ++ (ys ++ zs)) from k (simp (length-append) (omega arith)), drop_at xs (ys ++ zs) from p, take_at ys zs k q)

module _ {A B : Type 0} (f : A → List B) where
  pub flat_append : (xs ys : List A) → flat f (xs ++ ys) ≡ flat f xs ++ flat f ys
  unfolding flat
  flat_append [] ys = refl
  flat_append (x ∷ xs) ys = rw (append_assoc, flat_append xs ys)

  pub flat_more : (xs : List A) (x : A) → flat f (xs ++ (x ∷ [])) ≡ flat f xs ++ f x
  unfolding flat
  flat_more xs x = flat_append xs (x ∷ []) ∙ ap (λ (r : List B). flat f xs ++ r) (append-nil (f x))

  pub length-flat : (m : ℕ) (xs : List A) → ((x : A) → length (f x) ≡ m) → length (flat f xs) ≡ length xs * m
  unfolding flat
  length-flat m [] h = sym (zero-mul m)
  length-flat m (x ∷ xs) h = rw (length-append, suc-mul, h, length-flat m xs h) (omega arith)

  pub flat_joined : (k : ℕ) (g : ℕ → List A) → flat f (joined k g) ≡ joined k (λ (i : ℕ). flat f (g i))
  unfolding joined flat
  flat_joined zero g = refl
  flat_joined (suc k) g = rw (flat_append (joined k g) (g k), flat_joined k g)

module _ {A B : Type 0} where
  pub flat_same : (f g : A → List B) (xs : List A) → ((x : A) → f x ≡ g x) → flat f xs ≡ flat g xs
  unfolding flat
  flat_same f g [] h = refl
  flat_same f g (x ∷ xs) h = rw (h x, flat_same f g xs h)
