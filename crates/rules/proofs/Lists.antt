-- Beginnings of lists, lists by a count, and what a list has at given places. Assumes nothing.
use mathlib.Core.Path.{◌≡◌, refl, sym, ap, ap₂, ◌∙◌}
use mathlib.Core.List.{List, [], ◌∷◌, ◌++◌, append_assoc, append-nil, map, map-append}
use Prim.Native.Nat.{ℕ, zero, suc, ◌+◌, ◌-◌, ◌*◌, ◌/◌, ◌≤◌, ◌<◌}
use native.Mathlib.Nat.{zero-mul, le_of_suc-le-suc, add-zero, add-suc, add-sub_of_le, suc-mul, div-zero, div-mul-le_self, mul-le-mul_right, le-div_iff_mul-le}
use native.Mathlib.Omega.{arith}
use lib.ListN.{length, get_or, take, drop, length-append, length-drop, get_or-append}
use lib.Seq.{length-take-le}
use Rattle.lists.specs.Lists.{joined, part, flat, All, AllBelow, Begins}
use Rattle.lists.proofs.Pieces.{joined_same, flat_append, part_middle}
use Rattle.lists.proofs.Members.{all_append, all_take, all_drop, begins_same, begins_then}
use Rattle.rules.specs.Patches.{at}

-- ---- counts

pub div_grows : (m n k : ℕ) → m ≤ n → m / k ≤ n / k
div_grows m n zero h = omega (arith, div-zero m)
div_grows m n (suc k) h =
    (le-div_iff_mul-le {k = suc k} {x = m / suc k} {y = n} (omega arith)).1 (omega (arith, div-mul-le_self m (suc k)))

-- of the whole groups of m that fit into a length, group i ends within it
pub group_fits : (i m total : ℕ) → i < total / m → i * m + m ≤ total
group_fits i m total h = omega (arith, mul-le-mul_right m h, suc-mul i m, div-mul-le_self total m)

-- ---- every element

module _ {A : Type 0} where
  pub all_map : (P Q : A → Type 0) (xs : List A) → ((x : A) → P x → Q x) → All P xs → All Q xs
  all_map P Q [] h p = tt
  all_map P Q (x ∷ xs) h p = (h x p.0, all_map P Q xs h p.1)

  pub all_joined : (P : A → Type 0) (k : ℕ) (f : ℕ → List A) → ((i : ℕ) → i < k → All P (f i)) → All P (joined k f)
  unfolding joined
  all_joined P zero f h = tt
  all_joined P (suc k) f h = all_append P (joined k f) (f k) (all_joined P k f (λ i l. h i (omega arith))) (h k (omega arith))

-- ---- beginnings

module _ {A : Type 0} where
  pub begins_append : {xs ys : List A} (zs : List A) → Begins xs ys → Begins xs (ys ++ zs)
  begins_append {xs} {ys} zs b =
      begins_then b (record { rest = zs; is = refl })

  -- fewer pieces are a beginning
  joined_grows : (k m : ℕ) (f : ℕ → List A) → Begins (joined k f) (joined (k + m) f)
  unfolding joined
  joined_grows k zero f = rw add-zero (begins_same (joined k f))
  joined_grows k (suc m) f = rw add-suc (begins_append (f (k + m)) (joined_grows k m f))

  pub joined_begins : (k m : ℕ) (f g : ℕ → List A) → k ≤ m → ((i : ℕ) → i < k → f i ≡ g i) → Begins (joined k f) (joined m g)
  joined_begins k m f g h e = rw (joined_same k f g e, ← (add-sub_of_le h)) (joined_grows k (m - k) g)

  -- what stands in a beginning
  pub begins_length : {xs ys : List A} → Begins xs ys → length xs ≤ length ys
  begins_length {xs} {ys} b = omega (arith, ap length b.is, length-append xs b.rest)

  pub begins_get_d : (d : A) {xs ys : List A} (i : ℕ) → Begins xs ys → i < length xs → get_or ys i d ≡ get_or xs i d
  begins_get_d d {xs} {ys} i b h = rw b.is (get_or-append xs b.rest d i h)

  pub begins_part : (d : A) {xs ys : List A} (from k : ℕ) → Begins xs ys → from + k ≤ length xs → part d ys from k ≡ part d xs from k
  unfolding part
  begins_part d {xs} {ys} from k b h =
      joined_same k (λ (j : ℕ). get_or ys (from + j) d ∷ []) (λ (j : ℕ). get_or xs (from + j) d ∷ [])
      (λ j l. ap (λ (v : A). v ∷ []) (begins_get_d d (from + j) b (omega arith)))

module _ {A B : Type 0} (f : A → List B) where
  pub flat_begins : {xs ys : List A} → Begins xs ys → Begins (flat f xs) (flat f ys)
  flat_begins {xs} {ys} b = record { rest = flat f b.rest; is = ap (flat f) b.is ∙ flat_append f xs b.rest }

-- ---- places

module _ {A : Type 0} where
  pub length_at : (l : List A) (is : List ℕ) → AllBelow (length l) is → length (at l is) ≡ length is
  unfolding at flat
  length_at l [] a = refl
  length_at l (i ∷ is) a =
      let one : length (take 1 (drop i l)) ≡ 1 = length-take-le 1 (drop i l) (rw length-drop (omega (arith, a.0))) in
      omega (arith, length-append (take 1 (drop i l)) (at l is), length_at l is a.1)

  pub all_at : (P : A → Type 0) (l : List A) (is : List ℕ) → All P l → All P (at l is)
  unfolding at flat
  all_at P l [] a = tt
  all_at P l (i ∷ is) a =
      all_append P (take 1 (drop i l)) (at l is) (all_take P 1 (drop i l) (all_drop P i l a)) (all_at P l is a)

module _ {A B : Type 0} (f : A → B) where
  map-take : (k : ℕ) (l : List A) → map f (take k l) ≡ take k (map f l)
  map-take zero l = refl
  map-take (suc k) [] = refl
  map-take (suc k) (x ∷ l) = ap (λ (r : List B). f x ∷ r) (map-take k l)

  map-drop : (k : ℕ) (l : List A) → map f (drop k l) ≡ drop k (map f l)
  map-drop zero l = refl
  map-drop (suc k) [] = refl
  map-drop (suc k) (x ∷ l) = map-drop k l

  pub map_at : (l : List A) (is : List ℕ) → map f (at l is) ≡ at (map f l) is
  unfolding at flat
  map_at l [] = refl
  map_at l (i ∷ is) =
      map-append f (take 1 (drop i l)) (at l is)
      ∙ ap₂ (λ (x y : List B). x ++ y) (map-take 1 (drop i l) ∙ ap (take 1) (map-drop i l)) (map_at l is)

-- ---- what is written of a list, element by element

module _ {A B : Type 0} (f : A → List B) where
  pub length_flat_all : (m : ℕ) (l : List A) → All (λ (x : A). length (f x) ≡ m) l → length (flat f l) ≡ length l * m
  unfolding flat
  length_flat_all m [] a = sym (zero-mul m)
  length_flat_all m (x ∷ l) a = rw (length-append, suc-mul, length_flat_all m l a.1) (omega (arith, a.0))

  -- of the elements at given places, by what g finds at each place
  pub flat_at : (g : ℕ → List B) (l : List A) (is : List ℕ) → AllBelow (length l) is
      → ((i : ℕ) → i < length l → flat f (take 1 (drop i l)) ≡ g i) → flat f (at l is) ≡ flat g is
  unfolding at flat
  flat_at g l [] a h = refl
  flat_at g l (i ∷ is) a h =
      flat_append f (take 1 (drop i l)) (at l is) ∙ ap₂ (λ (x y : List B). x ++ y) (h i a.0) (flat_at g l is a.1 h)

  -- element i is found again, where each takes m places
  pub part_of_flat : (d : B) (m : ℕ) (front : List B) (l : List A) (back : List B) (i : ℕ) → All (λ (x : A). length (f x) ≡ m) l → i < length l
      → flat f (take 1 (drop i l)) ≡ part d (front ++ (flat f l ++ back)) (length front + i * m) m
  unfolding flat
  part_of_flat d m front [] back i a h = absurd (omega arith)
  part_of_flat d m front (x ∷ l) back zero a h =
      let e : length front ≡ length front + 0 * m = omega (arith, zero-mul m) in
      append-nil (f x) ∙ sym (rw append_assoc (part_middle d front (f x) (flat f l ++ back) (length front + 0 * m) m e a.0))
  part_of_flat d m front (x ∷ l) back (suc i) a h =
      let n : length (front ++ f x) + i * m ≡ length front + suc i * m = omega (arith, length-append front (f x), a.0, suc-mul i m) in
      rw (append_assoc (f x) (flat f l) back, ← n, ← (append_assoc front (f x) (flat f l ++ back)))
      (part_of_flat d m (front ++ f x) l back i a.1 (le_of_suc-le-suc h))
