-- Lists that a count, or another list, gives.
use Rattle.std.specs.Prelude.{ℕ, zero, suc, ◌+◌, ◌<◌, ◌≡◌, List, [], ◌∷◌, ◌++◌, get_or}

module _ {A : Type 0} where
  -- f 0, f 1, .., f (k - 1), one after the other
  unfoldable pub joined : ℕ → (ℕ → List A) → List A
  joined zero f = []
  joined (suc k) f = joined k f ++ f k

  -- the k elements of l from index from; d stands for each that l does not have
  unfoldable pub part : A → List A → ℕ → ℕ → List A
  part d l from k = joined k (λ (j : ℕ). get_or l (from + j) d ∷ [])

  -- every element has the property
  abbrev pub All : (A → Type 0) → List A → Type 0
  All P [] = Unit {0}
  All P (x ∷ xs) = P x × All P xs

module _ {A B : Type 0} where
  -- what f gives for each element, one after the other
  unfoldable pub flat : (A → List B) → List A → List B
  flat f [] = []
  flat f (x ∷ xs) = f x ++ flat f xs

-- every number is below m: bits for 2, bytes for 256
abbrev pub AllBelow : ℕ → List ℕ → Type 0
AllBelow m l = All (λ (x : ℕ). x < m) l

-- xs is a beginning of ys
pub record Begins {A : Type 0} (xs ys : List A) : Type 0 where
  pub rest : List A
  pub is : ys ≡ xs ++ rest
