-- What it is to write a list into a lent output.
use Rattle.std.specs.Prelude.{ℕ, ◌+◌, ◌≤◌, ◌≡◌, List, ◌++◌, Bool, cond, length, take, drop}

-- l with xs in the place of as many elements from index at
unfoldable pub put : {A : Type 0} → List A → ℕ → List A → List A
put l at xs = take at l ++ (xs ++ drop (at + length xs) l)

-- xs has been written from index at, where there is room for it; next is the index after it
pub record Written {A : Type 0} (entry exit : List A) (at : ℕ) (xs : List A) (next : ℕ) : Type 0 where
  pub held : exit ≡ put entry at xs
  pub room : at + length xs ≤ length entry
  pub after : next ≡ at + length xs

-- xs has been written from index at where ok holds, else nothing has; next is the index after what was written
pub record Placed {A : Type 0} (ok : Bool) (entry exit : List A) (at : ℕ) (xs : List A) (next : ℕ) : Type 0 where
  pub held : exit ≡ cond ok (put entry at xs) entry
  pub after : next ≡ cond ok (at + length xs) at
