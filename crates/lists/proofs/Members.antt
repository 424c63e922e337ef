-- What holds of every element of a list holds of its parts; and beginnings of lists. Assumes nothing.
use Prim.Native.Nat.{ℕ, zero, suc, ◌<◌}
use mathlib.Core.Path.{◌≡◌, refl, sym, ap, ◌∙◌}
use mathlib.Core.List.{List, [], ◌∷◌, ◌++◌, append_assoc, append-nil}
use native.Mathlib.Omega.{arith}
use lib.ListN.{length, get_or, take, drop, replicate, take-append-drop}
use Rattle.lists.specs.Lists.{All, Begins}

module _ {A : Type 0} (P : A → Type 0) where
  pub all_append : (xs ys : List A) → All P xs → All P ys → All P (xs ++ ys)
  all_append [] ys p q = q
  all_append (x ∷ xs) ys p q = (p.0, all_append xs ys p.1 q)

  pub all_take : (k : ℕ) (xs : List A) → All P xs → All P (take k xs)
  all_take zero xs p = tt
  all_take (suc k) [] p = tt
  all_take (suc k) (x ∷ xs) p = (p.0, all_take k xs p.1)

  pub all_drop : (k : ℕ) (xs : List A) → All P xs → All P (drop k xs)
  all_drop zero xs p = p
  all_drop (suc k) [] p = tt
  all_drop (suc k) (x ∷ xs) p = all_drop k xs p.1

  pub all_replicate : (k : ℕ) (x : A) → P x → All P (replicate k x)
  all_replicate zero x p = tt
  all_replicate (suc k) x p = (p, all_replicate k x p)

-- an element that is there does not depend on what stands for those that are not
pub get_d_same : {A : Type 0} (l : List A) (i : ℕ) (d e : A) → i < length l → get_or l i d ≡ get_or l i e
get_d_same [] i d e h = absurd (omega arith)
get_d_same (x ∷ l) zero d e h = refl
get_d_same (x ∷ l) (suc i) d e h = get_d_same l i d e (omega arith)

module _ {A : Type 0} where
  pub begins_nothing : (ys : List A) → Begins [] ys
  begins_nothing ys = record { rest = ys; is = refl }

  pub begins_same : (xs : List A) → Begins xs xs
  begins_same xs = record { rest = []; is = sym (append-nil xs) }

  -- the same list before both
  pub begins_after : (front : List A) {xs ys : List A} → Begins xs ys → Begins (front ++ xs) (front ++ ys)
  begins_after front {xs} {ys} b =
      record { rest = b.rest; is = ap (λ (l : List A). front ++ l) b.is ∙ sym (append_assoc front xs b.rest) }

  pub begins_then : {xs ys zs : List A} → Begins xs ys → Begins ys zs → Begins xs zs
  begins_then {xs} {ys} {zs} a b =
      record {
        rest = a.rest ++ b.rest;
        is = b.is ∙ ap (λ (l : List A). l ++ b.rest) a.is ∙ append_assoc xs a.rest b.rest;
      }

  pub begins_of_take : (k : ℕ) (l : List A) → Begins (take k l) l
  begins_of_take k l = record { rest = drop k l; is = sym (take-append-drop k l) }
