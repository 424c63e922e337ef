-- What a reader gave so far, and what of it was kept. Assumes nothing.
use Prim.Native.Nat.{ℕ, zero, suc, ◌+◌, ◌-◌, ◌≤◌, min}
use mathlib.Core.Path.{◌≡◌, refl, sym, ap, ◌∙◌}
use mathlib.Core.List.{List, [], ◌∷◌, ◌++◌, append_assoc, append-nil}
use native.Mathlib.Nat.{sub-zero, zero-add}
use native.Mathlib.Omega.{arith}
use lib.ListN.{length, take, drop, length-append, length-take, length-drop}
use borrow.Rule.Slice.PartMut.{put_mid}
use lib.Seq.{take_all, length-take-le}
use Rattle.std.proofs.lemmas.List.{drop_all}
use Rattle.std.specs.Prelude.{Option, Some, None, IfSome}
use Rattle.std.specs.Io.KnownBytes.{Consumes, IsAtEnd}
use Rattle.lists.specs.Writing.{Written}
use Rattle.lists.proofs.Writing.{written_take, written_length}

-- the first at bytes of file are the first that came, as many as there is room for
pub record Kept (before now : Option (List ℕ)) (file : List ℕ) (at : ℕ) : Type 0 where
  pub came : List ℕ
  pub consumed : Consumes before now came
  pub first : take at file ≡ take (length file) came
  pub count : at ≡ min (length came) (length file)

consumes_none : (b : Option (List ℕ)) → Consumes b b []
consumes_none None = tt
consumes_none (Some xs) = refl

consumes_then : (a b c : Option (List ℕ)) (xs ys : List ℕ) → Consumes a b xs → Consumes b c ys → Consumes a c (xs ++ ys)
consumes_then None b c xs ys v w = tt
consumes_then (Some p) None c xs ys v w = absurd v
consumes_then (Some p) (Some q) None xs ys v w = absurd w
consumes_then (Some p) (Some q) (Some r) xs ys v w = v ∙ ap (λ (l : List ℕ). xs ++ l) w ∙ sym (append_assoc xs ys r)

take_both : (n : ℕ) (xs ys : List ℕ) → take n (xs ++ ys) ≡ take n xs ++ take (n - length xs) ys
take_both zero xs ys = let e : 0 - length xs ≡ 0 = omega arith in rw e refl
take_both (suc n) [] ys = rw sub-zero refl
take_both (suc n) (x ∷ xs) ys = let e : suc n - suc (length xs) ≡ n - length xs = omega arith in rw e (ap (λ (l : List ℕ). x ∷ l) (take_both n xs ys))

-- the part from index at to the end has been written
to_the_end : (file part : List ℕ) (at : ℕ) → at ≤ length file → put_mid at (length file - at) file part ≡ take at file ++ part
to_the_end file part at h =
    let none : drop (length file - at) (drop at file) ≡ [] = drop_all (length file - at) (drop at file) (rw length-drop (omega arith)) in
    rw (none, append-nil) refl

pub kept_none : (b : Option (List ℕ)) (file : List ℕ) → Kept b b file 0
kept_none b file =
    record { came = []; consumed = consumes_none b; first = elim file as (λ l. ◌≡◌ {A = List ℕ} [] (take (length l) [])) [ [] ↦ refl | (x ∷ xs) ↦ refl ]; count = omega arith }

pub kept_more : (a b c : Option (List ℕ)) {file part : List ℕ} {at k : ℕ} (xs : List ℕ) → Kept a b file at → Consumes b c xs
    → Written (drop at file) part 0 (take (length (drop at file)) xs) k → Kept a c (put_mid at (length file - at) file part) (at + k)
kept_more a b c {file} {part} {at} {k} xs v w p =
    let h : at ≤ length file = omega (arith, v.count) in
    let front : length (take at file) ≡ at = length-take-le at file h in
    let part_long : length part ≡ length file - at = written_length p ∙ length-drop at file in
    let long : length (take at file ++ part) ≡ length file = rw length-append (omega arith) in
    let room : length (drop at file) ≡ length file - length v.came = rw length-drop (omega (arith, v.count)) in
    let written : take k part ≡ take (length file - length v.came) xs = rw room at (written_take p) in
    let some : k ≡ min (length file - at) (length xs) = rw (length-take, length-drop, zero-add) at p.after in
    let all : take (at + k) (take at file) ≡ take at file = take_all _ _ (omega arith) in
    let both : at + k - length (take at file) ≡ k = omega arith in
    rw (to_the_end file part at h) (record {
      came = v.came ++ xs;
      consumed = consumes_then a b c v.came xs v.consumed w;
      first = rw (take_both (at + k) (take at file) part, all, both, written, long, take_both (length file) v.came xs) (ap (λ (l : List ℕ). l ++ take (length file - length v.came) xs) v.first);
      count = rw (long, length-append) (omega (arith, v.count, some));
    })

pub kept_all : (a b c : Option (List ℕ)) {file : List ℕ} {at : ℕ} → Kept a b file at → Consumes b c [] → IsAtEnd c
    → IfSome a (λ xs. take at file ≡ take (length file) xs)
kept_all None b c v w e = tt
kept_all (Some p) None c v w e = absurd v.consumed
kept_all (Some p) (Some q) None v w e = absurd w
kept_all (Some p) (Some q) (Some r) {file} v w e =
    v.first ∙ ap (λ (l : List ℕ). take (length file) l) (sym (v.consumed ∙ ap (λ (l : List ℕ). v.came ++ l) (w ∙ e) ∙ append-nil v.came))
