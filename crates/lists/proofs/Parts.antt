-- Parts of lists, as the code takes them; what is written end first, and over what was written; and what stands right after it. Assumes nothing.
use Prim.Native.Nat.{ℕ, ◌+◌, ◌-◌, ◌≤◌}
use mathlib.Core.Path.{◌≡◌, sym, ap, ap₂, ◌∙◌}
use mathlib.Core.List.{List, [], ◌∷◌, ◌++◌, append_assoc}
use native.Mathlib.Nat.{add-zero, add-sub_cancel_left}
use native.Mathlib.Omega.{arith}
use lib.ListN.{length, get_or, take, drop, length-append, take-append-drop}
use lib.Seq.{take_all, length-take-le, take-append-le, take_at, drop_at, take-take, drop-append-add, drop-drop}
use Rattle.lists.specs.Lists.{joined, part}
use Rattle.lists.specs.Writing.{put, Written}
use Rattle.lists.proofs.Pieces.{part_take, length_part, part_middle}
use Rattle.lists.proofs.Writing.{written_length, written_take}

module _ {A : Type 0} where
  pub part_between : (d : A) (l : List A) (from n : ℕ) → from + n ≤ length l → take (from + n - from) (drop from l) ≡ part d l from n
  part_between d l from n h = rw add-sub_cancel_left (sym (part_take d l from n h))

  pub part_of_two : (d : A) (l : List A) (from : ℕ) → part d l from 2 ≡ get_or l from d ∷ get_or l (from + 1) d ∷ []
  unfolding part joined
  part_of_two d l from = rw add-zero

  -- what was written stands between its two indices
  pub written_between : {l o : List A} {at p : ℕ} {xs : List A} → Written l o at xs p → take (p - at) (drop at o) ≡ xs
  unfolding put
  written_between {l} {o} {at} {p} {xs} w =
      let r = w.room in
      let a = w.after in
      rw (w.held, drop_at (take at l) (xs ++ drop (at + length xs) l) at (length-take-le at l (omega arith)))
      (take_at xs (drop (at + length xs) l) (p - at) (omega arith))

  -- another list right before what was written
  pub written_before_it : {l o o' : List A} {at p q r : ℕ} {xs ys : List A} → Written l o p ys q → Written o o' at xs r → r ≡ p → Written l o' at (xs ++ ys) q
  unfolding put
  written_before_it {l} {o} {o'} {at} {p} {q} {r} {xs} {ys} w v same =
      let n = length-append xs ys in
      let e = written_length w in
      let a = v.after in
      let b = w.after in
      let room = w.room in
      let tl : length (take p l) ≡ p = length-take-le p l (omega arith) in
      let rest : List A = ys ++ drop (p + length ys) l in
      let front : take at (take p l ++ rest) ≡ take at l = take-append-le at (take p l) rest (omega arith) ∙ take-take at p l (omega arith) in
      let back : drop (at + length xs) (take p l ++ rest) ≡ rest = drop_at (take p l) rest (at + length xs) (omega arith) in
      let end : p + length ys ≡ at + length (xs ++ ys) = omega arith in
      record {
        held = rw (v.held, w.held, front, back, end) (simp append_assoc);
        room = omega arith;
        after = omega arith;
      }

  -- what was written is all of the output, where that has no other place
  pub written_whole : {l o : List A} {p : ℕ} {xs : List A} → Written l o 0 xs p → length l ≡ p → o ≡ xs
  written_whole {l} {o} {p} {xs} w h =
      let n = written_length w in
      sym (take_all p o (omega arith)) ∙ written_take w

  -- what was written stands at its index
  pub written_here : (d : A) {l o : List A} {at p : ℕ} {xs : List A} (k : ℕ) → Written l o at xs p → length xs ≡ k → part d o at k ≡ xs
  unfolding put
  written_here d {l} {o} {at} {p} {xs} k w h =
      let r = w.room in
      rw w.held (part_middle d (take at l) xs (drop (at + length xs) l) at k (length-take-le at l (omega arith)) h)

  -- what was overwritten whole does not count
  pub written_over : {l o o' : List A} {at a p q : ℕ} {xs ys : List A} → Written l o a xs p → Written o o' at ys q → at ≤ a → p ≤ q → Written l o' at ys q
  unfolding put
  written_over {l} {o} {o'} {at} {a} {p} {q} {xs} {ys} w v before after =
      let e = written_length w in
      let room = w.room in
      let pa = w.after in
      let qa = v.after in
      let ta : length (take a l) ≡ a = length-take-le a l (omega arith) in
      let rest : List A = drop (a + length xs) l in
      let head : List A = take a l ++ xs in
      let n : length head ≡ a + length xs = length-append (take a l) xs ∙ omega arith in
      let front : take at (take a l ++ (xs ++ rest)) ≡ take at l =
      take-append-le at (take a l) (xs ++ rest) (omega arith) ∙ take-take at a l before in
      let k : ℕ = at + length ys - (a + length xs) in
      let m : at + length ys ≡ length head + k = omega arith in
      let m' : a + length xs + k ≡ at + length ys = omega arith in
      let back : drop (at + length ys) (take a l ++ (xs ++ rest)) ≡ drop (at + length ys) l =
      ap (drop (at + length ys)) (sym (append_assoc (take a l) xs rest))
      ∙ ap (λ (i : ℕ). drop i (head ++ rest)) m
      ∙ drop-append-add head rest k
      ∙ drop-drop k (a + length xs) l
      ∙ ap (λ (i : ℕ). drop i l) m' in
      record { held = rw (v.held, w.held, front, back); room = omega arith; after = v.after }

  -- what stands right after it counts as written
  pub written_beside : (d : A) {l o : List A} {at p : ℕ} {xs : List A} (k : ℕ) → Written l o at xs p → p + k ≤ length l
      → Written l o at (xs ++ part d l p k) (p + k)
  unfolding put
  written_beside d {l} {o} {at} {p} {xs} k w h =
      let n = length-append xs (part d l p k) in
      let m = length_part d l p k in
      let a = w.after in
      let end : p + k ≡ at + length (xs ++ part d l p k) = omega arith in
      let split : drop (at + length xs) l ≡ part d l p k ++ drop (at + length (xs ++ part d l p k)) l =
      ap (λ (i : ℕ). drop i l) (sym a)
      ∙ sym (take-append-drop k (drop p l))
      ∙ ap₂ (λ (x y : List A). x ++ y) (sym (part_take d l p k h)) (drop-drop k p l ∙ ap (λ (i : ℕ). drop i l) end) in
      record { held = rw (w.held, split) (simp append_assoc); room = omega arith; after = omega arith }
