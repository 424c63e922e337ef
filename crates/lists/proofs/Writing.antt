-- What was written: nothing, one element more, another list right after it, a copy; and what can be read back. Assumes nothing.
use Prim.Native.Nat.{ℕ, ◌+◌, ◌≤◌, ◌<◌}
use mathlib.Core.Path.{◌≡◌, refl, sym, ap, ◌∙◌, subst}
use mathlib.Core.List.{List, [], ◌∷◌, ◌++◌, append_assoc}
use native.Mathlib.Nat.{add-zero, zero-add, add_assoc}
use native.Mathlib.Numerals.{add-one}
use native.Mathlib.Omega.{arith}
use lib.ListN.{length, get_or, take, drop, set, length-append, length-drop, take-append-drop, get_or-append}
use lib.Seq.{length-take-le, take_at, drop-append-add, drop-drop, set_split, get_or-take}
use Rattle.lists.specs.Lists.{joined, part}
use Rattle.lists.specs.Writing.{put, Written}
use Rattle.lists.proofs.Pieces.{joined_more, joined_same, part_then, part_middle}

module _ {A : Type 0} where
  put_nil : (l : List A) (at : ℕ) → l ≡ put l at []
  unfolding put
  put_nil l at = rw add-zero (sym (take-append-drop at l))

  length-put : (l : List A) (at : ℕ) (xs : List A) → at + length xs ≤ length l → length (put l at xs) ≡ length l
  unfolding put
  length-put l at xs h =
      simp (length-append, length-drop, length-take-le at l (omega arith)) (omega arith)

  -- a part, and another right after it, are one part
  put_put : (l : List A) (at : ℕ) (xs ys : List A) (p : ℕ) → at + length xs ≤ length l → p ≡ at + length xs
      → put (put l at xs) p ys ≡ put l at (xs ++ ys)
  unfolding put
  put_put l at xs ys p h e =
      let q : List A = take at l ++ xs in
      let r : List A = drop (at + length xs) l in
      let n : length q ≡ p = simp (length-append, length-take-le at l (omega arith)) (sym e) in
      let d : drop (p + length ys) (q ++ r) ≡ drop (at + length (xs ++ ys)) l =
      rw (← n, drop-append-add, drop-drop, length-append, add_assoc) in
      rw (← (append_assoc (take at l) xs r), take_at q r p n, d) (simp append_assoc)

  -- a store is a part of one element
  put_one : (l : List A) (p : ℕ) (v : A) → p < length l → set l p v ≡ put l p (v ∷ [])
  unfolding put
  put_one l p v h = rw add-one (set_split l p v h)

  -- the output stays as long as it was
  pub written_length : {l out : List A} {at p : ℕ} {xs : List A} → Written l out at xs p → length out ≡ length l
  written_length {l} {out} {at} {p} {xs} w = ap length w.held ∙ length-put l at xs w.room

  pub written_none : (l : List A) (at : ℕ) → at ≤ length l → Written l l at [] at
  written_none l at h = record { held = put_nil l at; room = omega arith; after = omega arith }

  pub written_one : (l : List A) (p : ℕ) (v : A) → p < length l → Written l (set l p v) p (v ∷ []) (p + 1)
  written_one l p v h = record { held = put_one l p v h; room = omega arith; after = refl }

  pub written_then : {l o o' : List A} {at p q : ℕ} {xs ys : List A} → Written l o at xs p → Written o o' p ys q → Written l o' at (xs ++ ys) q
  written_then {l} {o} {o'} {at} {p} {q} {xs} {ys} w v =
      let n = length-append xs ys in
      let e = written_length w in
      record {
        held = rw (v.held, w.held) (put_put l at xs ys p w.room w.after);
        room = omega arith;
        after = omega arith;
      }

  -- one element more; q and p are the same index
  pub written_set : {l o : List A} {at p : ℕ} {xs : List A} (q : ℕ) (v : A) → q ≡ p → q < length l → Written l o at xs p
      → Written l (set o q v) at (xs ++ (v ∷ [])) (q + 1)
  written_set {l} {o} {at} {p} {xs} q v e h w =
      let n = written_length w in
      written_then w (subst (λ (i : ℕ). Written o (set o q v) i (v ∷ []) (q + 1)) e (written_one o q v (omega arith)))

  -- a loop over pieces
  pub written_start : (l : List A) (at : ℕ) (g : ℕ → List A) → at ≤ length l → Written l l at (joined 0 g) at
  unfolding joined
  written_start l at g h = written_none l at h

  pub written_more : (c : ℕ) (g : ℕ → List A) {l o o' : List A} {at p q : ℕ} → Written l o at (joined c g) p → Written o o' p (g c) q
      → Written l o' at (joined (c + 1) g) q
  written_more c g w v = rw joined_more (written_then w v)

  -- a loop that stores one element a turn
  pub written_store : (j : ℕ) (f : ℕ → A) {l o : List A} {at p : ℕ} {v : A} → Written l o at (joined j (λ (k : ℕ). f k ∷ [])) p → p < length l
      → v ≡ f j → Written l (set o p v) at (joined (j + 1) (λ (k : ℕ). f k ∷ [])) (p + 1)
  written_store j f {l} {o} {at} {p} {v} w h e =
      let n = written_length w in
      written_more j (λ (k : ℕ). f k ∷ []) w (rw e (written_one o p (f j) (omega arith)))

  -- a loop that stores two elements a turn
  pub written_store_two : (j : ℕ) (f : ℕ → A) {l o : List A} {at : ℕ} {v w : A} → Written l o at (joined j (λ (k : ℕ). f k ∷ [])) (at + j)
      → at + j + 1 < length l → v ≡ f j → w ≡ f (j + 1)
      → Written l (set (set o (at + j) v) (at + j + 1) w) at (joined (j + 2) (λ (k : ℕ). f k ∷ [])) (at + (j + 2))
  written_store_two j f {l} {o} {at} {v} {w} h r a b =
      let e : j + 1 + 1 ≡ j + 2 = omega arith in
      let q : at + j + 1 + 1 ≡ at + (j + 2) = omega arith in
      rw (e, q) at (written_store (j + 1) f (written_store j f h (omega arith) a) r b)

  -- a loop that copies elements one by one
  pub copy_none : (d : A) (vs l : List A) (at from : ℕ) → at ≤ length l → Written l l at (part d vs from 0) (at + 0)
  unfolding part
  copy_none d vs l at from h = rw add-zero (written_start l at _ h)

  pub copy_more : (d : A) (vs : List A) (from j : ℕ) {l o : List A} {at : ℕ} → at + j < length l
      → Written l o at (part d vs from j) (at + j)
      → Written l (set o (at + j) (get_or vs (from + j) d)) at (part d vs from (j + 1)) (at + (j + 1))
  unfolding part
  copy_more d vs from j {l} {o} {at} h w =
      let e = written_length w in
      rw (← add_assoc) (written_more j _ w (written_one o (at + j) _ (omega arith)))

  -- two elements a turn
  pub copy_two : (d : A) (vs : List A) (from j : ℕ) {l o : List A} {at : ℕ} → at + j + 1 < length l → Written l o at (part d vs from j) (at + j)
      → Written l (set (set o (at + j) (get_or vs (from + j) d)) (at + j + 1) (get_or vs (from + j + 1) d)) at (part d vs from (j + 2)) (at + (j + 2))
  unfolding part
  copy_two d vs from j h w =
      written_store_two j (λ (k : ℕ). get_or vs (from + k) d) w h refl (ap (λ (i : ℕ). get_or vs i d) (add_assoc from j 1))

  -- what stands before the place that was written is as it was
  pub written_before : (d : A) {l o : List A} {at p : ℕ} {xs : List A} (k : ℕ) → Written l o at xs p → k < at → get_or o k d ≡ get_or l k d
  unfolding put
  written_before d {l} {o} {at} {p} {xs} k w h =
      let r = w.room in
      let n : k < length (take at l) = rw (length-take-le at l (omega arith)) h in
      rw (w.held, get_or-append (take at l) (xs ++ drop (at + length xs) l) d k n, get_or-take)

  pub part_before : (d : A) {l o : List A} {at p : ℕ} {xs : List A} (from k : ℕ) → Written l o at xs p → from + k ≤ at
      → part d o from k ≡ part d l from k
  unfolding part
  part_before d {l} {o} {at} {p} {xs} from k w h =
      joined_same k (λ (j : ℕ). get_or o (from + j) d ∷ []) (λ (j : ℕ). get_or l (from + j) d ∷ [])
      (λ j b. ap (λ (v : A). v ∷ []) (written_before d (from + j) w (omega arith)))

  -- a loop that copies elements of the output to a later place
  pub copy_within : (d : A) (from j : ℕ) {l o : List A} {at : ℕ} → from + j < at → at + j < length l
      → Written l o at (part d l from j) (at + j)
      → Written l (set o (at + j) (get_or o (from + j) d)) at (part d l from (j + 1)) (at + (j + 1))
  copy_within d from j {l} {o} {at} b h w =
      subst (λ (v : A). Written l (set o (at + j) v) at (part d l from (j + 1)) (at + (j + 1)))
      (sym (written_before d (from + j) w b)) (copy_more d l from j h w)

  -- two elements a turn, both taken before they are stored
  pub copy_two_within : (d : A) (from j : ℕ) {l o : List A} {at : ℕ} → from + j + 1 < at → at + j + 1 < length l
      → Written l o at (part d l from j) (at + j)
      → Written l (set (set o (at + j) (get_or o (from + j) d)) (at + j + 1) (get_or o (from + j + 1) d)) at (part d l from (j + 2)) (at + (j + 2))
  copy_two_within d from j {l} {o} {at} b h w =
      rw (written_before d (from + j) w (omega arith), written_before d (from + j + 1) w b) (copy_two d l from j h w)

  -- two parts of the output side by side, copied one after the other
  pub copied_then : (d : A) (from j k : ℕ) {l o o' : List A} {at p q : ℕ} → Written l o at (part d l from j) p → Written o o' p (part d o (from + j) k) q
      → from + (j + k) ≤ at → Written l o' at (part d l from (j + k)) q
  copied_then d from j k {l} {o} {o'} {at} {p} {q} w v h =
      rw (part_then d l from j k, ← (part_before d (from + j) k w (omega arith))) (written_then w v)

  -- the front of the output
  pub written_front : {l o : List A} {p : ℕ} {xs : List A} → Written l o 0 xs p → o ≡ xs ++ drop (length xs) l
  unfolding put
  written_front {l} {o} {p} {xs} w = rw zero-add at w.held

  -- what was written can be read back
  pub written_part : (d : A) {l o : List A} {p : ℕ} (xs ys zs : List A) (from k : ℕ) → Written l o 0 (xs ++ (ys ++ zs)) p → length xs ≡ from
      → length ys ≡ k → part d o from k ≡ ys
  written_part d {l} {o} {p} xs ys zs from k w a b =
      rw (written_front w, append_assoc, append_assoc) (part_middle d xs ys (zs ++ drop (length (xs ++ (ys ++ zs))) l) from k a b)

  pub written_take : {l o : List A} {p : ℕ} {xs : List A} → Written l o 0 xs p → take p o ≡ xs
  written_take {l} {o} {p} {xs} w = rw (written_front w) (take_at xs (drop (length xs) l) p (omega (arith, w.after)))
