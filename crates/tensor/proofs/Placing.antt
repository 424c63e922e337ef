-- What stores at every second place come to. Assumes nothing.
use Prim.Native.Nat.{ℕ, zero, suc, ◌+◌, ◌≤◌, ◌<◌}
use mathlib.Core.Path.{◌≡◌, refl, sym, ap, ◌∙◌, subst}
use mathlib.Core.List.{List, [], ◌∷◌, ◌++◌, map}
use native.Mathlib.Nat.{zero-add, add-zero, suc-add, add_assoc}
use native.Mathlib.Omega.{arith}
use lib.ListN.{length, get_or, take, drop, set, length-drop, take-append-drop}
use lib.Seq.{length-take-le, drop-drop}
use Rattle.lists.specs.Lists.{joined, part, flat}
use Rattle.lists.specs.Writing.{put, Written}
use Rattle.lists.proofs.Members.{get_d_same}
use Rattle.rules.specs.Meshes.{groups}
use Rattle.tensor.specs.Turning.{Turning, inner_names, inner_point}
use Rattle.tensor.specs.Inner.Placing.{spaced, inner_along}

module _ {A : Type 0} where
  set-behind : (front l : List A) (i : ℕ) (x : A) → set (front ++ l) (length front + i) x ≡ front ++ set l i x
  set-behind [] l i x = ap (λ (k : ℕ). set l k x) (zero-add i)
  set-behind (y ∷ front) l i x =
      ap (λ (k : ℕ). set (y ∷ (front ++ l)) k x) (suc-add (length front) i) ∙ ap (λ (m : List A). y ∷ m) (set-behind front l i x)

  spaced_behind : (front l : List A) (i : ℕ) (xs : List A) → spaced (front ++ l) (length front + i) xs ≡ front ++ spaced l i xs
  spaced_behind front l i [] = refl
  spaced_behind front l i (x ∷ xs) = rw (set-behind front l i x, add_assoc) (spaced_behind front (set l i x) (i + 2) xs)

  module _ (x0 x1 x2 x3 y0 y1 y2 y3 : A) where
    abbrev pub every_second : List A → ℕ → List A
    every_second l at = spaced (spaced l at (x0 ∷ x1 ∷ x2 ∷ x3 ∷ [])) (at + 1) (y0 ∷ y1 ∷ y2 ∷ y3 ∷ [])

    abbrev pub in_turn : List A
    in_turn = x0 ∷ y0 ∷ x1 ∷ y1 ∷ x2 ∷ y2 ∷ x3 ∷ y3 ∷ []

    at_front : (l : List A) → 8 ≤ length l → every_second l 0 ≡ in_turn ++ drop 8 l
    at_front [] h = absurd (omega arith)
    at_front (_ ∷ []) h = absurd (omega arith)
    at_front (_ ∷ _ ∷ []) h = absurd (omega arith)
    at_front (_ ∷ _ ∷ _ ∷ []) h = absurd (omega arith)
    at_front (_ ∷ _ ∷ _ ∷ _ ∷ []) h = absurd (omega arith)
    at_front (_ ∷ _ ∷ _ ∷ _ ∷ _ ∷ []) h = absurd (omega arith)
    at_front (_ ∷ _ ∷ _ ∷ _ ∷ _ ∷ _ ∷ []) h = absurd (omega arith)
    at_front (_ ∷ _ ∷ _ ∷ _ ∷ _ ∷ _ ∷ _ ∷ []) h = absurd (omega arith)
    at_front (_ ∷ _ ∷ _ ∷ _ ∷ _ ∷ _ ∷ _ ∷ _ ∷ l) h = refl

    behind : (front l : List A) (at : ℕ) → length front ≡ at → every_second (front ++ l) at ≡ front ++ every_second l 0
    behind front l at e =
        let xs : List A = x0 ∷ x1 ∷ x2 ∷ x3 ∷ [] in
        let ys : List A = y0 ∷ y1 ∷ y2 ∷ y3 ∷ [] in
        let some : List A = spaced l 0 xs in
        let first : spaced (front ++ l) at xs ≡ front ++ some =
        subst (λ (i : ℕ). spaced (front ++ l) i xs ≡ front ++ some) (add-zero (length front) ∙ e) (spaced_behind front l 0 xs) in
        let second : spaced (front ++ some) (at + 1) ys ≡ front ++ spaced some 1 ys =
        subst (λ (i : ℕ). spaced (front ++ some) (i + 1) ys ≡ front ++ spaced some 1 ys) e (spaced_behind front some 1 ys) in
        ap (λ (m : List A). spaced m (at + 1) ys) first ∙ second

    -- two fours, one from at and the other from at + 1
    pub interleaved : (l : List A) (at : ℕ) → at + 8 ≤ length l → Written l (every_second l at) at in_turn (at + 8)
    unfolding put
    interleaved l at h =
        let front : List A = take at l in
        let there : 8 ≤ length (drop at l) = rw length-drop (omega arith) in
        record {
          held =
              ap (λ (m : List A). every_second m at) (sym (take-append-drop at l))
              ∙ behind front (drop at l) at (length-take-le at l (omega arith))
              ∙ ap (λ (m : List A). front ++ m) (at_front (drop at l) there ∙ ap (λ (m : List A). in_turn ++ m) (drop-drop 8 at l));
          room = h;
          after = refl;
        }

-- the inner points, one axis after the other
pub inner_placed : {A B : Type 0} (T : Turning A B) (points : List (List A)) (l : List B) (at : ℕ) → at + 8 ≤ length l
    → Written l (spaced (spaced l at (inner_along T points 0)) (at + 1) (inner_along T points 1)) at
    (flat (λ x. x) (map (inner_point T points) inner_names)) (at + 8)
unfolding flat
inner_placed T points l at h = interleaved _ _ _ _ _ _ _ _ l at h

-- what an index into a list answers
pub number_at : {A : Type 0} (l : List A) (i : ℕ) (d : A) {x : A} → i < length l → x ≡ get_or l i x → x ≡ get_or l i d
number_at l i d {x} h e = e ∙ get_d_same l i x d h

-- the inner four along an axis, from the numbers of the border
module _ {A B : Type 0} (T : Turning A B) (b : List A) (axis : ℕ) where
  abbrev pub first : A
  first = get_or b axis T.missing

  abbrev pub beyond : ℕ → A
  beyond place = get_or b (axis + place) T.missing

  abbrev pub along11 : B
  along11 = T.inner first (beyond 2) (beyond 22) (beyond 6) (beyond 18) (beyond 16) (beyond 8) (beyond 12)

  abbrev pub along12 : B
  along12 = T.inner (beyond 6) (beyond 4) (beyond 8) first (beyond 12) (beyond 14) (beyond 22) (beyond 18)

  abbrev pub along22 : B
  along22 = T.inner (beyond 12) (beyond 14) (beyond 10) (beyond 18) (beyond 6) (beyond 4) (beyond 20) first

  abbrev pub along21 : B
  along21 = T.inner (beyond 18) (beyond 16) (beyond 20) (beyond 12) first (beyond 2) (beyond 10) (beyond 6)

module _ {A B : Type 0} (T : Turning A B) (b : List A) where
  along_is : (axis : ℕ) → axis ≤ 1
      → along11 T b axis ∷ along12 T b axis ∷ along22 T b axis ∷ along21 T b axis ∷ [] ≡ inner_along T (groups T.missing b 0 12 2) axis
  unfolding groups part joined
  along_is zero h = refl
  along_is (suc zero) h = refl
  along_is (suc (suc k)) h = absurd (omega arith)

  -- the four stores
  pub stored_along : (axis : ℕ) → axis ≤ 1 → (l : List B) (at : ℕ) {x11 x12 x22 x21 : B}
      → x11 ≡ along11 T b axis → x12 ≡ along12 T b axis → x22 ≡ along22 T b axis → x21 ≡ along21 T b axis
      → set (set (set (set l at x11) (at + 2) x12) (at + 4) x22) (at + 6) x21 ≡ spaced l at (inner_along T (groups T.missing b 0 12 2) axis)
  stored_along axis h l at e f g k =
      rw (← (add_assoc at 4 2), ← (add_assoc at 2 2), e, f, g, k) (ap (spaced l at) (along_is axis h))
