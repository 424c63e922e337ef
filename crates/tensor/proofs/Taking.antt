-- The patch that a record makes, as it stands in the list. Assumes nothing.
use Prim.Native.Nat.{ℕ, zero, suc, ◌+◌, ◌*◌, ◌≤◌}
use mathlib.Core.Path.{◌≡◌, refl, sym, ap, ap₂, ◌∙◌}
use mathlib.Core.List.{List, [], ◌∷◌, ◌++◌, append-nil, append_assoc}
use mathlib.Core.Option.{some}
use Rattle.std.specs.Prelude.{Option, Some, IfSome}
use native.Mathlib.Nat.{zero-add, add-zero, add-suc, one-mul, zero-mul, suc-mul, mul-le-mul_right}
use native.Mathlib.Omega.{arith}
use lib.ListN.{length, get_elem?, take, drop, length-append, length-drop}
use lib.Seq.{drop-drop, take_at, drop_at, length-take-le}
use Rattle.lists.specs.Lists.{joined, part, flat}
use Rattle.lists.proofs.Pieces.{joined_same, length_part, part_take, part_then}
use Rattle.rules.specs.Patches.{patch, Places, at, sides}
use Rattle.rules.specs.Meshes.{groups, size_after}
use Rattle.meshes.proofs.Parts.{part_first, part_second}
use Rattle.tensor.specs.declared.raw.Coons.{Coons}
use Rattle.tensor.specs.Inner.Standing.{patch_in, Sized, Takes}
use Rattle.tensor.proofs.Rows.{groups_of_part}

-- ---- groups of numbers

groups_then : (xs : List ℕ) (p j k m : ℕ) → groups 0 xs p (j + k) m ≡ groups 0 xs p j m ++ groups 0 xs (p + j * m) k m
unfolding groups joined
groups_then xs p j zero m = rw (add-zero j, append-nil)
groups_then xs p j (suc k) m =
    let next : p + (j + k) * m ≡ p + j * m + k * m = omega arith in
    rw (add-suc j k, groups_then xs p j k m, next)
    (append_assoc (groups 0 xs p j m) (groups 0 xs (p + j * m) k m) (part 0 xs (p + j * m + k * m) m ∷ []))

module _ (a b : List ℕ) (m j : ℕ) (long : length a ≡ j * m) where
  groups_first : groups 0 (a ++ b) 0 j m ≡ groups 0 a 0 j m
  unfolding groups
  groups_first =
      joined_same j _ _
      (λ i l. ap (λ (x : List ℕ). x ∷ []) (part_first 0 a b (0 + i * m) m (omega (arith, mul-le-mul_right m l, suc-mul i m, zero-add (i * m)))))

  groups_second : (k : ℕ) → groups 0 (a ++ b) (j * m) k m ≡ groups 0 b 0 k m
  unfolding groups
  groups_second k =
      joined_same k _ _
      (λ i l. ap (λ (x : List ℕ). x ∷ []) (rw (← long) (part_second 0 a b (i * m) m) ∙ ap (λ (p : ℕ). part 0 b p m) (sym (zero-add (i * m)))))

-- the groups of two copies side by side
pub groups_of_copies : (a : List ℕ) (p j : ℕ) (b : List ℕ) (q k m : ℕ)
    → groups 0 (part 0 a p (j * m) ++ part 0 b q (k * m)) 0 (j + k) m ≡ groups 0 a p j m ++ groups 0 b q k m
groups_of_copies a p j b q k m =
    let x : List ℕ = part 0 a p (j * m) in
    let y : List ℕ = part 0 b q (k * m) in
    let long : length x ≡ j * m = length_part 0 a p (j * m) in
    groups_then (x ++ y) 0 j k m
    ∙ ap₂ (λ (l r : List (List ℕ)). l ++ r)
    (groups_first x y m j long ∙ groups_of_part 0 a p j m)
    (ap (λ (z : ℕ). groups 0 (x ++ y) z k m) (zero-add (j * m)) ∙ groups_second x y m j long k ∙ groups_of_part 0 b q k m)

-- ---- what follows a flag

four_colours : (n : ℕ) (xs : List ℕ) (p : ℕ)
    → groups 0 xs p 4 n ≡ part 0 xs p n ∷ part 0 xs (p + n) n ∷ part 0 xs (p + n + n) n ∷ part 0 xs (p + n + n + n) n ∷ []
unfolding groups joined
four_colours n xs p =
    let two : p + 2 * n ≡ p + n + n = omega arith in
    let three : p + 3 * n ≡ p + n + n + n = omega arith in
    rw (zero-mul n, add-zero p, one-mul n, two, three)

two_colours : (n : ℕ) (xs : List ℕ) (p : ℕ) → groups 0 xs p 2 n ≡ part 0 xs p n ∷ part 0 xs (p + n) n ∷ []
unfolding groups joined
two_colours n xs p = rw (zero-mul n, add-zero p, one-mul n)

-- what is split off a list whose numbers from p on are r
record Off (n : ℕ) (xs : List ℕ) (p : ℕ) (r a s : List ℕ) : Type 0 where
  part_is : part 0 xs p n ≡ a
  rest_is : drop (p + n) xs ≡ s

off : (n : ℕ) (xs : List ℕ) (p : ℕ) {r a s : List ℕ} → p + n ≤ length xs → drop p xs ≡ r → a ≡ take n r → s ≡ drop n r → Off n xs p r a s
off n xs p h e f g =
    record {
      part_is = part_take 0 xs p n h ∙ ap (take n) e ∙ sym f;
      rest_is = sym (drop-drop n p xs) ∙ ap (drop n) e ∙ sym g;
    }

-- ---- the patch

two_parts : (a : List ℕ) (p j : ℕ) (b : List ℕ) (q k : ℕ) → length (part 0 a p j ++ part 0 b q k) ≡ j + k
two_parts a p j b q k = rw (length-append, length_part 0 a p j, length_part 0 b q k) refl

-- two colours side by side
record Halves (n : ℕ) (xs : List ℕ) (p : ℕ) (a : List ℕ) : Type 0 where
  first : part 0 xs p n ≡ take n a
  second : part 0 xs (p + n) n ≡ drop n a
  long : length a ≡ 2 * n

halves : (n : ℕ) (xs : List ℕ) (p : ℕ) {a : List ℕ} → part 0 xs p (2 * n) ≡ a → Halves n xs p a
halves n xs p {a} e =
    let two : 2 * n ≡ n + n = omega arith in
    let both : a ≡ part 0 xs p n ++ part 0 xs (p + n) n = sym e ∙ ap (part 0 xs p) two ∙ part_then 0 xs p n n in
    let m = length_part 0 xs p n in
    record {
      first = rw both (sym (take_at (part 0 xs p n) (part 0 xs (p + n) n) n m));
      second = rw both (sym (drop_at (part 0 xs p n) (part 0 xs (p + n) n) n m));
      long = ap length (sym e) ∙ length_part 0 xs p (2 * n);
    }

-- the record's patch, how long its parts are, and what comes after it
pub record Taken (n : ℕ) (before : Option Coons) (f : ℕ) (own : List ℕ) (c : Coons) (rest : List ℕ) : Type 0 where
  pub taken : Takes n before f own c
  pub sized : Sized n c
  pub rest_is : rest ≡ drop (size_after 8 n f) own

module _ (n : ℕ) (own : List ℕ) where
  pub takes_first : {before : Option Coons} {flag : ℕ} (c : Coons) {q r0 r1 r2 rest : List ℕ} → flag ≡ 0 → size_after 8 n flag ≤ length own
      → c.side ≡ take 8 own → q ≡ drop 8 own → c.others.now ≡ take 16 q → r0 ≡ drop 16 q
      → c.c00.now ≡ take n r0 → r1 ≡ drop n r0 → c.c03.now ≡ take n r1 → r2 ≡ drop n r1 → c.c33_c30.now ≡ take (2 * n) r2 → rest ≡ drop (2 * n) r2
      → Taken n before flag own c rest
  unfolding patch_in
  takes_first {before} {flag} c {q} {r0} {r1} {r2} {rest} z there side eq others e0 c00 e1 c03 e2 last e3 =
      let h : size_after 8 n 0 ≤ length own = rw z at there in
      let g = off 8 own 0 (omega arith) refl side eq in
      let o = off 16 own 8 (omega arith) g.rest_is others e0 in
      let a = off n own 24 (omega arith) o.rest_is c00 e1 in
      let d = off n own (24 + n) (omega arith) a.rest_is c03 e2 in
      let e = off (2 * n) own (24 + n + n) (omega arith) d.rest_is last e3 in
      let f = halves n own (24 + n + n) e.part_is in
      let all : 24 + n + n + 2 * n ≡ size_after 8 n 0 = omega arith in
      let points : groups 0 own 0 12 2 ≡ groups 0 c.side 0 4 2 ++ groups 0 c.others.now 0 8 2 =
      groups_then own 0 4 8 2
      ∙ ap₂ (λ (x y : List (List ℕ)). x ++ y)
      (sym (groups_of_part 0 own 0 4 2) ∙ ap (λ (l : List ℕ). groups 0 l 0 4 2) g.part_is)
      (sym (groups_of_part 0 own 8 8 2) ∙ ap (λ (l : List ℕ). groups 0 l 0 8 2) o.part_is) in
      rw z (record {
        taken = ap₂ (λ (ps cs : List (List ℕ)). some (patch ps cs)) points (four_colours n own 24 ∙ rw (a.part_is, d.part_is, f.first, f.second) refl);
        sized =
            record {
              side = ap length (sym g.part_is) ∙ length_part 0 own 0 8;
              others = ap length (sym o.part_is) ∙ length_part 0 own 8 16;
              c00 = ap length (sym a.part_is) ∙ length_part 0 own 24 n;
              c03 = ap length (sym d.part_is) ∙ length_part 0 own (24 + n) n;
              c33_c30 = f.long;
            };
        rest_is = sym e.rest_is ∙ ap (λ (k : ℕ). drop k own) all;
      })

  -- flags 1 to 3: side s of the patch before, then what the record brings
  module _ {before : Option Coons} {flag : ℕ} {b : Coons} (came : before ≡ Some b) (sized : IfSome before (Sized n))
      (c : Coons) {r0 rest : List ℕ} (there : size_after 8 n flag ≤ length own)
      (others : c.others.now ≡ take 16 own) (e0 : r0 ≡ drop 16 own) (last : c.c33_c30.now ≡ take (2 * n) r0) (e1 : rest ≡ drop (2 * n) r0) where
    pub takes_joined : (f : ℕ) (s : Places) → flag ≡ suc f → get_elem? sides f ≡ some s
        → at (groups 0 b.side 0 4 2 ++ groups 0 b.others.now 0 8 2) s.points ≡ groups 0 c.side 0 4 2
        → at (b.c00.now ∷ b.c03.now ∷ take n b.c33_c30.now ∷ drop n b.c33_c30.now ∷ []) s.colours ≡ c.c00.now ∷ c.c03.now ∷ []
        → length c.side ≡ 8 → length c.c00.now ≡ n → length c.c03.now ≡ n
        → Taken n before flag own c rest
    unfolding patch_in
    takes_joined f s is-flag t ps cs eight u v =
        let h : size_after 8 n (suc f) ≤ length own = rw is-flag at there in
        let o = off 16 own 0 (omega arith) refl others e0 in
        let a = off (2 * n) own 16 (omega arith) o.rest_is last e1 in
        let d = halves n own 16 a.part_is in
        let all : 16 + 2 * n ≡ size_after 8 n (suc f) = omega arith in
        let points : groups 0 own 0 8 2 ≡ groups 0 c.others.now 0 8 2 =
        sym (groups_of_part 0 own 0 8 2) ∙ ap (λ (l : List ℕ). groups 0 l 0 8 2) o.part_is in
        rw (came, is-flag) (record {
          taken = rw (t, ps, cs, points, two_colours n own 16, d.first, d.second) refl;
          sized =
              record {
                side = eight;
                others = ap length (sym o.part_is) ∙ length_part 0 own 0 16;
                c00 = u;
                c03 = v;
                c33_c30 = d.long;
              };
          rest_is = sym a.rest_is ∙ ap (λ (k : ℕ). drop k own) all;
        })

    -- the three sides
    pub takes_one : flag ≡ 1 → c.side ≡ take 2 (drop 6 b.side) ++ take 6 b.others.now → c.c00.now ≡ b.c03.now → c.c03.now ≡ take n b.c33_c30.now
        → Taken n before flag own c rest
    unfolding at flat groups joined
    takes_one is-flag side c00 c03 =
        let w : Sized n b = rw came at sized in
        let one : part 0 b.side 6 2 ≡ take 2 (drop 6 b.side) = part_take 0 b.side 6 2 (omega (arith, w.side)) in
        let three : part 0 b.others.now 0 6 ≡ take 6 b.others.now = part_take 0 b.others.now 0 6 (omega (arith, w.others)) in
        let copies : c.side ≡ part 0 b.side 6 2 ++ part 0 b.others.now 0 6 = side ∙ sym (ap₂ (λ (x y : List ℕ). x ++ y) one three) in
        takes_joined 0 (patch (3 ∷ 4 ∷ 5 ∷ 6 ∷ []) (1 ∷ 2 ∷ [])) is-flag refl
        (sym (ap (λ (l : List ℕ). groups 0 l 0 4 2) copies ∙ groups_of_copies b.side 6 1 b.others.now 0 3 2))
        (rw (c00, c03) refl) (ap length copies ∙ two_parts b.side 6 2 b.others.now 0 6) (ap length c00 ∙ w.c03) (ap length c03 ∙ length-take-le n b.c33_c30.now (omega (arith, w.c33_c30)))

    pub takes_two : flag ≡ 2 → c.side ≡ take 8 (drop 4 b.others.now) → c.c00.now ≡ take n b.c33_c30.now → c.c03.now ≡ drop n b.c33_c30.now → Taken n before flag own c rest
    unfolding at flat groups joined
    takes_two is-flag side c00 c03 =
        let w : Sized n b = rw came at sized in
        let is : part 0 b.others.now 4 8 ≡ take 8 (drop 4 b.others.now) = part_take 0 b.others.now 4 8 (omega (arith, w.others)) in
        takes_joined 1 (patch (6 ∷ 7 ∷ 8 ∷ 9 ∷ []) (2 ∷ 3 ∷ [])) is-flag refl
        (sym (ap (λ (l : List ℕ). groups 0 l 0 4 2) (side ∙ sym is) ∙ groups_of_part 0 b.others.now 4 4 2))
        (rw (c00, c03) refl) (ap length (side ∙ sym is) ∙ length_part 0 b.others.now 4 8) (ap length c00 ∙ length-take-le n b.c33_c30.now (omega (arith, w.c33_c30))) (ap length c03 ∙ rw length-drop (omega (arith, w.c33_c30)))

    pub takes_three : flag ≡ 3 → c.side ≡ take 6 (drop 10 b.others.now) ++ take 2 b.side → c.c00.now ≡ drop n b.c33_c30.now → c.c03.now ≡ b.c00.now
        → Taken n before flag own c rest
    unfolding at flat groups joined
    takes_three is-flag side c00 c03 =
        let w : Sized n b = rw came at sized in
        let three : part 0 b.others.now 10 6 ≡ take 6 (drop 10 b.others.now) = part_take 0 b.others.now 10 6 (omega (arith, w.others)) in
        let one : part 0 b.side 0 2 ≡ take 2 b.side = part_take 0 b.side 0 2 (omega (arith, w.side)) in
        let copies : c.side ≡ part 0 b.others.now 10 6 ++ part 0 b.side 0 2 = side ∙ sym (ap₂ (λ (x y : List ℕ). x ++ y) three one) in
        takes_joined 2 (patch (9 ∷ 10 ∷ 11 ∷ 0 ∷ []) (3 ∷ 0 ∷ [])) is-flag refl
        (sym (ap (λ (l : List ℕ). groups 0 l 0 4 2) copies ∙ groups_of_copies b.others.now 10 3 b.side 0 1 2))
        (rw (c00, c03) refl) (ap length copies ∙ two_parts b.others.now 10 6 b.side 0 2) (ap length c00 ∙ rw length-drop (omega (arith, w.c33_c30))) (ap length c03 ∙ w.c00)
