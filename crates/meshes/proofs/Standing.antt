-- What the numbers of a record come to, by the places where they stand: once for bits and for a list. Assumes nothing.
use Prim.Native.Nat.{ℕ, zero, suc, ◌+◌, ◌*◌, ◌<◌}
use mathlib.Core.Path.{◌≡◌, refl, ap, ◌∙◌}
use mathlib.Core.List.{List, [], ◌∷◌, ◌++◌, append-nil}
use native.Mathlib.Nat.{add-zero, zero-add, add_comm, suc-mul, mul-le-mul_right, le_of_suc-le-suc}
use native.Mathlib.Omega.{arith}
use lib.ListN.{length, get_or, drop, replicate}
use lib.Seq.{drop-drop, get_or-drop, take_at, drop_at}
use lib.Ieee.{Float, nan}
use Rattle.lists.specs.Lists.{joined, part, flat}
use Rattle.lists.proofs.Pieces.{joined_same, length_singles, length_part, part_then, flat_joined}
use Rattle.bits.specs.Bits.{stream, field_at}
use Rattle.decode.specs.Decode.{Ranges, value_of}
use Rattle.colour.specs.Colour.{colour_row}
use Rattle.colour.specs.Inner.Places.{Numbers, bit_numbers, list_numbers, point_at, components_at, vertex_at, points_at, colours_at}
use Rattle.colour.proofs.Lengths.{length-colour_row}
use Rattle.records.specs.Format.{numbers, Meaning}
use Rattle.rules.specs.Meshes.{Source, vertex_row, groups}
use Rattle.meshes.specs.Decoded.{decoded, by_decode, as_listed}

-- ---- sources that make each number a value by its kind

pub record SourceReads {A : Type 0} (S : Source A Float) : Type 0 where
  pub value : ℕ → A → Float
  pub point_of : (xs : List A) (from : ℕ)
      → S.point (part S.missing xs from 2) ≡ value 0 (get_or xs (from + 0) S.missing) ∷ value 1 (get_or xs (from + 1) S.missing) ∷ []
  pub colour_of_lem : (xs : List A) (from n : ℕ)
      → S.colour (part S.missing xs from n) ≡ colour_row (joined n (λ (j : ℕ). value (2 + j) (get_or xs (from + j) S.missing) ∷ []))
  pub point_sized : (xs : List A) → length xs ≡ 2 → length (S.point xs) ≡ 2
  pub colour_sized : (n : ℕ) (xs : List A) → length xs ≡ n → length (S.colour xs) ≡ 8 + n

module _ (R : Ranges) where
  decoded_append : (k : ℕ) (xs ys : List ℕ) → decoded R k (xs ++ ys) ≡ decoded R k xs ++ decoded R (k + length xs) ys
  unfolding decoded
  decoded_append k [] ys = rw add-zero
  decoded_append k (x ∷ xs) ys =
      let e : k + 1 + length xs ≡ k + suc (length xs) = omega arith in
      rw (decoded_append (k + 1) xs ys, e)

  length-decoded : (k : ℕ) (xs : List ℕ) → length (decoded R k xs) ≡ length xs
  unfolding decoded
  length-decoded k [] = refl
  length-decoded k (x ∷ xs) = ap suc (length-decoded (k + 1) xs)

  decoded_singles : (k n : ℕ) (g : ℕ → ℕ)
      → decoded R k (joined n (λ (j : ℕ). g j ∷ [])) ≡ joined n (λ (j : ℕ). value_of (g j) (R (k + j)).scale (R (k + j)).min ∷ [])
  unfolding joined
  decoded_singles k zero g = unfold decoded in refl
  decoded_singles k (suc n) g =
      decoded_append k (joined n (λ (j : ℕ). g j ∷ [])) (g n ∷ [])
      ∙ rw (decoded_singles k n g, length_singles g n) (unfold decoded in refl)

pub reads_decode : (flag : Meaning) (R : Ranges) → SourceReads (by_decode flag R)
unfolding part joined decoded
reads_decode flag R =
    record {
      value = λ kind x. value_of x (R kind).scale (R kind).min;
      point_of = λ xs from. refl;
      colour_of_lem = λ xs from n. ap colour_row (decoded_singles R 2 n (λ (j : ℕ). get_or xs (from + j) 0));
      point_sized = λ xs e. length-decoded R 0 xs ∙ e;
      colour_sized = λ n xs e. length-colour_row (decoded R 2 xs) ∙ ap (λ (k : ℕ). 8 + k) (length-decoded R 2 xs ∙ e);
    }

pub reads_listed : SourceReads as_listed
unfolding part joined
reads_listed =
    record {
      value = λ kind x. x;
      point_of = λ xs from. refl;
      colour_of_lem = λ xs from n. refl;
      point_sized = λ xs e. e;
      colour_sized = λ n xs e. length-colour_row xs ∙ ap (λ (k : ℕ). 8 + k) e;
    }

-- ---- numbers that stand at places

-- so many coordinates and components of a list, from index from, are the numbers at place p and on
pub record Stands {A : Type 0} {S : Source A Float} (reads : SourceReads S) (N : Numbers) (xs : List A) (coord comp coords comps from p : ℕ) : Type 0 where
  pub coords_are : (kind j i q : ℕ) → j < coords → i ≡ from + j → q ≡ p + j * coord → reads.value kind (get_or xs i S.missing) ≡ N coord kind q
  pub comps_are : (kind j i q : ℕ) → j < comps → i ≡ from + coords + j → q ≡ p + coords * coord + j * comp
      → reads.value kind (get_or xs i S.missing) ≡ N comp kind q

-- what is made of groups, one after the other
flat_groups : {A B : Type 0} (d : A) (f : List A → List B) (xs : List A) (from k m : ℕ)
    → flat f (groups d xs from k m) ≡ joined k (λ (i : ℕ). f (part d xs (from + i * m) m))
unfolding groups flat
flat_groups d f xs from k m =
    flat_joined f k (λ (i : ℕ). part d xs (from + i * m) m ∷ [])
    ∙ joined_same k _ _ (λ i h. append-nil (f (part d xs (from + i * m) m)))

module _ {A : Type 0} {S : Source A Float} (reads : SourceReads S) (N : Numbers) (xs : List A) (coord comp : ℕ) where
  point_is : (i p : ℕ) → reads.value 0 (get_or xs (i + 0) S.missing) ≡ N coord 0 p
      → reads.value 1 (get_or xs (i + 1) S.missing) ≡ N coord 1 (p + coord) → S.point (part S.missing xs i 2) ≡ point_at N coord p
  unfolding point_at
  point_is i p x y = rw (reads.point_of xs i, x, y)

  colour_is : (n i p : ℕ) → ((j : ℕ) → j < n → reads.value (2 + j) (get_or xs (i + j) S.missing) ≡ N comp (2 + j) (p + j * comp))
      → S.colour (part S.missing xs i n) ≡ colour_row (components_at N comp n p)
  unfolding components_at
  colour_is n i p h = reads.colour_of_lem xs i n ∙ ap colour_row (joined_same n _ _ (λ j l. ap (λ (v : Float). v ∷ []) (h j l)))

  -- a vertex
  pub vertex_is : (n from p : ℕ) → Stands reads N xs coord comp 2 n from p
      → vertex_row S (part S.missing xs from (n + 2)) ≡ vertex_at N coord comp n p
  unfolding vertex_at
  vertex_is n from p h =
      let d : A = S.missing in
      let a : List A = part d xs from 2 in
      let b : List A = part d xs (from + 2) n in
      let e : part d xs from (n + 2) ≡ a ++ b = ap (part d xs from) (add_comm n 2) ∙ part_then d xs from 2 n in
      let l : length a ≡ 2 = length_part d xs from 2 in
      rw (
        e,
        take_at a b 2 l,
        drop_at a b 2 l,
        point_is from p (h.coords_are 0 0 _ _ (omega arith) refl (omega arith)) (h.coords_are 1 1 _ _ (omega arith) refl (omega arith)),
        colour_is n (from + 2) (p + 2 * coord) (λ j k. h.comps_are (2 + j) j _ _ k refl refl),
      )

  -- k points, then m colours, of a list that begins with them
  module _ (k m n p : ℕ) (h : Stands reads N xs coord comp (2 * k) (m * n) 0 p) where
    pub points_are : flat S.point (groups S.missing xs 0 k 2) ≡ points_at N coord k p
    unfolding points_at
    points_are =
        flat_groups S.missing S.point xs 0 k 2
        ∙ joined_same k _ _ (λ i l.
        point_is (0 + i * 2) (p + i * (2 * coord))
        (h.coords_are 0 (i * 2) _ _ (omega arith) (omega arith) (omega arith))
        (h.coords_are 1 (i * 2 + 1) _ _ (omega arith) (omega arith) (omega arith)))

    pub colours_are : flat S.colour (groups S.missing xs (2 * k) m n) ≡ colours_at N comp n m (p + k * (2 * coord))
    unfolding colours_at
    colours_are =
        flat_groups S.missing S.colour xs (2 * k) m n
        ∙ joined_same m _ _ (λ i l.
        colour_is n (2 * k + i * n) (p + k * (2 * coord) + i * (n * comp))
        (λ j b. h.comps_are (2 + j) (i * n + j) _ _ (omega (arith, mul-le-mul_right n l, suc-mul i n)) (omega arith) (omega arith)))

-- the same numbers in another list
pub stands_moved : {A : Type 0} {S : Source A Float} {reads : SourceReads S} {N : Numbers} {xs ys : List A} {coord comp coords comps from at p : ℕ}
    → Stands reads N ys coord comp coords comps at p
    → ((j : ℕ) → j < coords + comps → get_or xs (from + j) S.missing ≡ get_or ys (at + j) S.missing)
    → Stands reads N xs coord comp coords comps from p
stands_moved {A} {S} {reads} {N} {xs} {ys} {coord} {comp} {coords} {comps} {from} {at} {p} h same =
    record {
      coords_are = λ kind j i q l e f. rw e (ap (reads.value kind) (same j (omega arith)) ∙ h.coords_are kind j (at + j) q l refl f);
      comps_are = λ kind j i q l e f.
          let g : i ≡ from + (coords + j) = omega arith in
          rw g (ap (reads.value kind) (same (coords + j) (omega arith)) ∙ h.comps_are kind j (at + (coords + j)) q l (omega arith) f);
    }

-- ---- in a list, of which so many have gone

pub in_list : (vs : List Float) (gone coords comps from p : ℕ) → p ≡ gone + from
    → Stands reads_listed (list_numbers vs) (drop gone vs) 1 1 coords comps from p
unfolding list_numbers reads_listed
in_list vs gone coords comps from p e =
    record {
      coords_are = λ kind j i q l f g. there i q (omega arith);
      comps_are = λ kind j i q l f g. there i q (omega arith);
    }
  where
    there : (i q : ℕ) → gone + i ≡ q → get_or (drop gone vs) i nan ≡ get_or vs q nan
    there i q f = get_or-drop gone vs i nan ∙ ap (λ (k : ℕ). get_or vs k nan) f

-- ---- in bits

module _ (s : List ℕ) where
  -- number j of a run of one width
  run_field : (a u : ℕ) (ws : List ℕ) (p j : ℕ) → j < a → get_or (numbers (replicate a u ++ ws) (drop p (stream s))) j 0 ≡ field_at s (p + j * u) u
  unfolding numbers field_at
  run_field zero u ws p j h = absurd (omega arith)
  run_field (suc a) u ws p zero h = let e : p + 0 * u ≡ p = omega arith in rw e
  run_field (suc a) u ws p (suc j) h =
      let e : p + u + j * u ≡ p + suc j * u = omega (arith, suc-mul j u) in
      rw (drop-drop u p (stream s), ← e) (run_field a u ws (p + u) j (le_of_suc-le-suc h))

  -- what comes after a run
  after_run : (a u : ℕ) (ws : List ℕ) (p j : ℕ)
      → get_or (numbers (replicate a u ++ ws) (drop p (stream s))) (a + j) 0 ≡ get_or (numbers ws (drop (p + a * u) (stream s))) j 0
  unfolding numbers
  after_run zero u ws p j = let e : p + 0 * u ≡ p = omega arith in rw (e, zero-add)
  after_run (suc a) u ws p j =
      let e : p + u + a * u ≡ p + suc a * u = omega (arith, suc-mul a u) in
      let i : suc a + j ≡ suc (a + j) = omega arith in
      rw (i, drop-drop u p (stream s), ← e) (after_run a u ws (p + u) j)

  module _ (coord comp coords comps p : ℕ) where
    -- the numbers of a record after its flag
    abbrev pub body_numbers : List ℕ
    body_numbers = numbers (replicate coords coord ++ replicate comps comp) (drop p (stream s))

    pub in_bits : (flag : Meaning) (R : Ranges) → Stands (reads_decode flag R) (bit_numbers s R) body_numbers coord comp coords comps 0 p
    unfolding bit_numbers reads_decode
    in_bits flag R =
        record {
          coords_are = λ kind j i q l e f.
              let g : i ≡ j = omega arith in
              rw (g, f, run_field coords coord (replicate comps comp) p j l);
          comps_are = λ kind j i q l e f.
              let g : i ≡ coords + j = omega arith in
              let there : get_or (numbers (replicate comps comp) (drop (p + coords * coord) (stream s))) j 0 ≡ field_at s (p + coords * coord + j * comp) comp =
              rw (← (append-nil (replicate comps comp))) (run_field comps comp [] (p + coords * coord) j l) in
              rw (g, f, after_run coords coord (replicate comps comp) p j, there);
        }
