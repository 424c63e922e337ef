-- Raw numbers and f64 agree: a border coordinate of f64 times nine is the raw one, an inner one is the raw one over nine, rounded once. Assumes
-- nothing.
use mathlib.Core.Path.{◌≡◌, refl, ap, ap₂, ◌∙◌}
use Prim.Native.Nat.{ℕ, ◌+◌, ◌-◌, ◌*◌, ◌^◌, ◌≤◌, ◌<◌}
use mathlib.Core.Bool.{Bool, true, false, cond}
use mathlib.Core.List.{List, [], ◌∷◌, map}
use native.Mathlib.Omega.{arith}
use lib.ListN.{length, get_or, take, drop, length-map, get_or-map}
use lib.Seq.{take_at, drop_at}
use lib.Dec.{eqb}
use lib.Pow.{pow_mono}
use lib.IntN.{ℤ, pos, neg_ℤ, nat_abs, ◌+ℤ◌, ◌-ℤ◌}
use lib.Ieee.{Float, nan, binary64, round, mul, div, of_int}
use Rattle.lists.specs.Lists.{All, AllBelow}
use Rattle.lists.proofs.Members.{get_d_same}
use Rattle.decode.specs.Floats.{float0}
use Rattle.decode.specs.Decode.{Ranges, ranges}
use Rattle.decode.proofs.Exact.{exact}
use Rattle.records.specs.declared.shape.Kind.TheVariants.{Six}
use Rattle.records.specs.Format.{format, raw_reading, whole_number}
use Rattle.rules.specs.Patches.{Patch, sides}
use Rattle.rules.specs.Clauses.{tensor_order}
use Rattle.rules.specs.Meshes.{Source, patches, patch_mesh}
use Rattle.rules.proofs.Lists.{all_map}
use Rattle.rules.proofs.Tables.{sides_fit}
use Rattle.rules.proofs.Patches.{each}
use Rattle.rules.proofs.Meshes.{Numbered, patches_numbered}
use Rattle.meshes.specs.Decoded.{decoded, by_decode}
use Rattle.meshes.proofs.Standing.{reads_decode}
use Rattle.tensor.specs.Turning.{raw, rounded, place_of, coordinate, tensor_patch, inner_point, inner_names}
use Rattle.tensor.specs.Outcomes.{read_patches}
use Rattle.tensor.specs.Formulas.{p11, p12, p21, p22, inner_at, ninth, ninefold}
use Rattle.tensor.proofs.Coordinates.{all_get_d, PointsBelow, coordinates_below}
use Rattle.tensor.proofs.TakenApart.{taken_apart}
use Rattle.tensor.proofs.WholeFloats.{add-whole, sub-whole, mul-whole, sign, less_times_plus, div-whole, nat_abs_add, nat_abs_neg, nat_abs_less}

-- ---- one coordinate

pub border_agrees : (x : ℕ) → x < 2 ^ 32 → mul binary64 (of_int binary64 (pos 9)) (of_int binary64 (pos x)) ≡ of_int binary64 (pos (9 * x))
border_agrees x h = mul-whole 9 x (omega arith) (omega arith)

module _ (a b c d e f g h : ℕ) (a_small : a < 2 ^ 32) (b-small : b < 2 ^ 32) (c-small : c < 2 ^ 32) (d_small : d < 2 ^ 32) (e-small : e < 2 ^ 32)
    (f-small : f < 2 ^ 32) (g-small : g < 2 ^ 32) (h-small : h < 2 ^ 32) where
  -- an inner coordinate of f64 is the raw one over nine
  pub inner_agrees : ninth (of_int binary64 (pos a)) (of_int binary64 (pos b)) (of_int binary64 (pos c)) (of_int binary64 (pos d))
      (of_int binary64 (pos e)) (of_int binary64 (pos f)) (of_int binary64 (pos g)) (of_int binary64 (pos h))
      ≡ div binary64 (of_int binary64 (ninefold (pos a) (pos b) (pos c) (pos d) (pos e) (pos f) (pos g) (pos h))) (of_int binary64 (pos 9))
  unfolding ninth ninefold
  inner_agrees =
      let corner : ℤ = neg_ℤ (pos (4 * a)) in
      let beside : ℤ = corner +ℤ pos (6 * (b + c)) in
      let corners : ℤ = beside -ℤ pos (2 * (d + e)) in
      let across : ℤ = corners +ℤ pos (3 * (f + g)) in
      let corner-size : nat_abs corner ≡ 4 * a = nat_abs_neg (pos (4 * a)) in
      let beside-size : nat_abs beside ≤ nat_abs corner + 6 * (b + c) = nat_abs_add corner (pos (6 * (b + c))) in
      let corners-size : nat_abs corners ≤ nat_abs beside + 2 * (d + e) = nat_abs_less beside (pos (2 * (d + e))) in
      let across-size : nat_abs across ≤ nat_abs corners + 3 * (f + g) = nat_abs_add corners (pos (3 * (f + g))) in
      rw (
        add-whole (pos b) (pos c) (omega arith) (omega arith),
        mul-whole 6 (b + c) (omega arith) (omega arith),
        less_times_plus 3 a (6 * (b + c)) (omega arith) (omega arith) (omega arith) (omega arith),
        add-whole (pos d) (pos e) (omega arith) (omega arith),
        mul-whole 2 (d + e) (omega arith) (omega arith),
        sub-whole beside (pos (2 * (d + e))) (omega arith) (omega arith),
        add-whole (pos f) (pos g) (omega arith) (omega arith),
        mul-whole 3 (f + g) (omega arith) (omega arith),
        add-whole corners (pos (3 * (f + g))) (omega arith) (omega arith),
        sub-whole across (pos h) (omega arith) (omega arith),
      )

  inner_size : nat_abs (ninefold (pos a) (pos b) (pos c) (pos d) (pos e) (pos f) (pos g) (pos h)) ≤ 2 ^ 53
  unfolding ninefold
  inner_size =
      let corner : ℤ = neg_ℤ (pos (4 * a)) in
      let beside : ℤ = corner +ℤ pos (6 * (b + c)) in
      let corners : ℤ = beside -ℤ pos (2 * (d + e)) in
      let across : ℤ = corners +ℤ pos (3 * (f + g)) in
      omega (
        arith,
        nat_abs_neg (pos (4 * a)),
        nat_abs_add corner (pos (6 * (b + c))),
        nat_abs_less beside (pos (2 * (d + e))),
        nat_abs_add corners (pos (3 * (f + g))),
        nat_abs_less across (pos h),
      )

  -- so it is the f64 that is nearest to a ninth of the raw number
  pub inner_rounded_once : let z : ℤ = ninefold (pos a) (pos b) (pos c) (pos d) (pos e) (pos f) (pos g) (pos h) in
      ninth (of_int binary64 (pos a)) (of_int binary64 (pos b)) (of_int binary64 (pos c)) (of_int binary64 (pos d))
      (of_int binary64 (pos e)) (of_int binary64 (pos f)) (of_int binary64 (pos g)) (of_int binary64 (pos h))
      ≡ round binary64 (sign z) (nat_abs z) 9
  inner_rounded_once =
      inner_agrees ∙ div-whole (ninefold (pos a) (pos b) (pos c) (pos d) (pos e) (pos f) (pos g) (pos h)) 9 inner_size (omega arith) (omega arith)

-- ---- one patch

-- a raw number in f64
abbrev pub exactly : ℕ → Float
exactly x = of_int binary64 (pos x)

abbrev pub nine : Float
nine = of_int binary64 (pos 9)

-- twelve points of two numbers below 2 ^ 32
pub record Small (p : Patch (List ℕ) (List ℕ)) : Type 0 where
  pub twelve : length p.points ≡ 12
  pub pairs : All (λ (point : List ℕ). length point ≡ 2) p.points
  pub below : All (AllBelow (2 ^ 32)) p.points

-- a number of the raw patch over nine
abbrev pub over_nine : ℤ → Float
over_nine z = div binary64 (of_int binary64 z) nine

-- the patch of raw numbers and that of f64: nine times the border, and the inner points over nine
pub record Agrees (exact : Patch (List ℤ) (List ℤ)) (near : Patch (List Float) (List Float)) : Type 0 where
  pub border : map (map (mul binary64 nine)) (take 12 near.points) ≡ map (map (of_int binary64)) (take 12 exact.points)
  pub inner : drop 12 near.points ≡ map (map over_nine) (drop 12 exact.points)

border_point : (point : List ℕ) → AllBelow (2 ^ 32) point
    → map (mul binary64 nine) (map (λ (x : Float). x) (map exactly point)) ≡ map (of_int binary64) (map (λ (x : ℕ). pos (9 * x)) point)
border_point [] a = refl
border_point (x ∷ point) a = ap₂ (λ (y : Float) (ys : List Float). y ∷ ys) (border_agrees x a.0) (border_point point a.1)

border_points : (points : List (List ℕ)) → All (AllBelow (2 ^ 32)) points
    → map (map (mul binary64 nine)) (map (map (λ (x : Float). x)) (map (map exactly) points))
    ≡ map (map (of_int binary64)) (map (map (λ (x : ℕ). pos (9 * x))) points)
border_points [] a = refl
border_points (p ∷ points) a = ap₂ (λ (y : List Float) (ys : List (List Float)). y ∷ ys) (border_point p a.0) (border_points points a.1)

-- pij is on the border
abbrev OnBorder : ℕ → Type 0
OnBorder ij = place_of ij tensor_order.points < 12

module _ (p : Patch (List ℕ) (List ℕ)) (small : Small p) where
  module _ (axis : ℕ) (is-axis : axis < 2) where
    -- a coordinate of pij
    abbrev raw_at : ℕ → ℕ
    raw_at ij = coordinate 0 p.points axis ij

    abbrev near_at : ℕ → Float
    near_at ij = coordinate nan (map (map exactly) p.points) axis ij

    long : (k : ℕ) → k < 12 → length (get_or p.points k []) ≡ 2
    long k h = all_get_d (λ (point : List ℕ). length point ≡ 2) [] p.points k small.pairs (omega (arith, small.twelve))

    near_is : (ij : ℕ) → OnBorder ij → near_at ij ≡ exactly (raw_at ij)
    near_is ij h =
        let k : ℕ = place_of ij tensor_order.points in
        let point : List ℕ = get_or p.points k [] in
        ap (λ (l : List Float). get_or l axis nan) (get_or-map (map exactly) p.points k [])
        ∙ get_d_same (map exactly point) axis nan (exactly 0) (omega (arith, length-map point exactly, long k h))
        ∙ get_or-map exactly point axis 0

    raw_small : (ij : ℕ) → OnBorder ij → raw_at ij < 2 ^ 32
    raw_small ij h =
        let k : ℕ = place_of ij tensor_order.points in
        all_get_d (λ (x : ℕ). x < 2 ^ 32) 0 (get_or p.points k []) axis
        (all_get_d (AllBelow (2 ^ 32)) [] p.points k small.below (omega (arith, small.twelve))) (omega (arith, long k h))

    inner_of : (a b c d e f g h : ℕ) → All OnBorder (a ∷ b ∷ c ∷ d ∷ e ∷ f ∷ g ∷ h ∷ [])
        → ninth (near_at a) (near_at b) (near_at c) (near_at d) (near_at e) (near_at f) (near_at g) (near_at h)
        ≡ over_nine (raw.inner (raw_at a) (raw_at b) (raw_at c) (raw_at d) (raw_at e) (raw_at f) (raw_at g) (raw_at h))
    inner_of a b c d e f g h (i0, (i1, (i2, (i3, (i4, (i5, (i6, (i7, _)))))))) =
        rw (near_is a i0, near_is b i1, near_is c i2, near_is d i3, near_is e i4, near_is f i5, near_is g i6, near_is h i7)
        (inner_agrees (raw_at a) (raw_at b) (raw_at c) (raw_at d) (raw_at e) (raw_at f) (raw_at g) (raw_at h)
        (raw_small a i0) (raw_small b i1) (raw_small c i2) (raw_small d i3) (raw_small e i4) (raw_small f i5) (raw_small g i6) (raw_small h i7))

    inner_at_lem : (ij : ℕ) → inner_at ninth near_at ij ≡ over_nine (inner_at raw.inner raw_at ij)
    inner_at_lem ij = go (eqb ij 11) (eqb ij 12) (eqb ij 21)
      where
        go : (s t u : Bool) → cond s (p11 ninth near_at) (cond t (p12 ninth near_at) (cond u (p21 ninth near_at) (p22 ninth near_at)))
            ≡ over_nine
            (cond s (p11 raw.inner raw_at) (cond t (p12 raw.inner raw_at) (cond u (p21 raw.inner raw_at) (p22 raw.inner raw_at))))
        go true t u = inner_of 00 01 10 03 30 31 13 33 (omega arith)
        go false true u = inner_of 03 02 13 00 33 32 10 30 (omega arith)
        go false false true = inner_of 30 31 20 33 00 01 23 03 (omega arith)
        go false false false = inner_of 33 32 23 30 03 02 20 00 (omega arith)

  inner_points : (names : List ℕ)
      → map (inner_point rounded (map (map exactly) p.points)) names ≡ map (map over_nine) (map (inner_point raw p.points) names)
  inner_points [] = refl
  inner_points (ij ∷ names) =
      ap₂ (λ (y : List Float) (ys : List (List Float)). y ∷ ys)
      (ap₂ (λ (x y : Float). x ∷ y ∷ []) (inner_at_lem 0 (omega arith) ij) (inner_at_lem 1 (omega arith) ij)) (inner_points names)

  pub patch_agrees : (q : Patch (List Float) (List Float)) → q.points ≡ map (map exactly) p.points
      → Agrees (tensor_patch raw p) (tensor_patch rounded q)
  unfolding tensor_patch
  patch_agrees q e =
      let near : List (List Float) = map (map (λ (x : Float). x)) (map (map exactly) p.points) in
      let exact : List (List ℤ) = map (map raw.border) p.points in
      let near-inner : List (List Float) = map (inner_point rounded (map (map exactly) p.points)) inner_names in
      let exact-inner : List (List ℤ) = map (inner_point raw p.points) inner_names in
      let twelve-near : length near ≡ 12 = simp length-map small.twelve in
      let twelve-exact : length exact ≡ 12 = simp length-map small.twelve in
      record {
        border =
            rw (e, take_at near near-inner 12 twelve-near, take_at exact exact-inner 12 twelve-exact) (border_points p.points small.below);
        inner = rw (e, drop_at near near-inner 12 twelve-near, drop_at exact exact-inner 12 twelve-exact) (inner_points inner_names);
      }

-- ---- the patches of a raw reading, and those of a reader's answer

-- the elements of two lists are in the relation, pair by pair
abbrev pub Pairwise : {A B : Type 0} → (A → B → Type 0) → List A → List B → Type 0
Pairwise R [] [] = Unit {0}
Pairwise R [] (y ∷ ys) = ⊥
Pairwise R (x ∷ xs) [] = ⊥
Pairwise R (x ∷ xs) (y ∷ ys) = R x y × Pairwise R xs ys

abbrev pub greatest : ℕ → Float
greatest w = of_int binary64 (pos (2 ^ w - 1))

-- Decode has 0 to 2 ^ w - 1 for x and for y, and more entries for the components
abbrev pub plain : ℕ → ℕ → List Float → Ranges
plain w comp entries = ranges (float0 ∷ greatest w ∷ float0 ∷ greatest w ∷ entries) w comp

module _ (w comp n : ℕ) (entries : List Float) (some_bits : 1 ≤ w) (few_bits : w ≤ 32) where
  abbrev decode : Source ℕ Float
  decode = by_decode whole_number (plain w comp entries)

  decoded_point : (point : List ℕ) → length point ≡ 2 → AllBelow (2 ^ w) point → decoded (plain w comp entries) 0 point ≡ map exactly point
  unfolding decoded
  decoded_point [] e a = absurd (omega arith)
  decoded_point (x ∷ []) e a = absurd (omega arith)
  decoded_point (x ∷ y ∷ []) e a =
      ap₂ (λ (u v : Float). u ∷ v ∷ []) (exact w x some_bits few_bits a.0) (exact w y some_bits few_bits a.1.0)
  decoded_point (x ∷ y ∷ z ∷ point) e a = absurd (omega arith)

  decoded_points : (points : List (List ℕ)) → All (λ (point : List ℕ). length point ≡ 2) points → All (AllBelow (2 ^ w)) points
      → map (decoded (plain w comp entries) 0) points ≡ map (map exactly) points
  decoded_points [] e a = refl
  decoded_points (p ∷ points) e a =
      ap₂ (λ (u : List Float) (us : List (List Float)). u ∷ us) (decoded_point p e.0 a.0) (decoded_points points e.1 a.1)

  small_patch : (p : Patch (List ℕ) (List ℕ)) → Numbered 12 4 n p → PointsBelow (2 ^ w) p → Small p
  small_patch p h a =
      let m : 2 ^ w ≤ 2 ^ 32 = pow_mono few_bits in
      record {
        twelve = h.0.0;
        pairs = h.1.0;
        below = all_map _ _ p.points (λ point b. all_map _ _ point (λ x l. omega arith) b) a;
      }

  each_agrees : (ps : List (Patch (List ℕ) (List ℕ))) → All (Numbered 12 4 n) ps → All (PointsBelow (2 ^ w)) ps
      → Pairwise Agrees (map (tensor_patch raw) ps) (map (tensor_patch rounded) (map (each decode.point decode.colour) ps))
  each_agrees [] h a = tt
  each_agrees (p ∷ ps) h a = (
    patch_agrees p (small_patch p h.0 a.0) (each decode.point decode.colour p) (decoded_points p.points h.0.1.0 a.0),
    each_agrees ps h.1 a.1,
  )

  -- the raw patches turned, and the patches of the reader's answer turned
  pub raw_and_f64_agree : (first : ℕ) (s : List ℕ) → let xs : List ℕ = raw_reading (format Six first w comp n) s in
      Pairwise Agrees (map (tensor_patch raw) (patches 0 sides (λ x. x) 8 n xs))
      (map (tensor_patch rounded) (read_patches n (patch_mesh sides 8 (by_decode whole_number (plain w comp entries)) n xs).numbers))
  raw_and_f64_agree first s =
      let xs : List ℕ = raw_reading (format Six first w comp n) s in
      let reads = reads_decode whole_number (plain w comp entries) in
      rw (taken_apart decode n reads.point_sized (reads.colour_sized n) xs)
      (each_agrees (patches 0 sides whole_number 8 n xs) (patches_numbered 0 whole_number 8 n sides sides_fit.0 xs) (coordinates_below first w comp n s))
