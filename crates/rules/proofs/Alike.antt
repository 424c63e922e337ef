-- The finished meshes of two lists of numbers whose records differ in their first numbers alone, where those mean the same. Assumes nothing.
use mathlib.Core.Path.{◌≡◌, refl, sym, ap, ap₂, ◌∙◌}
use mathlib.Core.List.{List, [], ◌∷◌, ◌++◌}
use mathlib.Core.Option.{none}
use Prim.Native.Nat.{ℕ, zero, suc, ◌+◌, ◌*◌, ◌/◌, ◌<◌}
use native.Mathlib.Nat.{add-zero, zero-mul, suc-mul}
use native.Mathlib.Omega.{arith}
use lib.ListN.{length, get_or, take, drop, length-append, length-drop}
use lib.Seq.{take_at, drop_at, drop-nil, drop-drop, get_or-drop}
use Rattle.lists.specs.Lists.{flat, All, Begins}
use Rattle.lists.proofs.Members.{all_drop}
use Rattle.lists.proofs.Pieces.{joined_same, part_take}
use Rattle.records.specs.Format.{Meaning}
use Rattle.records.proofs.Meanings.{Pair, Alike}
use Rattle.rules.specs.Triangles.{Rule, triangles}
use Rattle.rules.specs.Patches.{Piece, Table, mesh}
use Rattle.rules.specs.Meshes.{flags, vertex4, type4_mesh, size_after, piece, pieces, patches, patch_mesh}
use Rattle.rules.proofs.Lists.{all_map, group_fits, length_flat_all}
use Rattle.rules.proofs.Triangles.{triangles_within, corners_same}
use Rattle.rules.proofs.Meshes.{length-flags, pieces_none, pieces_more, piece_begins}

-- a pair's record in the one list and in the other
abbrev left_of : Pair → List ℕ
left_of p = p.left ∷ p.after

abbrev pub right_of : Pair → List ℕ
right_of p = p.right ∷ p.after

-- ---- Types 6 and 7

module _ (own n : ℕ) where
  -- a whole record, whatever comes after it
  pub one_piece : (flag : Meaning) (x : ℕ) (zs rest : List ℕ) → length zs ≡ size_after own n (flag x)
      → pieces 0 flag own n (x ∷ (zs ++ rest)) ≡ piece 0 own n (flag x) zs ∷ pieces 0 flag own n rest
  one_piece flag x zs rest l =
      let on : Begins zs (zs ++ rest) = record { rest = rest; is = refl } in
      pieces_more 0 own n flag x (zs ++ rest) (omega (arith, length-append zs rest))
      ∙ ap₂ (λ (a : Piece (List ℕ) (List ℕ)) (c : List ℕ). a ∷ pieces 0 flag own n c)
      (piece_begins 0 own n (flag x) on (omega arith)) (drop_at zs rest (size_after own n (flag x)) l)

  module _ (flag flag' : Meaning) where
    pairs_pieces : (ps : List Pair)
        → All (λ (p : Pair). (flag p.left ≡ flag' p.right) × (length p.after ≡ size_after own n (flag p.left))) ps
        → pieces 0 flag own n (flat left_of ps) ≡ pieces 0 flag' own n (flat right_of ps)
    unfolding flat
    pairs_pieces [] a = pieces_none 0 own n flag ∙ sym (pieces_none 0 own n flag')
    pairs_pieces (p ∷ ps) a =
        let e = a.0.0 in
        let l = a.0.1 in
        one_piece flag p.left p.after (flat left_of ps) l
        ∙ ap₂ (λ (f : ℕ) (r : List (Piece (List ℕ) (List ℕ))). piece 0 own n f p.after ∷ r) e (pairs_pieces ps a.1)
        ∙ sym (one_piece flag' p.right p.after (flat right_of ps) (l ∙ ap (size_after own n) e))

    pub alike_pieces : (xs ys : List ℕ) → Alike flag flag' (size_after own n) xs ys → pieces 0 flag own n xs ≡ pieces 0 flag' own n ys
    alike_pieces xs ys a = rw (a.lefts, a.rights) (pairs_pieces a.pairs a.same)

    module _ (T : Table) (xs ys : List ℕ) (a : Alike flag flag' (size_after own n) xs ys) where
      pub alike_patches : patches 0 T flag own n xs ≡ patches 0 T flag' own n ys
      unfolding patches
      alike_patches = ap (mesh T none) (alike_pieces xs ys a)

      pub alike_patch_mesh : {B : Type 0} (point colour : List ℕ → List B)
          → patch_mesh T own (record { missing = 0; flag = flag; point = point; colour = colour }) n xs
          ≡ patch_mesh T own (record { missing = 0; flag = flag'; point = point; colour = colour }) n ys
      unfolding patch_mesh
      alike_patch_mesh point colour = rw alike_patches

-- ---- Type 4

-- where each element gives m numbers, those from element i on
drop-flat : {A B : Type 0} (f : A → List B) (m : ℕ) (ps : List A) (i : ℕ) → All (λ (p : A). length (f p) ≡ m) ps
    → drop (i * m) (flat f ps) ≡ flat f (drop i ps)
unfolding flat
drop-flat f m ps zero a = rw zero-mul
drop-flat f m [] (suc i) a = drop-nil (suc i * m)
drop-flat f m (p ∷ ps) (suc i) a =
    let e : suc i * m ≡ m + i * m = omega (arith, suc-mul i m) in
    rw (e, ← (drop-drop (i * m) m (f p ++ flat f ps)), drop_at (f p) (flat f ps) m a.0) (drop-flat f m ps i a.1)

-- vertex i of a list whose pairs give a vertex each, and its flag
module _ (n : ℕ) (f : Pair → List ℕ) (ps : List Pair) (sized : All (λ (p : Pair). length (f p) ≡ n + 3) ps) (i : ℕ) where
  flag_from : get_or (flat f ps) (i * (n + 3)) 0 ≡ get_or (flat f (drop i ps)) 0 0
  flag_from = rw (← (drop-flat f (n + 3) ps i sized), get_or-drop, add-zero)

  vertex_from : i < length (flat f ps) / (n + 3) → vertex4 0 n (flat f ps) i ≡ take (n + 2) (drop 1 (flat f (drop i ps)))
  unfolding vertex4
  vertex_from h =
      part_take 0 (flat f ps) (i * (n + 3) + 1) (n + 2) (omega (arith, group_fits i (n + 3) (length (flat f ps)) h))
      ∙ ap (take (n + 2)) (sym (drop-drop 1 (i * (n + 3)) (flat f ps)) ∙ ap (drop 1) (drop-flat f (n + 3) ps i sized))

module _ (n : ℕ) (flag flag' : Meaning) where
  abbrev Vertex : Pair → Type 0
  Vertex p = (flag p.left ≡ flag' p.right) × (length p.after ≡ 2 + n)

  first_pair : (ps : List Pair) → All Vertex ps → 0 < length (flat left_of ps)
      → (flag (get_or (flat left_of ps) 0 0) ≡ flag' (get_or (flat right_of ps) 0 0))
      × (take (n + 2) (drop 1 (flat left_of ps)) ≡ take (n + 2) (drop 1 (flat right_of ps)))
  unfolding flat
  first_pair [] a h = absurd (omega arith)
  first_pair (p ∷ ps) a h =
      let l : length p.after ≡ n + 2 = omega (arith, a.0.1) in
      (a.0.0, take_at p.after (flat left_of ps) (n + 2) l ∙ sym (take_at p.after (flat right_of ps) (n + 2) l))

  module _ (ps : List Pair) (a : All Vertex ps) where
    left_sized : All (λ (p : Pair). length (left_of p) ≡ n + 3) ps
    left_sized = all_map Vertex (λ (p : Pair). length (left_of p) ≡ n + 3) ps (λ p v. omega (arith, v.1)) a

    right_sized : All (λ (p : Pair). length (right_of p) ≡ n + 3) ps
    right_sized = all_map Vertex (λ (p : Pair). length (right_of p) ≡ n + 3) ps (λ p v. omega (arith, v.1)) a

    pairs_length : length (flat left_of ps) ≡ length (flat right_of ps)
    pairs_length = length_flat_all left_of (n + 3) ps left_sized ∙ sym (length_flat_all right_of (n + 3) ps right_sized)

    module _ (i : ℕ) (h : i < length (flat left_of ps) / (n + 3)) where
      here : (flag (get_or (flat left_of (drop i ps)) 0 0) ≡ flag' (get_or (flat right_of (drop i ps)) 0 0))
          × (take (n + 2) (drop 1 (flat left_of (drop i ps))) ≡ take (n + 2) (drop 1 (flat right_of (drop i ps))))
      here =
          first_pair (drop i ps) (all_drop Vertex i ps a)
          (rw (← (drop-flat left_of (n + 3) ps i left_sized), length-drop) (omega (arith, group_fits i (n + 3) (length (flat left_of ps)) h)))

      pairs_flag : flag (get_or (flat left_of ps) (i * (n + 3)) 0) ≡ flag' (get_or (flat right_of ps) (i * (n + 3)) 0)
      pairs_flag = rw (flag_from n left_of ps left_sized i, flag_from n right_of ps right_sized i) here.0

      pairs_vertex : vertex4 0 n (flat left_of ps) i ≡ vertex4 0 n (flat right_of ps) i
      pairs_vertex =
          vertex_from n left_of ps left_sized i h
          ∙ here.1
          ∙ sym (vertex_from n right_of ps right_sized i (rw pairs_length at h))

  module _ (xs ys : List ℕ) (a : Alike flag flag' (λ (f : ℕ). 2 + n) xs ys) where
    pub alike_flags : flags 0 flag n xs ≡ flags 0 flag' n ys
    unfolding flags
    alike_flags =
        rw (a.lefts, a.rights, ← (pairs_length a.pairs a.same))
        (joined_same (length (flat left_of a.pairs) / (n + 3)) _ _ (λ i h. ap (λ (f : ℕ). f ∷ []) (pairs_flag a.pairs a.same i h)))

    pub alike_vertex : (i : ℕ) → i < length xs / (n + 3) → vertex4 0 n xs i ≡ vertex4 0 n ys i
    alike_vertex i h = rw (a.lefts, a.rights) (pairs_vertex a.pairs a.same i (rw a.lefts at h))

    pub alike_type4_mesh : (r : Rule) {B : Type 0} (point colour : List ℕ → List B)
        → type4_mesh (triangles r) (record { missing = 0; flag = flag; point = point; colour = colour }) n xs
        ≡ type4_mesh (triangles r) (record { missing = 0; flag = flag'; point = point; colour = colour }) n ys
    unfolding type4_mesh
    alike_type4_mesh r {B} point colour =
        rw (← alike_flags)
        (ap (λ (ns : List B). record { count = length (triangles r (flags 0 flag n xs)); numbers = ns })
        (corners_same (length xs / (n + 3)) _ _ (triangles r (flags 0 flag n xs))
        (rw (length-flags 0 flag n xs) at (triangles_within r (flags 0 flag n xs)))
        (λ i h. ap (λ (v : List ℕ). point (take 2 v) ++ colour (drop 2 v)) (alike_vertex i h))))
