-- Finished meshes of a list of numbers: the records one by one, what each patch has, and that a cut list gives a beginning. Assumes nothing.
use mathlib.Core.Path.{◌≡◌, refl, sym, ap, ap₂, ◌∙◌}
use mathlib.Core.Bool.{Bool, true, false, cond}
use mathlib.Core.List.{List, [], ◌∷◌, ◌++◌}
use mathlib.Core.Option.{none}
use Prim.Native.Nat.{ℕ, zero, suc, ◌+◌, ◌*◌, ◌/◌, ◌≤◌, ◌<◌}
use native.Mathlib.Nat.{mul-le-mul_right, suc-mul, le_of_suc-le-suc}
use native.Mathlib.Omega.{arith}
use borrow.Author.Tests.{leb-true, leb-false, le-leb, lt-leb}
use lib.Dec.{leb}
use lib.ListN.{length, get_or, drop, length-append, length-drop}
use lib.Seq.{drop-append-le}
use Rattle.lists.specs.Lists.{part, All, Begins}
use Rattle.lists.proofs.Pieces.{joined_same, length_part, length_singles, get_d_singles}
use Rattle.lists.proofs.Members.{begins_nothing, begins_after}
use Rattle.rules.specs.Triangles.{Rule, triangles}
use Rattle.rules.specs.Patches.{Patch, patch, Places, Table, Piece, onto, patch_row}
use Rattle.records.specs.Format.{points_after, colours_after}
use Rattle.rules.specs.Meshes.{Source, Finished, flags, vertex4, vertex5, vertex_row, type4_mesh, type5_mesh, size_after, groups, piece, pieces_to, pieces, patches, patch_mesh}
use Rattle.rules.specs.Inner.Sides.{Sized, Fits}
use Rattle.rules.proofs.Lists.{div_grows, group_fits, all_joined, joined_begins, begins_length, begins_get_d, begins_part, flat_begins}
use Rattle.rules.proofs.Triangles.{triangles_begins, triangles_within, corners_begins}
use Rattle.rules.proofs.Lattice.{lattice_begins, lattice_within}
use Rattle.rules.proofs.Patches.{Made, mesh_begins, mesh_has, onto_sized, onto_made}

-- a mesh goes on: no fewer triangles or patches, and the numbers of the one begin those of the other
pub record MeshBegins {B : Type 0} (mesh more : Finished B) : Type 0 where
  pub count_begins : mesh.count ≤ more.count
  pub numbers_begin : Begins mesh.numbers more.numbers

-- ---- Types 4 and 5

module _ {A : Type 0} (d : A) (flag_of : A → ℕ) (n : ℕ) where
  pub length-flags : (xs : List A) → length (flags d flag_of n xs) ≡ length xs / (n + 3)
  unfolding flags
  length-flags xs = length_singles (λ (i : ℕ). flag_of (get_or xs (i * (n + 3)) d)) (length xs / (n + 3))

  pub flag_of_lem : (xs : List A) (i : ℕ) → i < length xs / (n + 3) → get_or (flags d flag_of n xs) i 0 ≡ flag_of (get_or xs (i * (n + 3)) d)
  unfolding flags
  flag_of_lem xs i h = get_d_singles (λ (j : ℕ). flag_of (get_or xs (j * (n + 3)) d)) 0 (length xs / (n + 3)) i h

  module _ {xs ys : List A} (b : Begins xs ys) where
    pub flags_begins : Begins (flags d flag_of n xs) (flags d flag_of n ys)
    unfolding flags
    flags_begins =
        joined_begins (length xs / (n + 3)) (length ys / (n + 3)) _ _ (div_grows (length xs) (length ys) (n + 3) (begins_length b))
        (λ i l. ap (λ (v : A). flag_of v ∷ []) (sym (begins_get_d d (i * (n + 3)) b (omega (arith, group_fits i (n + 3) (length xs) l)))))

    pub vertex4_begins : (i : ℕ) → i < length xs / (n + 3) → vertex4 d n xs i ≡ vertex4 d n ys i
    unfolding vertex4
    vertex4_begins i l = sym (begins_part d (i * (n + 3) + 1) (n + 2) b (omega (arith, group_fits i (n + 3) (length xs) l)))

    pub vertex5_begins : (i : ℕ) → i < length xs / (n + 2) → vertex5 d n xs i ≡ vertex5 d n ys i
    unfolding vertex5
    vertex5_begins i l = sym (begins_part d (i * (n + 2)) (n + 2) b (group_fits i (n + 2) (length xs) l))

module _ {A B : Type 0} (S : Source A B) (n : ℕ) {xs ys : List A} (b : Begins xs ys) where
  -- a cut list gives a beginning of the mesh
  pub type4_begins : (r : Rule) → MeshBegins (type4_mesh (triangles r) S n xs) (type4_mesh (triangles r) S n ys)
  unfolding type4_mesh
  type4_begins r =
      let on = triangles_begins r (flags_begins S.missing S.flag n b) in
      record {
        count_begins = begins_length on;
        numbers_begin =
            corners_begins (length xs / (n + 3)) _ _
            (rw (length-flags S.missing S.flag n xs) at (triangles_within r (flags S.missing S.flag n xs)))
            (λ i l. ap (vertex_row S) (vertex4_begins S.missing S.flag n b i l)) on;
      }

  pub type5_begins : (row_length : ℕ) → MeshBegins (type5_mesh row_length S n xs) (type5_mesh row_length S n ys)
  unfolding type5_mesh
  type5_begins row_length =
      let on = lattice_begins (length xs / (n + 2)) (length ys / (n + 2)) row_length (div_grows (length xs) (length ys) (n + 2) (begins_length b)) in
      record {
        count_begins = begins_length on;
        numbers_begin =
            corners_begins (length xs / (n + 2)) _ _ (lattice_within (length xs / (n + 2)) row_length)
            (λ i l. ap (vertex_row S) (vertex5_begins S.missing S.flag n b i l)) on;
      }

-- ---- Types 6 and 7: the records of a list

module _ {A : Type 0} (d : A) where
  pub length-groups : (xs : List A) (from k m : ℕ) → length (groups d xs from k m) ≡ k
  unfolding groups
  length-groups xs from k m = length_singles (λ (i : ℕ). part d xs (from + i * m) m) k

  groups_sized : (xs : List A) (from k m : ℕ) → All (λ (x : List A). length x ≡ m) (groups d xs from k m)
  unfolding groups
  groups_sized xs from k m = all_joined _ k _ (λ i l. (length_part d xs (from + i * m) m, tt))

  groups_begins : {xs ys : List A} (from k m : ℕ) → Begins xs ys → from + k * m ≤ length xs → groups d ys from k m ≡ groups d xs from k m
  unfolding groups
  groups_begins {xs} {ys} from k m b h =
      joined_same k (λ (i : ℕ). part d ys (from + i * m) m ∷ []) (λ (i : ℕ). part d xs (from + i * m) m ∷ [])
      (λ i l. ap (λ (v : List A). v ∷ []) (begins_part d (from + i * m) m b (omega (arith, mul-le-mul_right m l, suc-mul i m))))

  module _ (own n : ℕ) where
    -- what stands after a record does not count
    pub piece_begins : {xs ys : List A} (f : ℕ) → Begins xs ys → size_after own n f ≤ length xs → piece d own n f ys ≡ piece d own n f xs
    piece_begins {xs} {ys} f b h =
        ap₂ (λ (ps cs : List (List A)). record { flag = f; body = patch ps cs })
        (groups_begins 0 (points_after own f) 2 b (omega arith)) (groups_begins (2 * points_after own f) (colours_after f) n b h)

    module _ (flag_of : A → ℕ) where
      to_more : (k : ℕ) (x : A) (xs : List A) → size_after own n (flag_of x) ≤ length xs
          → pieces_to d flag_of own n (suc k) (x ∷ xs) ≡ piece d own n (flag_of x) xs ∷ pieces_to d flag_of own n k (drop (size_after own n (flag_of x)) xs)
      unfolding pieces_to
      to_more k x xs h = rw (le-leb (size_after own n (flag_of x)) (length xs) h)

      to_cut : (k : ℕ) (x : A) (xs : List A) → length xs < size_after own n (flag_of x) → pieces_to d flag_of own n (suc k) (x ∷ xs) ≡ []
      unfolding pieces_to
      to_cut k x xs h = rw (lt-leb (size_after own n (flag_of x)) (length xs) h)

      -- a record has its flag at least, so any bound that is no less than the length gives the same
      enough : (k m : ℕ) (xs : List A) → length xs ≤ k → length xs ≤ m → pieces_to d flag_of own n k xs ≡ pieces_to d flag_of own n m xs
      unfolding pieces_to
      enough zero zero [] h g = refl
      enough zero (suc m) [] h g = refl
      enough (suc k) zero [] h g = refl
      enough (suc k) (suc m) [] h g = refl
      enough zero m (x ∷ xs) h g = absurd (omega arith)
      enough (suc k) zero (x ∷ xs) h g = absurd (omega arith)
      enough (suc k) (suc m) (x ∷ xs) h g =
          ap (λ (l : List (Piece (List A) (List A))). cond (leb (size_after own n (flag_of x)) (length xs)) (piece d own n (flag_of x) xs ∷ l) [])
          (enough k m (drop (size_after own n (flag_of x)) xs) (rw length-drop (omega arith)) (rw length-drop (omega arith)))

      pub pieces_none : pieces d flag_of own n [] ≡ []
      unfolding pieces pieces_to
      pieces_none = refl

      pub pieces_more : (x : A) (xs : List A) → size_after own n (flag_of x) ≤ length xs
          → pieces d flag_of own n (x ∷ xs) ≡ piece d own n (flag_of x) xs ∷ pieces d flag_of own n (drop (size_after own n (flag_of x)) xs)
      unfolding pieces
      pieces_more x xs h =
          let rest : List A = drop (size_after own n (flag_of x)) xs in
          to_more (length xs) x xs h
          ∙ ap (λ (l : List (Piece (List A) (List A))). piece d own n (flag_of x) xs ∷ l)
          (enough (length xs) (length rest) rest (rw length-drop (omega arith)) (omega arith))

      pub pieces_cut : (x : A) (xs : List A) → length xs < size_after own n (flag_of x) → pieces d flag_of own n (x ∷ xs) ≡ []
      unfolding pieces
      pieces_cut x xs h = to_cut (length xs) x xs h

      to_begins : (k m : ℕ) (xs ys : List A) → k ≤ m → Begins (pieces_to d flag_of own n k xs) (pieces_to d flag_of own n m (xs ++ ys))
      unfolding pieces_to
      to_begins zero m xs ys h = begins_nothing _
      to_begins (suc k) zero xs ys h = absurd (omega arith)
      to_begins (suc k) (suc m) [] ys h = begins_nothing _
      to_begins (suc k) (suc m) (x ∷ xs) ys h =
          go (leb (size_after own n (flag_of x)) (length xs)) refl (to_begins k m (drop (size_after own n (flag_of x)) xs) ys (le_of_suc-le-suc h))
        where
          go : (t : Bool) → leb (size_after own n (flag_of x)) (length xs) ≡ t
              → Begins (pieces_to d flag_of own n k (drop (size_after own n (flag_of x)) xs))
              (pieces_to d flag_of own n m (drop (size_after own n (flag_of x)) xs ++ ys))
              → Begins (pieces_to d flag_of own n (suc k) (x ∷ xs)) (pieces_to d flag_of own n (suc m) ((x ∷ xs) ++ ys))
          go true e ih =
              let l = leb-true (size_after own n (flag_of x)) (length xs) e in
              let on : Begins xs (xs ++ ys) = record { rest = ys; is = refl } in
              rw (
                to_more k x xs l,
                to_more m x (xs ++ ys) (omega (arith, length-append xs ys)),
                piece_begins (flag_of x) on l,
                drop-append-le (size_after own n (flag_of x)) xs ys l,
              )
              (begins_after (piece d own n (flag_of x) xs ∷ []) ih)
          go false e ih = rw (to_cut k x xs (leb-false (size_after own n (flag_of x)) (length xs) e)) (begins_nothing _)

      pub pieces_begins : {xs ys : List A} → Begins xs ys → Begins (pieces d flag_of own n xs) (pieces d flag_of own n ys)
      unfolding pieces
      pieces_begins {xs} {ys} b = rw b.is (to_begins (length xs) (length (xs ++ b.rest)) xs b.rest (omega (arith, length-append xs b.rest)))

-- ---- what each patch of a list has

-- so many points of two numbers, and so many colours of n
abbrev pub Numbered : {A : Type 0} → ℕ → ℕ → ℕ → Patch (List A) (List A) → Type 0
Numbered {A} points colours n p = Sized points colours p × Made (λ (x : List A). length x ≡ 2) (λ (x : List A). length x ≡ n) p

module _ {A : Type 0} (d : A) (flag_of : A → ℕ) (own n : ℕ) where
  pub piece_numbered : (f : ℕ) (xs : List A) → Numbered (points_after own f) (colours_after f) n (piece d own n f xs).body
  piece_numbered f xs = (
    (length-groups d xs 0 (points_after own f) 2, length-groups d xs (2 * points_after own f) (colours_after f) n),
    (groups_sized d xs 0 (points_after own f) 2, groups_sized d xs (2 * points_after own f) (colours_after f) n),
  )

  pub onto_numbered : (b : Patch (List A) (List A)) (s : Places) (o : Patch (List A) (List A)) → Numbered (4 + own) 4 n b → Fits (4 + own) s
      → Numbered own 2 n o → Numbered (4 + own) 4 n (onto b s o)
  onto_numbered b s o z f w = (onto_sized own b s o z.0 f w.0, onto_made _ _ b s o z.1 w.1)

  -- a record has the points and colours that its flag asks for
  abbrev pub PieceWhole : Piece (List A) (List A) → Type 0
  PieceWhole q = Numbered (points_after own q.flag) (colours_after q.flag) n q.body

  pub to_whole : (k : ℕ) (xs : List A) → All PieceWhole (pieces_to d flag_of own n k xs)
  unfolding pieces_to
  to_whole zero xs = tt
  to_whole (suc k) [] = tt
  to_whole (suc k) (x ∷ xs) = go (leb (size_after own n (flag_of x)) (length xs)) (to_whole k (drop (size_after own n (flag_of x)) xs))
    where
      go : (t : Bool) → All PieceWhole (pieces_to d flag_of own n k (drop (size_after own n (flag_of x)) xs))
          → All PieceWhole (cond t (piece d own n (flag_of x) xs ∷ pieces_to d flag_of own n k (drop (size_after own n (flag_of x)) xs)) [])
      go true ih = (piece_numbered (flag_of x) xs, ih)
      go false ih = tt

  module _ (T : Table) where
    -- every patch has all its points, and four colours
    pub patches_numbered : All (Fits (4 + own)) T → (xs : List A) → All (Numbered (4 + own) 4 n) (patches d T flag_of own n xs)
    unfolding patches pieces
    patches_numbered fit xs =
        mesh_has T (Fits (4 + own)) (λ (f : ℕ). Numbered (points_after own f) (colours_after f) n) (Numbered (4 + own) 4 n) fit
        (λ o w. w) (λ b s f o z s-fits w. onto_numbered b s o z s-fits w)
        none (pieces d flag_of own n xs) tt (to_whole (length xs) xs)

    pub patches_begins : {xs ys : List A} → Begins xs ys → Begins (patches d T flag_of own n xs) (patches d T flag_of own n ys)
    unfolding patches
    patches_begins b = mesh_begins T none (pieces_begins d own n flag_of b)

-- a cut list gives a beginning of the mesh, by either table
pub patch_mesh_begins : {A B : Type 0} (S : Source A B) (n : ℕ) {xs ys : List A} → Begins xs ys → (T : Table) (own : ℕ)
    → MeshBegins (patch_mesh T own S n xs) (patch_mesh T own S n ys)
unfolding patch_mesh
patch_mesh_begins S n b T own =
    let on = patches_begins S.missing S.flag own n T b in
    record { count_begins = begins_length on; numbers_begin = flat_begins (patch_row S.point S.colour) on }
