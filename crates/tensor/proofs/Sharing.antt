-- Turning a Coons mesh into a tensor-product mesh keeps the sides that joined patches share: document 02, Wish 2. Assumes nothing.
use Prim.Native.Nat.{ℕ, zero, suc, ◌≤◌}
use mathlib.Core.Path.{◌≡◌, refl, sym, ap, ap₂, ◌∙◌, subst}
use mathlib.Core.List.{List, [], ◌∷◌, ◌++◌, map, map-append, append_assoc}
use mathlib.Core.Option
use mathlib.Core.Option.{Option, none, some, none-ne-some, some-injective}
use native.Mathlib.Omega.{arith}
use lib.IntN.{ℤ}
use lib.ListN.{length, get_elem?, take, drop, length-append, length-drop, length-map, take-append-drop}
use lib.Seq.{take-append-le, drop-append-le, take_at}
use Rattle.lists.specs.Lists.{flat, All, AllBelow}
use Rattle.records.specs.Format.{points_after, colours_after}
use Rattle.rules.specs.Patches.{Patch, patch, Places, sides, Piece, at, onto, patch_of, mesh}
use Rattle.rules.specs.Meshes.{pieces, patches}
use Rattle.rules.specs.Inner.Sides.{Sized, Fits}
use Rattle.rules.proofs.Lists.{all_map, map_at, length_at}
use Rattle.rules.proofs.Tables.{sides_fit}
use Rattle.rules.proofs.Patches.{mesh_ends, mesh_more, all_found, Before, patch_of_has, onto_sized}
use Rattle.rules.proofs.Meshes.{PieceWhole, to_whole}
use Rattle.tensor.specs.Turning.{Turning, raw, inner_names, inner_point, tensor_patch}

-- places among the first elements
at_front : {A : Type 0} (xs ys : List A) (is : List ℕ) → AllBelow (length xs) is → at (xs ++ ys) is ≡ at xs is
unfolding at flat
at_front xs ys [] a = refl
at_front xs ys (i ∷ is) a =
    let one : 1 ≤ length (drop i xs) = rw length-drop (omega (arith, a.0)) in
    ap₂ (λ (l r : List _). l ++ r)
    (ap (take 1) (drop-append-le i xs ys (omega (arith, a.0))) ∙ take-append-le 1 (drop i xs) ys one)
    (at_front xs ys is a.1)

-- a record has the points and colours that its flag asks for, where a joined patch has so many points of its own: 8 in Type 6, 12 in Type 7
abbrev pub Whole : {P C : Type 0} → ℕ → Piece P C → Type 0
Whole own q = Sized (points_after own q.flag) (colours_after q.flag) q.body

module _ {A B : Type 0} (T : Turning A B) where
  abbrev Coons : Type 0
  Coons = Patch (List A) (List A)

  -- to turn a patch and take a side is to take the side and turn it
  pub side_turned : (p : Coons) (s : Places) → Sized 12 4 p → Fits 12 s
      → (at (tensor_patch T p).points s.points ≡ map (map T.border) (at p.points s.points))
      × (at (tensor_patch T p).colours s.colours ≡ map (map T.colour) (at p.colours s.colours))
  unfolding tensor_patch
  side_turned p s z f = (
    at_front (map (map T.border) p.points) (map (inner_point T p.points) inner_names) s.points (rw (length-map, z.0) f.1)
        ∙ sym (map_at (map T.border) p.points s.points),
    sym (map_at (map T.colour) p.colours s.colours),
  )

  -- after turning, the first side of p is side s of b
  abbrev pub Shares : Coons → Coons → Places → Type 0
  Shares b p s =
      (take 4 (tensor_patch T p).points ≡ at (tensor_patch T b).points s.points)
      × (take 2 (tensor_patch T p).colours ≡ at (tensor_patch T b).colours s.colours)

  onto_shares : (b o : Coons) (s : Places) → Sized 12 4 b → Fits 12 s → Shares b (onto b s o) s
  unfolding tensor_patch
  onto_shares b o s z f =
      let points : List (List A) = at b.points s.points in
      let colours : List (List A) = at b.colours s.colours in
      let four : length (map (map T.border) points) ≡ 4 = rw length-map (length_at b.points s.points (rw z.0 f.1) ∙ f.0.0) in
      let two : length (map (map T.colour) colours) ≡ 2 = rw length-map (length_at b.colours s.colours (rw z.1 f.2) ∙ f.0.1) in
      let turned = side_turned b s z f in (
        rw (map-append (map T.border) points o.points, append_assoc) (take_at (map (map T.border) points) _ 4 four) ∙ sym turned.0,
        rw (map-append (map T.colour) colours o.colours) (take_at (map (map T.colour) colours) _ 2 two) ∙ sym turned.1,
      )

  -- for patches joined by flags 1 to 3 the shared side is the same after turning
  pub joined_shares : (b o p : Coons) (f : ℕ) (s : Places) → Sized 12 4 b → get_elem? sides f ≡ some s → patch_of sides (some b) (suc f) o ≡ some p
      → Shares b p s
  joined_shares b o p f s z e made =
      let fits = all_found (Fits 12) sides f s sides_fit.0 e in
      let same : onto b s o ≡ p = some-injective (onto b s o) p (sym (ap (Option.map (λ (t : Places). onto b t o)) e) ∙ made) in
      subst (λ (r : Coons). Shares b r s) same (onto_shares b o s z fits)

  -- ---- a whole mesh

  -- what a record with flag f brings of a patch: all of it, or what comes after the first side
  abbrev pub own_part : ℕ → Patch (List B) (List B) → Patch (List B) (List B)
  own_part zero p = p
  own_part (suc f) p = patch (drop 4 p.points) (drop 2 p.colours)

  abbrev pub tensor_piece : ℕ → Coons → Piece (List B) (List B)
  tensor_piece f p = record { flag = f; body = own_part f (tensor_patch T p) }

  -- the records of the turned patches, by the same flags
  unfoldable pub tensor_pieces : Option Coons → List (Piece (List A) (List A)) → List (Piece (List B) (List B))
  tensor_pieces b [] = []
  tensor_pieces b (q ∷ qs) =
      elim (patch_of sides b q.flag q.body) [ none ↦ [] | some p ↦ tensor_piece q.flag p ∷ tensor_pieces (some p) qs ]

  pieces_end : (b : Option Coons) (q : Piece (List A) (List A)) (qs : List (Piece (List A) (List A))) → patch_of sides b q.flag q.body ≡ none
      → tensor_pieces b (q ∷ qs) ≡ []
  unfolding tensor_pieces
  pieces_end b q qs e = rw (e, tensor_pieces)

  pieces_go_on : (b : Option Coons) (q : Piece (List A) (List A)) (qs : List (Piece (List A) (List A))) (p : Coons)
      → patch_of sides b q.flag q.body ≡ some p
      → tensor_pieces b (q ∷ qs) ≡ tensor_piece q.flag p ∷ tensor_pieces (some p) qs
  unfolding tensor_pieces
  pieces_go_on b q qs p e = rw (e, tensor_pieces)

  patch_of-turned : (b : Option Coons) (f : ℕ) (o p : Coons) → Before (Sized 12 4) b → patch_of sides b f o ≡ some p
      → patch_of sides (Option.map (tensor_patch T) b) f (own_part f (tensor_patch T p)) ≡ some (tensor_patch T p)
  patch_of-turned b zero o p z e = refl
  patch_of-turned none (suc f) o p z e = absurd (none-ne-some p e)
  patch_of-turned (some b) (suc f) o p z e = go (get_elem? sides f) refl
    where
      go : (t : Option Places) → get_elem? sides f ≡ t
          → Option.map (λ (s : Places). onto (tensor_patch T b) s (own_part (suc f) (tensor_patch T p))) t ≡ some (tensor_patch T p)
      go none q = absurd (none-ne-some p (rw q at e))
      go (some s) q =
          let same = joined_shares b o p f s z q e in
          rw (← same.0, ← same.1, take-append-drop 4 (tensor_patch T p).points, take-append-drop 2 (tensor_patch T p).colours)

  turned_sized : (p : Coons) → Sized 12 4 p → Sized 16 4 (tensor_patch T p)
  unfolding tensor_patch
  turned_sized p z = (simp (length-append, length-map, z.0), simp (length-map, z.1))

  piece_whole : (f : ℕ) (p : Coons) → Sized 12 4 p → Whole 12 (tensor_piece f p)
  piece_whole zero p z = turned_sized p z
  piece_whole (suc f) p z = let y = turned_sized p z in (simp (length-drop, y.0), simp (length-drop, y.1))

  -- the turned patches of a Type 6 mesh are the Type 7 mesh of their own records, by the same table and the same flags
  abbrev pub TurnsWhole : Option Coons → List (Piece (List A) (List A)) → Type 0
  TurnsWhole b qs =
      (map (tensor_patch T) (mesh sides b qs) ≡ mesh sides (Option.map (tensor_patch T) b) (tensor_pieces b qs)) × All (Whole 12) (tensor_pieces b qs)

  pub turned_mesh : (b : Option Coons) (qs : List (Piece (List A) (List A))) → Before (Sized 12 4) b → All (Whole 8) qs → TurnsWhole b qs
  unfolding mesh tensor_pieces
  turned_mesh b [] z w = (refl, tt)
  turned_mesh b (q ∷ qs) z w = go (patch_of sides b q.flag q.body) refl (λ p y. turned_mesh (some p) qs y w.1)
    where
      go : (o : Option Coons) → patch_of sides b q.flag q.body ≡ o → ((p : Coons) → Sized 12 4 p → TurnsWhole (some p) qs) → TurnsWhole b (q ∷ qs)
      go none e ih = rw (mesh_ends sides b q qs e, pieces_end b q qs e) (refl, tt)
      go (some p) e ih =
          let y = patch_of_has sides (Fits 12) (λ (f : ℕ). Sized (points_after 8 f) (colours_after f)) (Sized 12 4) sides_fit.0
          (λ o w. w) (λ b s f o z t w. onto_sized 8 b s o z t w) b q.flag q.body p z w.0 e in
          rw (
            mesh_more sides b q qs p e,
            pieces_go_on b q qs p e,
            mesh_more sides (Option.map (tensor_patch T) b) (tensor_piece q.flag p) (tensor_pieces (some p) qs) (tensor_patch T p)
                (patch_of-turned b q.flag q.body p z e),
          )
          (ap (λ (l : List (Patch (List B) (List B))). tensor_patch T p ∷ l) (ih p y).0, (piece_whole q.flag p y, (ih p y).1))

-- so it is for a list of raw numbers
pub turned_list : (n : ℕ) (xs : List ℕ) → let qs : List (Piece (List ℤ) (List ℤ)) = tensor_pieces raw none (pieces 0 (λ x. x) 8 n xs) in
    (map (tensor_patch raw) (patches 0 sides (λ x. x) 8 n xs) ≡ mesh sides none qs) × All (Whole 12) qs
unfolding patches pieces
turned_list n xs =
    let qs : List (Piece (List ℕ) (List ℕ)) = pieces 0 (λ x. x) 8 n xs in
    turned_mesh raw none qs tt (all_map (PieceWhole 0 (λ x. x) 8 n) (Whole 8) qs (λ q w. w.0) (to_whole 0 (λ x. x) 8 n (length xs) xs))
