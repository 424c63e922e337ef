-- Types 6 and 7: the mesh record by record, cuts, decoding, what each patch has, and counts. Assumes nothing.
use mathlib.Core.Path.{◌≡◌, refl, sym, ap, ◌∙◌, subst}
use mathlib.Core.List.{List, [], ◌∷◌, ◌++◌, map, map-append}
use mathlib.Core.Option
use mathlib.Core.Option.{Option, none, some, none-ne-some, some-injective}
use Prim.Native.Nat.{ℕ, zero, suc, ◌+◌}
use native.Mathlib.Omega.{arith}
use lib.ListN.{length, get_elem?, length-append}
use Rattle.lists.specs.Lists.{flat, All, Begins}
use Rattle.lists.proofs.Members.{all_append, begins_nothing, begins_after}
use Rattle.rules.specs.Patches.{Patch, patch, Places, Table, sides, list_sides, Piece, at, onto, patch_of, mesh, patch_row}
use Rattle.rules.specs.Inner.Sides.{Sized, Fits}
use Rattle.rules.proofs.Lists.{map_at, length_at, all_at}

-- ---- record by record

module _ {P C : Type 0} (T : Table) where
  pub mesh_ends : (b : Option (Patch P C)) (q : Piece P C) (qs : List (Piece P C)) → patch_of T b q.flag q.body ≡ none → mesh T b (q ∷ qs) ≡ []
  unfolding mesh
  mesh_ends b q qs e = rw (e, mesh)

  pub mesh_more : (b : Option (Patch P C)) (q : Piece P C) (qs : List (Piece P C)) (p : Patch P C)
      → patch_of T b q.flag q.body ≡ some p → mesh T b (q ∷ qs) ≡ p ∷ mesh T (some p) qs
  unfolding mesh
  mesh_more b q qs p e = rw (e, mesh)

  -- records that go on give patches that go on
  mesh_append : (b : Option (Patch P C)) (qs rs : List (Piece P C)) → Begins (mesh T b qs) (mesh T b (qs ++ rs))
  unfolding mesh
  mesh_append b [] rs = begins_nothing (mesh T b rs)
  mesh_append b (q ∷ qs) rs = go (patch_of T b q.flag q.body) refl (λ p. mesh_append (some p) qs rs)
    where
      go : (o : Option (Patch P C)) → patch_of T b q.flag q.body ≡ o
          → ((p : Patch P C) → Begins (mesh T (some p) qs) (mesh T (some p) (qs ++ rs)))
          → Begins (mesh T b (q ∷ qs)) (mesh T b ((q ∷ qs) ++ rs))
      go none e ih = rw (mesh_ends b q qs e) (begins_nothing (mesh T b ((q ∷ qs) ++ rs)))
      go (some p) e ih = rw (mesh_more b q qs p e, mesh_more b q (qs ++ rs) p e) (begins_after (p ∷ []) (ih p))

  pub mesh_begins : (b : Option (Patch P C)) {qs rs : List (Piece P C)} → Begins qs rs → Begins (mesh T b qs) (mesh T b rs)
  mesh_begins b {qs} {rs} p = rw p.is (mesh_append b qs p.rest)

-- ---- decoding

-- points and colours, each by itself, as decoding does it
abbrev pub each : {P C Q D : Type 0} → (P → Q) → (C → D) → Patch P C → Patch Q D
each f g p = patch (map f p.points) (map g p.colours)

abbrev pub each_piece : {P C Q D : Type 0} → (P → Q) → (C → D) → Piece P C → Piece Q D
each_piece f g q = record { flag = q.flag; body = each f g q.body }

module _ {P C Q D : Type 0} (f : P → Q) (g : C → D) (T : Table) where
  onto_each : (b : Patch P C) (s : Places) (o : Patch P C) → onto (each f g b) s (each f g o) ≡ each f g (onto b s o)
  onto_each b s o = simp (map-append, map_at)

  patch_of-each : (b : Option (Patch P C)) (n : ℕ) (o : Patch P C)
      → patch_of T (Option.map (each f g) b) n (each f g o) ≡ Option.map (each f g) (patch_of T b n o)
  patch_of-each b zero o = refl
  patch_of-each none (suc n) o = refl
  patch_of-each (some b) (suc n) o = go (get_elem? T n)
    where
      go : (s : Option Places)
          → Option.map (λ (s : Places). onto (each f g b) s (each f g o)) s ≡ Option.map (each f g) (Option.map (λ (s : Places). onto b s o) s)
      go none = refl
      go (some s) = ap some (onto_each b s o)

  -- to decode the records or the patches is the same
  pub mesh_decoded : (b : Option (Patch P C)) (qs : List (Piece P C))
      → mesh T (Option.map (each f g) b) (map (each_piece f g) qs) ≡ map (each f g) (mesh T b qs)
  unfolding mesh
  mesh_decoded b [] = refl
  mesh_decoded b (q ∷ qs) = go (patch_of T b q.flag q.body) refl (λ p. mesh_decoded (some p) qs)
    where
      go : (o : Option (Patch P C)) → patch_of T b q.flag q.body ≡ o
          → ((p : Patch P C) → mesh T (some (each f g p)) (map (each_piece f g) qs) ≡ map (each f g) (mesh T (some p) qs))
          → mesh T (Option.map (each f g) b) (map (each_piece f g) (q ∷ qs)) ≡ map (each f g) (mesh T b (q ∷ qs))
      go none e ih =
          let d = patch_of-each b q.flag q.body ∙ ap (Option.map (each f g)) e in
          mesh_ends T (Option.map (each f g) b) (each_piece f g q) (map (each_piece f g) qs) d ∙ ap (map (each f g)) (sym (mesh_ends T b q qs e))
      go (some p) e ih =
          let d = patch_of-each b q.flag q.body ∙ ap (Option.map (each f g)) e in
          mesh_more T (Option.map (each f g) b) (each_piece f g q) (map (each_piece f g) qs) (each f g p) d
          ∙ ap (λ (l : List (Patch Q D)). each f g p ∷ l) (ih p)
          ∙ ap (map (each f g)) (sym (mesh_more T b q qs p e))

-- what is written of decoded points and colours
pub flat_map : {A B D : Type 0} (h : B → List D) (f : A → B) (l : List A) → flat h (map f l) ≡ flat (λ (x : A). h (f x)) l
unfolding flat
flat_map h f [] = refl
flat_map h f (x ∷ l) = rw (flat_map h f l)

pub patch_row-decoded : {P C Q D A : Type 0} (f : P → Q) (g : C → D) (point : Q → List A) (colour : D → List A) (ps : List (Patch P C))
    → flat (patch_row point colour) (map (each f g) ps) ≡ flat (patch_row (λ (x : P). point (f x)) (λ (x : C). colour (g x))) ps
unfolding flat patch_row
patch_row-decoded f g point colour [] = refl
patch_row-decoded f g point colour (p ∷ ps) =
    rw (flat_map point f p.points, flat_map colour g p.colours, patch_row-decoded f g point colour ps)

-- ---- what each patch has

pub all_found : {A : Type 0} (S : A → Type 0) (l : List A) (i : ℕ) (x : A) → All S l → get_elem? l i ≡ some x → S x
all_found S [] i x a e = absurd (none-ne-some x e)
all_found S (y ∷ l) zero x a e = subst S (some-injective y x e) a.0
all_found S (y ∷ l) (suc i) x a e = all_found S l i x a.1 e

-- the patch before, if there is one, has it
abbrev pub Before : {P C : Type 0} → (Patch P C → Type 0) → Option (Patch P C) → Type 0
Before Q none = Unit {0}
Before Q (some p) = Q p

-- What a new patch has, and a joined one keeps, every patch has: W says what is known of a record by its flag, S what of the sides.
module _ {P C : Type 0} (T : Table) (S : Places → Type 0) (W : ℕ → Patch P C → Type 0) (Q : Patch P C → Type 0) (sides-are : All S T)
    (new-has : (o : Patch P C) → W 0 o → Q o)
    (joined-has : (b : Patch P C) (s : Places) (f : ℕ) (o : Patch P C) → Q b → S s → W (suc f) o → Q (onto b s o)) where
  pub patch_of_has : (b : Option (Patch P C)) (f : ℕ) (o p : Patch P C) → Before Q b → W f o → patch_of T b f o ≡ some p → Q p
  patch_of_has b zero o p z w e = subst Q (some-injective o p e) (new-has o w)
  patch_of_has none (suc f) o p z w e = absurd (none-ne-some p e)
  patch_of_has (some b) (suc f) o p z w e = go (get_elem? T f) refl e
    where
      go : (t : Option Places) → get_elem? T f ≡ t → Option.map (λ (s : Places). onto b s o) t ≡ some p → Q p
      go none q e = absurd (none-ne-some p e)
      go (some s) q e = subst Q (some-injective (onto b s o) p e) (joined-has b s f o z (all_found S T f s sides-are q) w)

  pub mesh_has : (b : Option (Patch P C)) (qs : List (Piece P C)) → Before Q b → All (λ (q : Piece P C). W q.flag q.body) qs
      → All Q (mesh T b qs)
  unfolding mesh
  mesh_has b [] z w = tt
  mesh_has b (q ∷ qs) z w = go (patch_of T b q.flag q.body) refl (λ p y. mesh_has (some p) qs y w.1)
    where
      go : (o : Option (Patch P C)) → patch_of T b q.flag q.body ≡ o → ((p : Patch P C) → Q p → All Q (mesh T (some p) qs))
          → All Q (mesh T b (q ∷ qs))
      go none e ih = rw (mesh_ends T b q qs e) tt
      go (some p) e ih =
          let y = patch_of_has b q.flag q.body p z w.0 e in
          rw (mesh_more T b q qs p e) (y, ih p y)

module _ {P C : Type 0} where
  -- each point and each colour is of the kind
  abbrev pub Made : (P → Type 0) → (C → Type 0) → Patch P C → Type 0
  Made Point Colour p = All Point p.points × All Colour p.colours

  -- all points, where a joined patch has so many of its own, and four colours
  pub onto_sized : (own : ℕ) (b : Patch P C) (s : Places) (o : Patch P C) → Sized (4 + own) 4 b → Fits (4 + own) s → Sized own 2 o
      → Sized (4 + own) 4 (onto b s o)
  onto_sized own b s o z f w =
      let ps = length_at b.points s.points (rw z.0 f.1) in
      let cs = length_at b.colours s.colours (rw z.1 f.2) in
      (simp length-append (omega arith), simp length-append (omega arith))

  pub onto_made : (Point : P → Type 0) (Colour : C → Type 0) (b : Patch P C) (s : Places) (o : Patch P C) → Made Point Colour b → Made Point Colour o
      → Made Point Colour (onto b s o)
  onto_made Point Colour b s o m w = (
    all_append Point (at b.points s.points) o.points (all_at Point b.points s.points m.0) w.0,
    all_append Colour (at b.colours s.colours) o.colours (all_at Colour b.colours s.colours m.1) w.1,
  )

-- ---- counts

SameSize : {A B : Type 0} → Option A → Option B → Type 0
SameSize none none = Unit {0}
SameSize none (some y) = ⊥
SameSize (some x) none = ⊥
SameSize (some x) (some y) = Unit {0}

same_row : {A B : Type 0} (l : List A) (m : List B) (i : ℕ) → length l ≡ length m → SameSize (get_elem? l i) (get_elem? m i)
unfolding SameSize
same_row [] [] i e = tt
same_row [] (y ∷ m) i e = absurd (omega arith)
same_row (x ∷ l) [] i e = absurd (omega arith)
same_row (x ∷ l) (y ∷ m) zero e = tt
same_row (x ∷ l) (y ∷ m) (suc i) e = same_row l m i (omega arith)

module _ {P C : Type 0} (T U : Table) (h : length T ≡ length U) where
  patch_of-same : (b c : Option (Patch P C)) (f : ℕ) (o : Patch P C) → SameSize b c → SameSize (patch_of T b f o) (patch_of U c f o)
  unfolding SameSize
  patch_of-same b c zero o s = tt
  patch_of-same none none (suc f) o s = tt
  patch_of-same none (some c) (suc f) o s = absurd s
  patch_of-same (some b) none (suc f) o s = absurd s
  patch_of-same (some b) (some c) (suc f) o s = go (get_elem? T f) (get_elem? U f) (same_row T U f h)
    where
      go : (x y : Option Places) → SameSize x y
          → SameSize (Option.map (λ (s : Places). onto b s o) x) (Option.map (λ (s : Places). onto c s o) y)
      go none none s = tt
      go none (some y) s = absurd s
      go (some x) none s = absurd s
      go (some x) (some y) s = tt

  count_same : (b c : Option (Patch P C)) (qs : List (Piece P C)) → SameSize b c → length (mesh T b qs) ≡ length (mesh U c qs)
  unfolding mesh SameSize
  count_same b c [] s = refl
  count_same b c (q ∷ qs) s =
      go (patch_of T b q.flag q.body) (patch_of U c q.flag q.body) refl refl (patch_of-same b c q.flag q.body s)
      (λ p r. count_same (some p) (some r) qs tt)
    where
      go : (x y : Option (Patch P C)) → patch_of T b q.flag q.body ≡ x → patch_of U c q.flag q.body ≡ y → SameSize x y
          → ((p r : Patch P C) → length (mesh T (some p) qs) ≡ length (mesh U (some r) qs)) → length (mesh T b (q ∷ qs)) ≡ length (mesh U c (q ∷ qs))
      go none none d e s ih = rw (mesh_ends T b q qs d, mesh_ends U c q qs e)
      go none (some r) d e s ih = absurd s
      go (some p) none d e s ih = absurd s
      go (some p) (some r) d e s ih = rw (mesh_more T b q qs p d, mesh_more U c q qs r e) (ap suc (ih p r))

-- both tables always give equally many patches
pub tables_count_equal : {P C : Type 0} (qs : List (Piece P C)) → length (mesh list_sides none qs) ≡ length (mesh sides none qs)
unfolding SameSize
tables_count_equal qs = count_same list_sides sides refl none none qs tt
