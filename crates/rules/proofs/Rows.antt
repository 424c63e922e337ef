-- What triangles and patches are written as: lengths, and what a writer finds again in its output to copy. Assumes nothing.
use mathlib.Core.Path.{◌≡◌}
use mathlib.Core.List.{List, ◌++◌, append_assoc}
use Prim.Native.Nat.{ℕ, ◌+◌, ◌*◌, ◌<◌}
use native.Mathlib.Omega.{arith}
use lib.ListN.{length, take, drop, length-append}
use Rattle.lists.specs.Lists.{part, flat, All, AllBelow}
use Rattle.lists.proofs.Pieces.{length-flat, flat_append}
use Rattle.rules.specs.Triangles.{Tri, corners}
use Rattle.rules.specs.Patches.{Patch, Places, Table, at, onto, patch_row}
use Rattle.rules.specs.Meshes.{Source, patches, patch_mesh}
use Rattle.rules.specs.Inner.Sides.{Sized, Fits}
use Rattle.rules.proofs.Lists.{length_flat_all, flat_at, part_of_flat, all_map}
use Rattle.rules.proofs.Patches.{Made}
use Rattle.rules.proofs.Meshes.{Numbered, patches_numbered}

-- ---- triangles

module _ {A : Type 0} (row : ℕ → List A) (size : ℕ) (sized : (i : ℕ) → length (row i) ≡ size) where
  pub length-corners : (ts : List Tri) → length (flat (corners row) ts) ≡ length ts * (3 * size)
  unfolding corners
  length-corners ts = length-flat (corners row) (3 * size) ts (λ t. simp (length-append, sized) (omega arith))

-- ---- patches

module _ {P C A : Type 0} (point : P → List A) (colour : C → List A) (a m : ℕ) where
  -- a point takes a places, and a colour m
  abbrev pub Rows : Patch P C → Type 0
  Rows p = Made (λ (x : P). length (point x) ≡ a) (λ (x : C). length (colour x) ≡ m) p

  pub length-patch_row : (points colours : ℕ) (p : Patch P C) → Sized points colours p → Rows p
      → length (patch_row point colour p) ≡ points * a + colours * m
  unfolding patch_row
  length-patch_row points colours p z r =
      rw (length-append, length_flat_all point a p.points r.0, length_flat_all colour m p.colours r.1, z.0, z.1)

  -- Where the row of the patch before stands in the output from index q on, that of a joined patch is a copy of the side there, then its own.
  module _ (d : A) (out front back : List A) (q : ℕ) (b : Patch P C) (r : Rows b) (n : length front ≡ q)
      (e : out ≡ front ++ (patch_row point colour b ++ back)) where
    point_found : (i : ℕ) → i < length b.points → flat point (take 1 (drop i b.points)) ≡ part d out (q + i * a) a
    unfolding patch_row
    point_found i h =
        rw (e, append_assoc, ← n) (part_of_flat point d a front b.points (flat colour b.colours ++ back) i r.0 h)

    colour_found : (i : ℕ) → i < length b.colours → flat colour (take 1 (drop i b.colours)) ≡ part d out (q + length b.points * a + i * m) m
    unfolding patch_row
    colour_found i h =
        let before : List A = front ++ flat point b.points in
        let l = length_flat_all point a b.points r.0 in
        let k : q + length b.points * a ≡ length before = omega (arith, length-append front (flat point b.points)) in
        rw (e, append_assoc, ← (append_assoc front (flat point b.points) (flat colour b.colours ++ back)), k)
        (part_of_flat colour d m before b.colours back i r.1 h)

    pub onto_row : (s : Places) (o : Patch P C) → AllBelow (length b.points) s.points → AllBelow (length b.colours) s.colours
        → patch_row point colour (onto b s o)
        ≡ (flat (λ (i : ℕ). part d out (q + i * a) a) s.points ++ flat point o.points)
        ++ (flat (λ (i : ℕ). part d out (q + length b.points * a + i * m) m) s.colours ++ flat colour o.colours)
    unfolding patch_row
    onto_row s o ps cs =
        rw (
          flat_append point (at b.points s.points) o.points,
          flat_append colour (at b.colours s.colours) o.colours,
          flat_at point (λ (i : ℕ). part d out (q + i * a) a) b.points s.points ps point_found,
          flat_at colour (λ (i : ℕ). part d out (q + length b.points * a + i * m) m) b.colours s.colours cs colour_found,
        )

-- ---- the patches of a list of numbers

module _ {A B : Type 0} (S : Source A B) (a m n : ℕ) (point_sized : (x : List A) → length x ≡ 2 → length (S.point x) ≡ a)
    (colour_sized : (x : List A) → length x ≡ n → length (S.colour x) ≡ m) where
  pub numbered_rows : (points colours : ℕ) (p : Patch (List A) (List A)) → Numbered points colours n p → Rows S.point S.colour a m p
  numbered_rows points colours p h = (all_map _ _ p.points point_sized h.1.0, all_map _ _ p.colours colour_sized h.1.1)

  pub length-patch_mesh : (T : Table) (own : ℕ) → All (Fits (4 + own)) T → (xs : List A)
      → length (patch_mesh T own S n xs).numbers ≡ (patch_mesh T own S n xs).count * ((4 + own) * a + 4 * m)
  unfolding patch_mesh
  length-patch_mesh T own fit xs =
      let ps : List (Patch (List A) (List A)) = patches S.missing T S.flag own n xs in
      length_flat_all (patch_row S.point S.colour) ((4 + own) * a + 4 * m) ps
      (all_map _ _ ps (λ p h. length-patch_row S.point S.colour a m (4 + own) 4 p h.0 (numbered_rows (4 + own) 4 p h))
      (patches_numbered S.missing S.flag own n T fit xs))
