-- A vertex and the rows that come with it: where they stand, and how they are written. Assumes nothing.
use Prim.Native.Nat.{ℕ, ◌+◌, ◌-◌, ◌*◌, ◌≤◌, ◌<◌}
use mathlib.Core.Path.{◌≡◌, refl, ap, ap₂, ◌∙◌, subst}
use mathlib.Core.Bool.{Bool, true, false, cond}
use mathlib.Core.List.{List, [], ◌++◌}
use native.Mathlib.Omega.{arith}
use borrow.Author.Tests.{lt-ltb, le-ltb, ltb-true}
use lib.Dec.{ltb}
use lib.ListN.{length, length-append}
use lib.Ieee.{Float, nan}
use Rattle.lists.specs.Lists.{part}
use Rattle.lists.specs.Writing.{Written}
use Rattle.lists.proofs.Pieces.{length_part}
use Rattle.lists.proofs.Parts.{written_here, written_over, written_beside, written_before_it}
use Rattle.lists.proofs.Writing.{written_then, part_before}
use Rattle.colour.specs.Inner.Places.{Numbers, point_at, components_at, vertex_at}
use Rattle.colour.proofs.Lengths.{length-colour, length-components_at}
use Rattle.rows.specs.declared.writing.Vertex.{Vertex}
use Rattle.rows.specs.Inner.Placing.{vertex_of, ten_numbers, row_beside, shared_rows, row_index}
use Rattle.rows.proofs.Vertices.{vertex_row_lem}

-- ---- the rows of the side

module _ (o : List Float) (side size at : ℕ) where
  pub no_shared : at ≤ side → shared_rows o side size at ≡ []
  unfolding shared_rows
  no_shared h = simp (le-ltb _ _ h)

  pub two_shared : side < at → shared_rows o side size at ≡ part nan o side size ++ part nan o (at - size) size
  unfolding shared_rows
  two_shared h = simp (lt-ltb _ _ h)

-- how many numbers they take
pub shared_end : (o : List Float) (side size at : ℕ) → at + length (shared_rows o side size at) ≡ row_index side size at
unfolding shared_rows
shared_end o side size at = by_side (ltb side at)
  where
    by_side : (b : Bool) → at + length (cond b (part nan o side size ++ part nan o (at - size) size) []) ≡ cond b (at + 2 * size) at
    by_side true = simp (length-append, length_part) (omega arith)
    by_side false = omega arith

-- numbers written after them change none
shared_same : {l o : List Float} {a p : ℕ} {xs : List Float} (side size at : ℕ) → Written l o a xs p → at ≤ a → (side < at → side + size ≤ at)
    → shared_rows o side size at ≡ shared_rows l side size at
unfolding shared_rows
shared_same {l} {o} {a} {p} {xs} side size at w h b = by_side (ltb side at) refl
  where
    by_side : (t : Bool) → ltb side at ≡ t
        → cond t (part nan o side size ++ part nan o (at - size) size) [] ≡ cond t (part nan l side size ++ part nan l (at - size) size) []
    by_side true e =
        let g = b (ltb-true _ _ e) in
        ap₂ (λ (x y : List Float). x ++ y) (part_before nan side size w (omega arith)) (part_before nan (at - size) size w (omega arith))
    by_side false e = refl

pub row_after : (side size at : ℕ) → at ≤ row_index side size at
row_after side size at = by_side (ltb side at)
  where
    by_side : (t : Bool) → at ≤ cond t (at + 2 * size) at
    by_side true = omega arith
    by_side false = omega arith

pub index_alone : (side size at : ℕ) → at ≤ side → row_index side size at ≡ at
index_alone side size at h = rw (le-ltb _ _ h)

pub index_joined : (side size at : ℕ) → side < at → row_index side size at ≡ at + 2 * size
index_joined side size at h = rw (lt-ltb _ _ h)

-- ---- the row of the vertex, and then those of the side

module _ (v : Vertex) (n side at : ℕ) {l o : List Float} {p : ℕ} (ten : Written l o (row_index side (10 + n) at) (ten_numbers v) p)
    (room : row_index side (10 + n) at + (10 + n) ≤ length l) where
  ten_end : p ≡ row_index side (10 + n) at + 10
  ten_end = omega (arith, ten.after, length-colour v.colour)

  -- the ten numbers go before the components
  row_beside_lem : Written l o (row_index side (10 + n) at) (row_beside l (row_index side (10 + n) at) n v) (p + n)
  row_beside_lem =
      subst (λ (k : ℕ). Written l o (row_index side (10 + n) at) (ten_numbers v ++ part nan l k n) (p + n)) ten_end
      (written_beside nan n ten (omega (arith, ten_end)))

  pub corner_alone : at ≤ side → Written l o at (shared_rows l side (10 + n) at ++ row_beside l (row_index side (10 + n) at) n v) (p + n)
  unfolding shared_rows
  corner_alone h =
      let w = row_beside_lem in
      rw (le-ltb _ _ h) (rw (le-ltb _ _ h) at w)

  pub corner_joined : {o₁ o₂ : List Float} {q r : ℕ} → side < at → side + (10 + n) ≤ at
      → Written o o₁ at (part nan o side (10 + n)) q → Written o₁ o₂ q (part nan o₁ (at - (10 + n)) (10 + n)) r
      → Written l o₂ at (shared_rows l side (10 + n) at ++ row_beside l (row_index side (10 + n) at) n v) (p + n)
  corner_joined {o₁} {o₂} {q} {r} h b w₁ w₂ =
      let after = row_after side (10 + n) at in
      let first : part nan o side (10 + n) ≡ part nan l side (10 + n) = part_before nan side (10 + n) ten (omega arith) in
      let second : part nan o₁ (at - (10 + n)) (10 + n) ≡ part nan l (at - (10 + n)) (10 + n) =
      part_before nan (at - (10 + n)) (10 + n) w₁ (omega arith) ∙ part_before nan (at - (10 + n)) (10 + n) ten (omega arith) in
      let two : Written o o₂ at (part nan l side (10 + n) ++ part nan l (at - (10 + n)) (10 + n)) r = written_then (rw first at w₁) (rw second at w₂) in
      let row = index_joined side (10 + n) at h in
      let ends : r ≡ row_index side (10 + n) at =
      omega (arith, row, w₁.after, w₂.after, length_part nan o side (10 + n), length_part nan o₁ (at - (10 + n)) (10 + n)) in
      rw (two_shared l side (10 + n) at h) (written_before_it row_beside_lem two ends)

-- ---- a vertex that was read

-- and whose components were written beside its row, which is then written with the rows that come with it
module _ (N : Numbers) (coord comp n p side : ℕ) where
  pub corner_read : {l o o' : List Float} {at row q : ℕ} {v : Vertex} → v ≡ vertex_of (point_at N coord p) (components_at N comp n (p + 2 * coord))
      → Written l o (row + 10) (components_at N comp n (p + 2 * coord)) (row + (10 + n)) → row ≡ row_index side (10 + n) at
      → (side < at → side + (10 + n) ≤ at) → q ≡ row_index side (10 + n) at + (10 + n)
      → Written o o' at (shared_rows o side (10 + n) at ++ row_beside o (row_index side (10 + n) at) n v) q
      → Written l o' at (shared_rows l side (10 + n) at ++ vertex_at N coord comp n p) q
  corner_read {l} {o} {o'} {at} {row} {q} {v} is beside e b end w =
      let comps : List Float = components_at N comp n (p + 2 * coord) in
      let later = row_after side (10 + n) at in
      let same : shared_rows o side (10 + n) at ≡ shared_rows l side (10 + n) at = shared_same side (10 + n) at beside (omega arith) b in
      let stands : part nan o (row_index side (10 + n) at + 10) n ≡ comps = rw (← e) (written_here nan n beside (length-components_at N comp n (p + 2 * coord))) in
      let whole : Written o o' at (shared_rows l side (10 + n) at ++ (ten_numbers v ++ comps)) q = rw (same, stands) at w in
      let vertex : ten_numbers v ++ comps ≡ vertex_at N coord comp n p = ap (λ (y : Vertex). ten_numbers y ++ comps) is ∙ vertex_row_lem N coord comp n p in
      written_over beside (rw vertex at whole) (omega arith) (omega arith)
