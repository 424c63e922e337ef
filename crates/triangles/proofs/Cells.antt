-- The rows of a lattice's cells: where a cell before has a vertex, and what a cell adds. Assumes nothing.
use Prim.Native.Nat.{ℕ, zero, suc, ◌+◌, ◌-◌, ◌*◌, ◌/◌, ◌≤◌, ◌<◌}
use mathlib.Core.Path.{◌≡◌, refl, sym, ap, ◌∙◌}
use mathlib.Core.Bool.{Bool, true, false, cond}
use mathlib.Core.Logic.{inl, inr}
use mathlib.Core.List.{List, [], ◌++◌, append-nil, append_assoc}
use native.Mathlib.Omega.{arith}
use native.Mathlib.Nat.{mul-le-mul_right, mul_comm, suc-mul, mul-le-mul, div-mul-le_self}
use borrow.Author.Tests.{ltb-true, ltb-false}
use lib.ListN.{length, take, drop, length-append}
use lib.Seq.{length-take-le}
use lib.Dec.{ltb}
use lib.Ieee.{Float, nan}
use Rattle.std.specs.Prelude.{Option, Some, None}
use Rattle.lists.specs.Lists.{joined, part, flat}
use Rattle.lists.specs.Writing.{put, Written}
use Rattle.lists.proofs.Pieces.{length-joined, joined_same, part_middle, flat_joined}
use Rattle.lists.proofs.Parts.{written_here}
use Rattle.lists.proofs.Writing.{written_length, written_start, written_more, written_then, part_before}
use Rattle.rules.specs.Triangles.{corners}
use Rattle.rules.specs.Lattice.{cell, lattice}
use Rattle.rules.proofs.Lattice.{lattice_count, lattice_none}
use Rattle.meshes.proofs.Parts.{part_first, part_second, part_of_piece}
use Rattle.triangles.specs.Inner.Vertices.{RowStands}
use Rattle.triangles.specs.Inner.Cells.{Known, cell_numbers, cells_numbers, Above}

-- a row that stands before the place that was written still stands
pub stands_on : {o o' : List Float} {from size at p : ℕ} {xs row : List Float} → RowStands o from size at row → Written o o' at xs p → RowStands o' from size p row
stands_on {o} {o'} {from} {size} {at} {p} {xs} {row} h w =
    record { before = omega (arith, h.before, w.after); held = part_before nan from size w h.before ∙ h.held }

-- nor is it known less
pub known_on : (from : Option ℕ) (size : ℕ) (row : List Float) {o o' : List Float} {at p : ℕ} {xs : List Float} → Known o from size at row → Written o o' at xs p
    → Known o' from size p row
known_on (Some from) size row h w = stands_on h w
known_on None size row h w = h

pub known_if : (there : Bool) (x : ℕ) {from : Option ℕ} {o : List Float} {size at : ℕ} {row : List Float} → from ≡ cond there (Some x) None
    → (there ≡ true → RowStands o x size at row) → Known o from size at row
known_if true x e h = rw e (h refl)
known_if false x e h = rw e tt

-- a part of what was written
written_inside : {l o : List Float} {at p : ℕ} {xs : List Float} (from k : ℕ) → Written l o at xs p → from + k ≤ length xs
    → part nan o (at + from) k ≡ part nan xs from k
unfolding put
written_inside {l} {o} {at} {p} {xs} from k w h =
    let r = w.room in
    let e : length (take at l) ≡ at = length-take-le at l (omega arith) in
    let rest : List Float = drop (at + length xs) l in
    rw w.held
    (ap (λ (m : ℕ). part nan (take at l ++ (xs ++ rest)) (m + from) k) (sym e)
    ∙ part_second nan (take at l) (xs ++ rest) from k
    ∙ part_first nan xs rest from k h)

module _ (vertex : ℕ → List Float) (size : ℕ) (sized : (i : ℕ) → length (vertex i) ≡ size) where
  -- ---- a cell

  pub length-cell : (row i : ℕ) → length (cell_numbers vertex row i) ≡ 6 * size
  unfolding cell_numbers flat corners
  length-cell row i = simp (length-append, sized) (omega arith)

  -- i + 1 is the second of its rows, j + 1 the fifth
  second_row : (row i : ℕ) → part nan (cell_numbers vertex row i) size size ≡ vertex (i + 1)
  unfolding cell_numbers flat corners
  second_row row i =
      let a : List Float = vertex i in
      let b : List Float = vertex (i + 1) in
      let c : List Float = vertex (i + row) in
      let e : List Float = (b ++ (vertex (i + row + 1) ++ c)) ++ [] in
      rw (append_assoc a (b ++ c) e, append_assoc b c e) (part_middle nan a b (c ++ e) size size (sized i) (sized (i + 1)))

  fifth_row : (row i : ℕ) → part nan (cell_numbers vertex row i) (4 * size) size ≡ vertex (i + row + 1)
  unfolding cell_numbers flat corners
  fifth_row row i =
      let a : List Float = vertex i in
      let b : List Float = vertex (i + 1) in
      let c : List Float = vertex (i + row) in
      let d : List Float = vertex (i + row + 1) in
      let f : List Float = (a ++ (b ++ c)) ++ b in
      let n : length f ≡ 4 * size = simp (length-append, sized) (omega arith) in
      rw (append_assoc b (d ++ c) [], append_assoc d c [], ← (append_assoc (a ++ (b ++ c)) b (d ++ (c ++ []))))
      (part_middle nan f d (c ++ []) (4 * size) size n (sized (i + row + 1)))

  module _ {o₀ o₁ o₂ o₃ : List Float} {at p q s : ℕ} (row i : ℕ) (w₁ : Written o₀ o₁ at (vertex i) p)
      (w₂ : Written o₁ o₂ p (vertex (i + 1)) q) (w₃ : Written o₂ o₃ q (vertex (i + row)) s) where
    -- the rows that the cell has twice
    again_second : part nan o₃ p size ≡ vertex (i + 1)
    again_second =
        part_before nan p size w₃ (omega (arith, w₂.after, sized (i + 1))) ∙ written_here nan size w₂ (sized (i + 1))

    pub cell_written : {o₄ o₅ o₆ : List Float} {t u v : ℕ} → Written o₃ o₄ s (part nan o₃ p size) t → Written o₄ o₅ t (vertex (i + row + 1)) u
        → Written o₅ o₆ u (part nan o₅ q size) v → Written o₀ o₆ at (cell_numbers vertex row i) v
    unfolding cell_numbers flat corners
    cell_written {o₄} {o₅} {o₆} {t} {u} {v} w₄ w₅ w₆ =
        let n₃ : q + size ≤ s = omega (arith, w₃.after, sized (i + row)) in
        let n₄ : q + size ≤ t = omega (arith, w₄.after) in
        let third : part nan o₅ q size ≡ vertex (i + row) =
        part_before nan q size w₅ n₄ ∙ part_before nan q size w₄ n₃ ∙ written_here nan size w₃ (sized (i + row)) in
        rw append-nil
        (written_then (written_then w₁ (written_then w₂ w₃))
        (written_then (rw again_second at w₄) (written_then w₅ (rw third at w₆))))

  -- ---- a row of cells

  abbrev cells : ℕ → ℕ → ℕ → List Float
  cells row first c = cell_numbers vertex row (first + c)

  -- so many cells of it have been written
  pub record Cells (l o : List Float) (at p row first c : ℕ) : Type 0 where
    pub written : Written l o at (joined c (cells row first)) p
    pub same : length o ≡ length l

  pub cells_start : (l : List Float) (at row first : ℕ) → at ≤ length l → Cells l l at at row first 0
  cells_start l at row first h = record { written = written_start l at _ h; same = refl }

  length-cells : (row first c : ℕ) → length (joined c (cells row first)) ≡ c * (6 * size)
  length-cells row first c = length-joined c (6 * size) (cells row first) (λ i. length-cell row (first + i))

  module _ {l o : List Float} {at p row first c : ℕ} (k : Cells l o at p row first c) where
    pub cells_place : p ≡ at + c * (6 * size)
    cells_place = omega (arith, k.written.after, length-cells row first c)

    pub cells_enough : 0 < c → 6 * size ≤ p
    cells_enough h = omega (arith, cells_place, mul-le-mul_right (6 * size) h)

    -- one more has room
    pub cells_room : c + 1 < row → at + 6 * size * (row - 1) ≤ length l → p + 6 * size ≤ length o
    cells_room h room =
        let e = k.same in
        let n : c + 1 ≤ row - 1 = omega arith in
        omega (arith, cells_place, mul-le-mul_right (6 * size) n, mul_comm (6 * size) (row - 1))

    pub cells_more : {o' : List Float} {q : ℕ} → Written o o' p (cell_numbers vertex row (first + c)) q → Cells l o' at q row first (c + 1)
    cells_more w = record { written = written_more c (cells row first) k.written w; same = written_length w ∙ k.same }

    -- all
    pub cells_done : row ≤ c + 1 → c + 1 ≤ row → (p ≡ at + 6 * size * (row - 1)) × Written l o at (cells_numbers vertex row first) p
    unfolding cells_numbers
    cells_done g h =
        let e : c ≡ row - 1 = omega arith in
        let n : c * (6 * size) ≡ 6 * size * (row - 1) = ap (λ (m : ℕ). m * (6 * size)) e ∙ mul_comm (row - 1) (6 * size) in
        (omega (arith, cells_place), rw e at k.written)

    -- the row of cells above has the next vertex
    pub stands_above : c + 1 < row → Above vertex l size row first at → RowStands o (p - (6 * size * (row - 1) - 4 * size)) size p (vertex (first + c + 1))
    stands_above h ab =
        let b : ℕ = 6 * size * (row - 1) in
        let e = cells_place in
        let n : c + 1 ≤ row - 1 = omega arith in
        let m : c * (6 * size) + 6 * size ≤ b = omega (arith, mul-le-mul_right (6 * size) n, mul_comm (6 * size) (row - 1)) in
        let x : at - b + (c * (6 * size) + 4 * size) ≡ p - (b - 4 * size) = omega (arith, ab.before) in
        record {
          before = omega (arith, ab.before);
          held = rw (← x) (part_before nan (at - b + (c * (6 * size) + 4 * size)) size k.written (omega (arith, ab.before)) ∙ ab.held c h);
        }

  module _ {l o : List Float} {at p row first : ℕ} where
    -- the cell before has the rows of i and of j
    from_last : (c : ℕ) → Cells l o at p row first (suc c) → (from : ℕ) → from + size ≤ 6 * size
        → part nan o (at + (c * (6 * size) + from)) size ≡ part nan (cells row first c) from size
    from_last c k from h =
        written_inside (c * (6 * size) + from) size k.written (omega (arith, length-cells row first (suc c), suc-mul c (6 * size)))
        ∙ ap (λ (xs : List Float). part nan xs (c * (6 * size) + from) size) (sym (append-nil _))
        ∙ part_of_piece nan (suc c) (6 * size) (cells row first) (λ i. length-cell row (first + i)) [] c from size (omega arith) h

    pub stands_left : (c : ℕ) → 0 < c → Cells l o at p row first c → RowStands o (p - 5 * size) size p (vertex (first + c))
    stands_left zero h k = absurd (omega arith)
    stands_left (suc c) h k =
        let e = cells_place k in
        let x : at + (c * (6 * size) + size) ≡ p - 5 * size = omega (arith, suc-mul c (6 * size)) in
        let y : first + c + 1 ≡ first + suc c = omega arith in
        record {
          before = omega (arith, suc-mul c (6 * size));
          held = rw (← x, ← y) (from_last c k size (omega arith) ∙ second_row row (first + c));
        }

    pub stands_below : (c : ℕ) → 0 < c → Cells l o at p row first c → RowStands o (p - 2 * size) size p (vertex (first + c + row))
    stands_below zero h k = absurd (omega arith)
    stands_below (suc c) h k =
        let e = cells_place k in
        let x : at + (c * (6 * size) + 4 * size) ≡ p - 2 * size = omega (arith, suc-mul c (6 * size)) in
        let y : first + c + row + 1 ≡ first + suc c + row = omega arith in
        record {
          before = omega (arith, suc-mul c (6 * size));
          held = rw (← x, ← y) (from_last c k (4 * size) (omega arith) ∙ fifth_row row (first + c));
        }

  -- ---- the rows of cells

  abbrev band : ℕ → ℕ → List Float
  band row r = cells_numbers vertex row (r * row)

  length-band : (row r : ℕ) → length (band row r) ≡ 6 * size * (row - 1)
  unfolding cells_numbers
  length-band row r = length-cells row (r * row) (row - 1) ∙ mul_comm (row - 1) (6 * size)

  pub record Bands (l o : List Float) (p row r : ℕ) : Type 0 where
    pub written : Written l o 0 (joined r (band row)) p
    pub same : length o ≡ length l

  pub bands_start : (l : List Float) (row : ℕ) → Bands l l 0 row 0
  bands_start l row = record { written = written_start l 0 _ (omega arith); same = refl }

  module _ {l o : List Float} {p row r : ℕ} (k : Bands l o p row r) where
    pub bands_place : p ≡ r * (6 * size * (row - 1))
    bands_place = omega (arith, k.written.after, length-joined r (6 * size * (row - 1)) (band row) (length-band row))

    pub bands_room : (rows : ℕ) → r + 1 < rows → (rows - 1) * (6 * size * (row - 1)) ≤ length l → p + 6 * size * (row - 1) ≤ length o
    bands_room rows h room =
        let e = k.same in
        let n : r + 1 ≤ rows - 1 = omega arith in
        omega (arith, bands_place, mul-le-mul_right (6 * size * (row - 1)) n)

    pub bands_more : {o' : List Float} {q : ℕ} → Written o o' p (cells_numbers vertex row (r * row)) q → Bands l o' q row (r + 1)
    bands_more w = record { written = written_more r (band row) k.written w; same = written_length w ∙ k.same }

  -- in a band, the fifth row of cell c
  band_row : (row r c : ℕ) → c + 1 < row → part nan (band row r) (c * (6 * size) + 4 * size) size ≡ vertex (r * row + c + row + 1)
  unfolding cells_numbers
  band_row row r c h =
      ap (λ (xs : List Float). part nan xs (c * (6 * size) + 4 * size) size) (sym (append-nil _))
      ∙ part_of_piece nan (row - 1) (6 * size) (cells row (r * row)) (λ i. length-cell row (r * row + i)) [] c (4 * size) size (omega arith) (omega arith)
      ∙ fifth_row row (r * row + c)

  -- the band before has what stands above
  pub bands_above : {l o : List Float} {p row : ℕ} (r : ℕ) → 0 < r * row → Bands l o p row r → Above vertex o size row (r * row) p
  bands_above {l} {o} {p} {row} zero h k = absurd (omega arith)
  bands_above {l} {o} {p} {row} (suc r) h k =
      let b : ℕ = 6 * size * (row - 1) in
      let e = bands_place k in
      let x : p ≡ r * b + b = e ∙ suc-mul r b in
      record {
        before = omega arith;
        held = λ c g.
            let n : c + 1 ≤ row - 1 = omega arith in
            let m : c * (6 * size) + 6 * size ≤ b = omega (arith, mul-le-mul_right (6 * size) n, mul_comm (6 * size) (row - 1)) in
            let y : p - b + (c * (6 * size) + 4 * size) ≡ 0 + (r * b + (c * (6 * size) + 4 * size)) = omega arith in
            let v : r * row + c + row + 1 ≡ suc r * row + c + 1 = omega (arith, suc-mul r row) in
            let whole = length-joined (suc r) b (band row) (length-band row) in
            rw y
            (written_inside (r * b + (c * (6 * size) + 4 * size)) size k.written (omega (arith, suc-mul r b))
            ∙ ap (λ (xs : List Float). part nan xs (r * b + (c * (6 * size) + 4 * size)) size) (sym (append-nil _))
            ∙ part_of_piece nan (suc r) b (band row) (length-band row) [] r (c * (6 * size) + 4 * size) size (omega arith) (omega arith)
            ∙ band_row row r c g
            ∙ ap vertex v);
      }

  lattice_bands : (total row : ℕ) → flat (corners vertex) (lattice total row) ≡ joined (total / row - 1) (band row)
  unfolding lattice cells_numbers cell_numbers
  lattice_bands total row =
      flat_joined (corners vertex) (total / row - 1) _
      ∙ joined_same (total / row - 1) _ _ (λ r h. flat_joined (corners vertex) (row - 1) (λ (c : ℕ). cell row (r * row + c)))

  pub lattice_written : (total row rows : ℕ) {l o : List Float} {p : ℕ} → rows ≡ total / row → Written l o 0 (joined (rows - 1) (band row)) p
      → Written l o 0 (flat (corners vertex) (lattice total row)) p
  lattice_written total row rows e w = rw (lattice_bands total row, ← e) w

-- ---- how many rows and cells there are

module _ (total row rows : ℕ) (e : rows ≡ cond (ltb row 2) 0 (total / row)) where
  two_rows : 2 ≤ rows → (2 ≤ row) × (rows ≡ total / row)
  two_rows h = go (ltb row 2) refl
    where
      go : (b : Bool) → ltb row 2 ≡ b → (2 ≤ row) × (rows ≡ total / row)
      go true f = let z : rows ≡ 0 = rw f at e in absurd (omega arith)
      go false f = (ltb-false row 2 f, rw f at e)

  pub no_cells : rows < 2 → lattice total row ≡ []
  no_cells h = go (ltb row 2) refl
    where
      go : (b : Bool) → ltb row 2 ≡ b → lattice total row ≡ []
      go true f = lattice_none total row (inl (ltb-true row 2 f))
      go false f =
          let z : rows ≡ total / row = rw f at e in
          lattice_none total row (inr (rw z at h))

  module _ (h : 2 ≤ rows) where
    pub long_rows : 2 ≤ row
    long_rows = (two_rows h).0

    pub all_rows : rows ≡ total / row
    all_rows = (two_rows h).1

    pub rows_inside : rows * row ≤ total
    rows_inside = rw all_rows (div-mul-le_self total row)

    pub few_cells : 2 * (rows - 1) * (row - 1) ≤ 2 * total
    few_cells =
        let a : rows - 1 ≤ rows = omega arith in
        let b : row - 1 ≤ row = omega arith in
        omega (arith, mul-le-mul a b, rows_inside)

    pub cell_count : 2 * (rows - 1) * (row - 1) ≡ length (lattice total row)
    cell_count = rw all_rows (sym (lattice_count total row))

-- two triangles of three rows are six rows
pub numbers_of_cells : (rows row size : ℕ) → 2 * (rows - 1) * (row - 1) * (3 * size) ≡ (rows - 1) * (6 * size * (row - 1))
numbers_of_cells rows row size = omega arith
