-- The clauses' own text, for theorems to compare with.
use Rattle.std.specs.Prelude.{[], ◌∷◌, ℕ, ◌+◌, ◌*◌}
use Rattle.rules.specs.Triangles.{Tri, tri}
use Rattle.rules.specs.Patches.{Places, Table, patch, at}

-- ---- 8.7.4.5.6: k vertices to a row; Vi,j is vertex j of row i

abbrev pub vij : ℕ → ℕ → ℕ → ℕ
vij k i j = i * k + j

-- Vi,j  Vi,j+1  Vi+1,j
abbrev pub upper : ℕ → ℕ → ℕ → Tri
upper k i j = tri (vij k i j) (vij k i (j + 1)) (vij k (i + 1) j)

-- Vi,j+1  Vi+1,j  Vi+1,j+1
abbrev pub lower : ℕ → ℕ → ℕ → Tri
lower k i j = tri (vij k i (j + 1)) (vij k (i + 1) j) (vij k (i + 1) (j + 1))

-- the second and the third vertex change places
abbrev pub turned : Tri → Tri
turned t = tri t.a t.c t.b

-- ---- 8.7.4.5.7: points 1 to 12 and colours 1 to 4, and the sides that flags 1, 2 and 3 take over

abbrev pub coons_order : Places
coons_order = patch (1 ∷ 2 ∷ 3 ∷ 4 ∷ 5 ∷ 6 ∷ 7 ∷ 8 ∷ 9 ∷ 10 ∷ 11 ∷ 12 ∷ []) (1 ∷ 2 ∷ 3 ∷ 4 ∷ [])

abbrev pub coons : Table
coons =
    patch (4 ∷ 5 ∷ 6 ∷ 7 ∷ []) (2 ∷ 3 ∷ [])
    ∷ patch (7 ∷ 8 ∷ 9 ∷ 10 ∷ []) (3 ∷ 4 ∷ [])
    ∷ patch (10 ∷ 11 ∷ 12 ∷ 1 ∷ []) (4 ∷ 1 ∷ [])
    ∷ []

-- ---- 8.7.4.5.8: pij and cij, each as 10 * i + j

-- the order of the stream
abbrev pub tensor_order : Places
tensor_order =
    patch
    (00 ∷ 01 ∷ 02 ∷ 03 ∷ 13 ∷ 23 ∷ 33 ∷ 32 ∷ 31 ∷ 30 ∷ 20 ∷ 10 ∷ 11 ∷ 12 ∷ 22 ∷ 21 ∷ [])
    (00 ∷ 03 ∷ 33 ∷ 30 ∷ [])

abbrev pub tensor : Table
tensor =
    patch (03 ∷ 13 ∷ 23 ∷ 33 ∷ []) (03 ∷ 33 ∷ [])
    ∷ patch (33 ∷ 32 ∷ 31 ∷ 30 ∷ []) (33 ∷ 30 ∷ [])
    ∷ patch (30 ∷ 20 ∷ 10 ∷ 00 ∷ []) (30 ∷ 00 ∷ [])
    ∷ []

-- the sixteen points row by row, which is not the stream's order, with the same corners
abbrev pub row_by_row : Places
row_by_row =
    patch
    (00 ∷ 01 ∷ 02 ∷ 03 ∷ 10 ∷ 11 ∷ 12 ∷ 13 ∷ 20 ∷ 21 ∷ 22 ∷ 23 ∷ 30 ∷ 31 ∷ 32 ∷ 33 ∷ [])
    (00 ∷ 03 ∷ 33 ∷ 30 ∷ [])

-- what the places of a side are called in a given order
abbrev pub named : Places → Places → Places
named order side = patch (at order.points side.points) (at order.colours side.colours)
