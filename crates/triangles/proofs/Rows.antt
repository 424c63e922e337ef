-- Where vertices lie, that their places can be counted, and how long their rows are; a row alone and beside others. Assumes nothing.
use Prim.Native.Nat.{ℕ, ◌+◌, ◌-◌, ◌*◌, ◌^◌, ◌≤◌, ◌<◌}
use mathlib.Core.Path.{◌≡◌, ◌∙◌, ap}
use mathlib.Core.List.{List, ◌++◌, append_assoc}
use native.Mathlib.Omega.{arith}
use native.Mathlib.Nat.{mul-le-mul, mul-le-mul_left, mul-le-mul_right, suc-mul}
use lib.ListN.{length, length-append}
use lib.Ieee.{Float, nan}
use Rattle.lists.specs.Lists.{part}
use Rattle.lists.specs.Writing.{Written, Placed}
use Rattle.lists.proofs.Pieces.{length_part}
use Rattle.decode.specs.Decode.{Ranges}
use Rattle.colour.specs.Inner.Places.{vertex_at}
use Rattle.colour.proofs.Lengths.{length-vertex_at}
use Rattle.rows.specs.Inner.Sources.{places, numbers_of, masked, flag_at}
use Rattle.rows.specs.Inner.Placing.{vertex_places, shared_rows, row_index, corner_fits}
use Rattle.rows.proofs.Corners.{no_shared, two_shared, index_alone, index_joined}
use Rattle.rows.proofs.Callers.{corner_placed, flag_there, flag_stands}
use Rattle.triangles.specs.declared.vertices.Vertices.{Vertices}
use Rattle.triangles.specs.Inner.Vertices.{flag_of_vertex, row_size, row_of_vertex}

module _ (v : Vertices) (i : ℕ) (k : i < v.total) where
  ends_there : i * v.size + v.size ≤ places v.input.source
  ends_there = omega (arith, v.whole, mul-le-mul_right v.size k, suc-mul i v.size)

  -- its coordinates and components stand there
  stands : i * v.size + v.input.layout.flag + vertex_places v.input ≤ places v.input.source
  stands = omega (arith, ends_there, v.sized)

  pub flag_here : {f : ℕ} → 1 ≤ v.input.layout.flag → f ≡ flag_at v.input.source v.input.layout.flag (i * v.size) → masked v.mask f ≡ flag_of_vertex v i
  unfolding flag_of_vertex
  flag_here some e =
      ap (masked v.mask) e
      ∙ flag_there v.input.source v.mask v.input.layout.flag (i * v.size) v.mask_there
      (flag_stands v.input.source v.input.layout.flag (i * v.size) some v.input.layout.flag_few v.input.short (omega (arith, ends_there, v.sized)))

pub length_in : (v : Vertices) (R : Ranges) (i : ℕ) → length (row_of_vertex v R i) ≡ row_size v
unfolding row_of_vertex
length_in v R i =
    length-vertex_at (numbers_of v.input.source R) v.input.layout.coord v.input.layout.comp v.input.layout.n (i * v.size + v.input.layout.flag)

-- ---- a vertex with the rows that come with it

-- what `place_corner` promises of vertex i
abbrev pub Corner : Vertices → Ranges → ℕ → ℕ → List Float → List Float → ℕ → ℕ → Type 0
Corner v R i side l o at q =
    let p : ℕ = i * v.size + v.input.layout.flag in
    Placed (corner_fits v.input p side at (length l)) l o at
    (shared_rows l side (row_size v) at ++ vertex_at (numbers_of v.input.source R) v.input.layout.coord v.input.layout.comp v.input.layout.n p) q

-- its row alone, where side is at; and after the two rows of a side
module _ (v : Vertices) (R : Ranges) (i : ℕ) (k : i < v.total) {l o : List Float} {at q : ℕ} where
  corner_written : (side : ℕ) → Corner v R i side l o at q → row_index side (row_size v) at + row_size v ≤ length l → (side < at → side + row_size v ≤ at)
      → Written l o at (shared_rows l side (row_size v) at ++ row_of_vertex v R i) q
  unfolding row_of_vertex
  corner_written side d room b =
      corner_placed v.input (numbers_of v.input.source R) {entry = l} {exit = o} {at = at} {next = q} (i * v.size + v.input.layout.flag) side d (stands v i k) room b

  pub row_alone : Corner v R i at l o at q → at + row_size v ≤ length l → (q ≡ at + row_size v) × Written l o at (row_of_vertex v R i) q
  row_alone d room =
      let size : ℕ = row_size v in
      let index = index_alone at size at (omega arith) in
      let w : Written l o at (row_of_vertex v R i) q = rw (no_shared l at size at (omega arith)) at (corner_written at d (omega (arith, index)) (λ j. omega arith)) in
      (omega (arith, w.after, length_in v R i), w)

  pub row_joined : (first : ℕ) → Corner v R i first l o at q → first + row_size v ≤ at → at + 3 * row_size v ≤ length l
      → (q ≡ at + 3 * row_size v) × Written l o at (part nan l first (row_size v) ++ (part nan l (at - row_size v) (row_size v) ++ row_of_vertex v R i)) q
  row_joined first d before room =
      let size : ℕ = row_size v in
      let index = index_joined first size at (omega arith) in
      let w : Written l o at (part nan l first size ++ (part nan l (at - size) size ++ row_of_vertex v R i)) q =
      rw (two_shared l first size at (omega arith), append_assoc) at (corner_written first d (omega (arith, index)) (λ j. omega arith)) in
      let long : length (part nan l first size ++ (part nan l (at - size) size ++ row_of_vertex v R i)) ≡ 3 * size =
      simp (length-append, length_part) (omega (arith, length_in v R i)) in
      (omega (arith, w.after), w)

-- ---- counts

module _ (v : Vertices) where
  -- a vertex takes two places at least
  pub total_small : v.total ≤ 134217728
  total_small =
      let m : 1 ≤ v.size = omega (arith, v.input.layout.coord_some, v.sized) in
      omega (arith, v.whole, v.input.short, mul-le-mul_left v.total m)

  -- a usize counts the numbers of so many triangles
  pub numbers_small : (count : ℕ) → count ≤ 2 * v.total → count * (3 * row_size v) < 2 ^ 64
  numbers_small count k =
      let a : 3 * row_size v ≤ 126 = omega (arith, v.input.layout.n_few) in
      let b : count ≤ 268435456 = omega (arith, total_small) in
      omega (arith, mul-le-mul b a)
