-- Type 5: the count, the vertices' range, cuts, and the clause's own triangles. Assumes nothing.
use mathlib.Core.Path.{◌≡◌, refl, ◌∙◌}
use mathlib.Core.Logic.{◌⊎◌, inl, inr}
use mathlib.Core.List.{List, [], ◌∷◌}
use Prim.Native.Nat.{ℕ, ◌+◌, ◌-◌, ◌*◌, ◌/◌, ◌≤◌, ◌<◌}
use native.Mathlib.Nat.{mul-le-mul_right, div-mul-le_self, mul-zero, zero-mul}
use native.Mathlib.Omega.{arith}
use lib.ListN.{length}
use Rattle.lists.specs.Lists.{joined, All, Begins}
use Rattle.lists.proofs.Pieces.{length-joined, joined_same}
use Rattle.rules.specs.Triangles.{Tri}
use Rattle.rules.specs.Lattice.{lattice}
use Rattle.rules.specs.Clauses.{upper, lower, turned}
use Rattle.rules.proofs.Properties.{CornersBelow}
use Rattle.rules.proofs.Lists.{all_joined, joined_begins, div_grows}

-- two for each cell; k vertices to a row
pub lattice_count : (count k : ℕ) → length (lattice count k) ≡ 2 * (count / k - 1) * (k - 1)
unfolding lattice
lattice_count count k = length-joined _ _ _ (λ r. length-joined _ _ _ (λ c. refl)) ∙ omega arith

-- with a row length or a number of rows under 2 there is none
pub lattice_none : (count k : ℕ) → (k < 2) ⊎ (count / k < 2) → lattice count k ≡ []
lattice_none count k h = empty (lattice count k) (lattice_count count k ∙ zero-cells h)
  where
    zero-cells : (k < 2) ⊎ (count / k < 2) → 2 * (count / k - 1) * (k - 1) ≡ 0
    zero-cells (inl l) =
        let e : k - 1 ≡ 0 = omega arith in
        rw (e, mul-zero)
    zero-cells (inr l) =
        let e : count / k - 1 ≡ 0 = omega arith in
        rw (e, zero-mul)

    empty : (l : List Tri) → length l ≡ 0 → l ≡ []
    empty [] e = refl
    empty (t ∷ l) e = absurd (omega arith)

-- every vertex is among those given
pub lattice_within : (count k : ℕ) → All (CornersBelow count) (lattice count k)
unfolding lattice
lattice_within count k =
    all_joined (CornersBelow count) (count / k - 1) _
    (λ r h. all_joined (CornersBelow count) (k - 1) _
    (λ c l.
    let s : r + 2 ≤ count / k = omega arith in
    let m = mul-le-mul_right k s in
    let d = div-mul-le_self count k in
    omega arith))

-- more vertices give triangles that go on
pub lattice_begins : (count more k : ℕ) → count ≤ more → Begins (lattice count k) (lattice more k)
unfolding lattice
lattice_begins count more k h =
    joined_begins (count / k - 1) (more / k - 1) _ _ (omega (arith, div_grows count more k h)) (λ i l. refl)

-- the clause's triangles, but that the second of a cell is turned
pub lattice_clause : (count k : ℕ)
    → lattice count k ≡ joined (count / k - 1) (λ (i : ℕ). joined (k - 1) (λ (j : ℕ). upper k i j ∷ turned (lower k i j) ∷ []))
unfolding lattice
lattice_clause count k =
    joined_same (count / k - 1) _ _ (λ i m. joined_same (k - 1) _ _ (λ j l.
    let p : i * k + j + 1 ≡ i * k + (j + 1) = omega arith in
    let q : i * k + j + k ≡ (i + 1) * k + j = omega arith in
    let r : i * k + j + k + 1 ≡ (i + 1) * k + (j + 1) = omega arith in
    rw (r, q, p)))
