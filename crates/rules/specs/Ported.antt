-- What the loops of 000 do with the flags of a Type 4 mesh, for theorems to compare with.
use Rattle.std.specs.Prelude.{cond, List, [], ◌∷◌, ◌++◌, ℕ, zero, suc, ◌+◌, ◌-◌, leb, eqb, length, get_or}
use Rattle.std.proofs.Math.Option.{Option, none, some}
use Rattle.rules.specs.Triangles.{Tri, tri}

-- parse_type4_mesh, from vertex i on: prev_a, prev_b and prev_c
unfoldable pub binary_reader : Option Tri → ℕ → List ℕ → List Tri
binary_reader prev i [] = []
binary_reader prev i (zero ∷ []) = []
binary_reader prev i (zero ∷ g ∷ []) = []
binary_reader prev i (zero ∷ g ∷ h ∷ fs) = tri i (i + 1) (i + 2) ∷ binary_reader (some (tri i (i + 1) (i + 2))) (i + 3) fs
binary_reader none i (suc f ∷ fs) = binary_reader none (i + 1) fs
binary_reader (some t) i (suc zero ∷ fs) = tri t.b t.c i ∷ binary_reader (some (tri t.b t.c i)) (i + 1) fs
binary_reader (some t) i (suc (suc zero) ∷ fs) = tri t.a t.c i ∷ binary_reader (some (tri t.a t.c i)) (i + 1) fs
binary_reader (some t) i (suc (suc (suc f)) ∷ fs) = binary_reader (some t) (i + 1) fs

-- vertices[len - k]
abbrev pub from_end : List ℕ → ℕ → ℕ
from_end vs k = get_or vs (length vs - k) 0

-- if vertices.len() == 3
unfoldable pub if_three : List ℕ → List Tri
if_three vs = cond (eqb (length vs) 3) (tri (get_or vs 0 0) (get_or vs 1 0) (get_or vs 2 0) ∷ []) []

-- build_type4_from_array, from vertex i on: `vertices`, where the last pushed is at the end
unfoldable pub list_builder : List ℕ → ℕ → List ℕ → List Tri
list_builder vs i [] = []
list_builder vs i (zero ∷ []) = if_three (i ∷ [])
list_builder vs i (zero ∷ g ∷ []) = if_three (i ∷ (i + 1) ∷ [])
list_builder vs i (zero ∷ g ∷ h ∷ fs) =
    if_three (i ∷ (i + 1) ∷ (i + 2) ∷ []) ++ list_builder (i ∷ (i + 1) ∷ (i + 2) ∷ []) (i + 3) fs
list_builder vs i (suc zero ∷ fs) =
    cond (leb 2 (length vs)) (tri (from_end vs 2) (from_end vs 1) i ∷ list_builder (vs ++ (i ∷ [])) (i + 1) fs) (list_builder vs (i + 1) fs)
list_builder vs i (suc (suc zero) ∷ fs) =
    cond (leb 3 (length vs)) (tri (from_end vs 3) (from_end vs 1) i ∷ list_builder (vs ++ (i ∷ [])) (i + 1) fs) (list_builder vs (i + 1) fs)
list_builder vs i (suc (suc (suc f)) ∷ fs) = list_builder vs (i + 1) fs
