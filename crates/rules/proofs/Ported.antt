-- Type 4: the loops of 000 go by the rules; a turn there that takes three vertices is three steps here. Assumes nothing.
use mathlib.Core.Path.{◌≡◌, refl, sym, ap, ◌∙◌}
use mathlib.Core.List.{List, [], ◌∷◌, ◌++◌, append_assoc}
use mathlib.Core.Option.{none, some}
use Prim.Native.Nat.{ℕ, zero, suc, ◌+◌, ◌-◌, ◌≤◌}
use native.Mathlib.Omega.{arith}
use borrow.Author.Tests.{le-leb}
use lib.ListN.{length, get_or, length-append}
use lib.Seq.{get_or-append-add}
use Rattle.rules.specs.Triangles.{Tri, tri, start, after, triangle_before, last_three, triangles_from, triangles}
use Rattle.rules.proofs.Triangles.{new_triangle}
use Rattle.rules.specs.Ported.{binary_reader, from_end, if_three, list_builder}

-- ---- parse_type4_mesh

binary_after : (a b c i : ℕ) (fs : List ℕ) → binary_reader (some (tri a b c)) i fs ≡ triangles_from triangle_before (after a b c) i fs
unfolding binary_reader triangles_from
binary_after a b c i [] = refl
binary_after a b c i (zero ∷ []) = refl
binary_after a b c i (zero ∷ g ∷ []) = refl
binary_after a b c i (zero ∷ g ∷ h ∷ fs) =
    ap (λ (l : List Tri). tri i (i + 1) (i + 2) ∷ l) (binary_after i (i + 1) (i + 2) (i + 3) fs) ∙ sym (new_triangle triangle_before i g h fs)
binary_after a b c i (suc zero ∷ fs) = ap (λ (l : List Tri). tri b c i ∷ l) (binary_after b c i (i + 1) fs)
binary_after a b c i (suc (suc zero) ∷ fs) = ap (λ (l : List Tri). tri a c i ∷ l) (binary_after a c i (i + 1) fs)
binary_after a b c i (suc (suc (suc f)) ∷ fs) = binary_after a b c (i + 1) fs

binary_start : (i : ℕ) (fs : List ℕ) → binary_reader none i fs ≡ triangles_from triangle_before start i fs
unfolding binary_reader triangles_from
binary_start i [] = refl
binary_start i (zero ∷ []) = refl
binary_start i (zero ∷ g ∷ []) = refl
binary_start i (zero ∷ g ∷ h ∷ fs) =
    ap (λ (l : List Tri). tri i (i + 1) (i + 2) ∷ l) (binary_after i (i + 1) (i + 2) (i + 3) fs) ∙ sym (new_triangle triangle_before i g h fs)
binary_start i (suc f ∷ fs) = binary_start (i + 1) fs

-- it goes by the triangle before
pub binary_reader_lem : (fs : List ℕ) → binary_reader none 0 fs ≡ triangles triangle_before fs
unfolding triangles
binary_reader_lem fs = binary_start 0 fs

-- ---- build_type4_from_array

module _ (us : List ℕ) (a b c : ℕ) where
  kept_length : length (us ++ (a ∷ b ∷ c ∷ [])) ≡ length us + 3
  kept_length = length-append us (a ∷ b ∷ c ∷ [])

  from_end_lem : (k : ℕ) → k ≤ 3 → from_end (us ++ (a ∷ b ∷ c ∷ [])) k ≡ get_or (a ∷ b ∷ c ∷ []) (3 - k) 0
  from_end_lem k h =
      let e : length (us ++ (a ∷ b ∷ c ∷ [])) - k ≡ length us + (3 - k) = omega (arith, kept_length) in
      rw e (get_or-append-add us (a ∷ b ∷ c ∷ []) (3 - k) 0)

  kept_push : (i : ℕ) → (us ++ (a ∷ b ∷ c ∷ [])) ++ (i ∷ []) ≡ (us ++ (a ∷ [])) ++ (b ∷ c ∷ i ∷ [])
  kept_push i = simp append_assoc

  list_one : (i : ℕ) (fs : List ℕ)
      → list_builder (us ++ (a ∷ b ∷ c ∷ [])) i (1 ∷ fs) ≡ tri b c i ∷ list_builder ((us ++ (a ∷ [])) ++ (b ∷ c ∷ i ∷ [])) (i + 1) fs
  unfolding list_builder
  list_one i fs =
      rw (le-leb 2 (length (us ++ (a ∷ b ∷ c ∷ []))) (omega (arith, kept_length)))
      (simp (from_end_lem 2 (omega arith), from_end_lem 1 (omega arith), kept_push i))

  list_two : (i : ℕ) (fs : List ℕ)
      → list_builder (us ++ (a ∷ b ∷ c ∷ [])) i (2 ∷ fs) ≡ tri a c i ∷ list_builder ((us ++ (a ∷ [])) ++ (b ∷ c ∷ i ∷ [])) (i + 1) fs
  unfolding list_builder
  list_two i fs =
      rw (le-leb 3 (length (us ++ (a ∷ b ∷ c ∷ []))) (omega (arith, kept_length)))
      (simp (from_end_lem 3 (omega arith), from_end_lem 1 (omega arith), kept_push i))

list_after : (us : List ℕ) (a b c i : ℕ) (fs : List ℕ) → list_builder (us ++ (a ∷ b ∷ c ∷ [])) i fs ≡ triangles_from last_three (after a b c) i fs
unfolding list_builder if_three triangles_from
list_after us a b c i [] = refl
list_after us a b c i (zero ∷ []) = refl
list_after us a b c i (zero ∷ g ∷ []) = refl
list_after us a b c i (zero ∷ g ∷ h ∷ fs) =
    ap (λ (l : List Tri). tri i (i + 1) (i + 2) ∷ l) (list_after [] i (i + 1) (i + 2) (i + 3) fs) ∙ sym (new_triangle last_three i g h fs)
list_after us a b c i (suc zero ∷ fs) =
    list_one us a b c i fs ∙ ap (λ (l : List Tri). tri b c i ∷ l) (list_after (us ++ (a ∷ [])) b c i (i + 1) fs)
list_after us a b c i (suc (suc zero) ∷ fs) =
    list_two us a b c i fs ∙ ap (λ (l : List Tri). tri a c i ∷ l) (list_after (us ++ (a ∷ [])) b c i (i + 1) fs)
list_after us a b c i (suc (suc (suc f)) ∷ fs) = list_after us a b c (i + 1) fs

list_start : (i : ℕ) (fs : List ℕ) → list_builder [] i fs ≡ triangles_from last_three start i fs
unfolding list_builder if_three triangles_from
list_start i [] = refl
list_start i (zero ∷ []) = refl
list_start i (zero ∷ g ∷ []) = refl
list_start i (zero ∷ g ∷ h ∷ fs) =
    ap (λ (l : List Tri). tri i (i + 1) (i + 2) ∷ l) (list_after [] i (i + 1) (i + 2) (i + 3) fs) ∙ sym (new_triangle last_three i g h fs)
list_start i (suc zero ∷ fs) = list_start (i + 1) fs
list_start i (suc (suc zero) ∷ fs) = list_start (i + 1) fs
list_start i (suc (suc (suc f)) ∷ fs) = list_start (i + 1) fs

-- it goes by the last three vertices kept
pub list_builder_lem : (fs : List ℕ) → list_builder [] 0 fs ≡ triangles last_three fs
unfolding triangles
list_builder_lem fs = list_start 0 fs

-- of the vertices that it keeps, the last three suffice
pub three_vertices_suffice : (us : List ℕ) (a b c i : ℕ) (fs : List ℕ)
    → list_builder (us ++ (a ∷ b ∷ c ∷ [])) i fs ≡ list_builder (a ∷ b ∷ c ∷ []) i fs
three_vertices_suffice us a b c i fs = list_after us a b c i fs ∙ sym (list_after [] a b c i fs)
