-- Ranges that agree on the kinds of a record, x, y and n components, make the same mesh. Assumes nothing.
use Prim.Native.Nat.{ℕ, ◌+◌, ◌≤◌, ◌<◌}
use mathlib.Core.Path.{◌≡◌, refl, ap, ap₂, ◌∙◌}
use mathlib.Core.List.{List, [], ◌∷◌, ◌++◌}
use native.Mathlib.Omega.{arith}
use lib.ListN.{length, take, drop, length-drop}
use lib.Seq.{length-take-le}
use lib.Ieee.{Float}
use Rattle.lists.specs.Lists.{flat, All}
use Rattle.lists.proofs.Pieces.{flat_same, length_part}
use Rattle.decode.specs.declared.Range.{Range}
use Rattle.decode.specs.Decode.{Ranges, value_of}
use Rattle.colour.specs.Colour.{colour_row}
use Rattle.records.specs.Format.{Meaning}
use Rattle.rules.specs.Triangles.{Tri, FlagRule, corners}
use Rattle.rules.specs.Patches.{Patch, Table, patch_row}
use Rattle.rules.specs.Inner.Sides.{Fits}
use Rattle.rules.specs.Meshes.{finished, vertex4, vertex5, vertex_row, type4_mesh, type5_mesh, patches, patch_mesh}
use Rattle.rules.proofs.Meshes.{Numbered, patches_numbered}
use Rattle.meshes.specs.Decoded.{decoded, by_decode}

flat_alike : {A B : Type 0} (P : A → Type 0) (f g : A → List B) (l : List A) → ((x : A) → P x → f x ≡ g x) → All P l → flat f l ≡ flat g l
unfolding flat
flat_alike P f g [] h a = refl
flat_alike P f g (x ∷ l) h a = ap₂ (λ (y z : List _). y ++ z) (h x a.0) (flat_alike P f g l h a.1)

rows_alike : (ts : List Tri) (row row' : ℕ → List Float) → ((i : ℕ) → row i ≡ row' i) → finished ts row ≡ finished ts row'
unfolding corners
rows_alike ts row row' h =
    ap (λ (xs : List Float). record { count = length ts; numbers = xs })
    (flat_same (corners row) (corners row') ts (λ t. rw (h t.a, h t.b, h t.c)))

module _ (flag : Meaning) (R Q : Ranges) (n : ℕ) (alike : (k : ℕ) → k < 2 + n → R k ≡ Q k) where
  decoded_alike : (k : ℕ) (xs : List ℕ) → k + length xs ≤ 2 + n → decoded R k xs ≡ decoded Q k xs
  unfolding decoded
  decoded_alike k [] h = refl
  decoded_alike k (x ∷ xs) h =
      ap₂ (λ (y : Float) (ys : List Float). y ∷ ys) (ap (λ (r : Range). value_of x r.scale r.min) (alike k (omega arith)))
      (decoded_alike (k + 1) xs (omega arith))

  point_alike : (xs : List ℕ) → length xs ≡ 2 → (by_decode flag R).point xs ≡ (by_decode flag Q).point xs
  point_alike xs e = decoded_alike 0 xs (omega arith)

  colour_alike : (xs : List ℕ) → length xs ≡ n → (by_decode flag R).colour xs ≡ (by_decode flag Q).colour xs
  colour_alike xs e = ap colour_row (decoded_alike 2 xs (omega arith))

  -- ---- triangles

  vertex_alike : (xs : List ℕ) → length xs ≡ n + 2 → vertex_row (by_decode flag R) xs ≡ vertex_row (by_decode flag Q) xs
  vertex_alike xs e =
      ap₂ (λ (x y : List Float). x ++ y) (point_alike (take 2 xs) (length-take-le 2 xs (omega arith)))
      (colour_alike (drop 2 xs) (length-drop 2 xs ∙ omega arith))

  pub type4_alike : (rule : FlagRule) (xs : List ℕ) → type4_mesh rule (by_decode flag R) n xs ≡ type4_mesh rule (by_decode flag Q) n xs
  unfolding type4_mesh vertex4
  type4_alike rule xs = rows_alike _ _ _ (λ i. vertex_alike (vertex4 0 n xs i) (length_part 0 xs _ (n + 2)))

  pub type5_alike : (row_length : ℕ) (xs : List ℕ) → type5_mesh row_length (by_decode flag R) n xs ≡ type5_mesh row_length (by_decode flag Q) n xs
  unfolding type5_mesh vertex5
  type5_alike row_length xs = rows_alike _ _ _ (λ i. vertex_alike (vertex5 0 n xs i) (length_part 0 xs _ (n + 2)))

  -- ---- patches

  row_alike : (own : ℕ) (p : Patch (List ℕ) (List ℕ)) → Numbered (4 + own) 4 n p
      → patch_row (by_decode flag R).point (by_decode flag R).colour p ≡ patch_row (by_decode flag Q).point (by_decode flag Q).colour p
  unfolding patch_row
  row_alike own p h =
      ap₂ (λ (x y : List Float). x ++ y)
      (flat_alike (λ (x : List ℕ). length x ≡ 2) _ _ p.points point_alike h.1.0)
      (flat_alike (λ (x : List ℕ). length x ≡ n) _ _ p.colours colour_alike h.1.1)

  pub patches_alike : (T : Table) (own : ℕ) → All (Fits (4 + own)) T → (xs : List ℕ)
      → patch_mesh T own (by_decode flag R) n xs ≡ patch_mesh T own (by_decode flag Q) n xs
  unfolding patch_mesh
  patches_alike T own fit xs =
      ap (λ (ns : List Float). record { count = length (patches 0 T flag own n xs); numbers = ns })
      (flat_alike (Numbered (4 + own) 4 n) _ _ (patches 0 T flag own n xs) (row_alike own) (patches_numbered 0 flag own n T fit xs))
