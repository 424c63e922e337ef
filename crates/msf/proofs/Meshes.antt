-- The lines of a mesh, one more at a time, and those of a part of its numbers. Assumes nothing.
use Prim.Native.Nat.{ℕ, ◌+◌, ◌*◌, ◌/◌, ◌≤◌, ◌<◌}
use mathlib.Core.Path.{◌≡◌, refl, sym, ap, ◌∙◌}
use mathlib.Core.List.{List, ◌++◌}
use native.Mathlib.Nat.{add_assoc, add-zero, zero-add, suc-mul, mul_assoc, mul_comm, mul-div_cancel, mul-le-mul_right}
use native.Mathlib.Omega.{arith}
use lib.ListN.{length, take, drop, length-drop}
use lib.Seq.{take-length}
use lib.Ieee.{Float, nan}
use Rattle.std.proofs.Common.{◌⊎◌, inl, inr}
use Rattle.lists.specs.Lists.{joined, part}
use Rattle.lists.proofs.Pieces.{joined_more, joined_same, length_part, part_take}
use Rattle.msf.specs.declared.text.Text.{Text}
use Rattle.records.specs.declared.shape.Kind.{Kind}
use Rattle.records.specs.declared.shape.Kind.TheVariants.{Four, Five, Six, Seven}
use Rattle.msf.specs.Inner.Kinds.{stride_of}
use Rattle.msf.specs.Listing.{colour_line, vertex_line, mesh_lines, point_line, lines, patch_lines, patches_lines}
use Rattle.msf.specs.Inner.Appending.{Appends}
use Rattle.msf.proofs.Appending.{appends_none, appends_then}
use Rattle.msf.proofs.Chunks.{part_part}

module _ (text : List Float → List ℕ) (m : ℕ) (xs : List Float) where
  pub lines_none : (t : Text) → t.at ≤ length t.out.now → Appends t t (lines text m xs 0 0)
  unfolding lines joined
  lines_none t h = appends_none t h

  pub lines_more : (i : ℕ) {a b c : Text} {x : List Float} → x ≡ part nan xs (i * m) m → Appends a b (lines text m xs 0 i) → Appends b c (text x)
      → Appends a c (lines text m xs 0 (i + 1))
  unfolding lines
  lines_more i {x = x} e v w = rw (joined_more, zero-add) (appends_then v (rw e at w))

-- piece i of k pieces of m ends inside them
inside : (i k m : ℕ) → i < k → i * m + m ≤ k * m
inside i k m h = omega (arith, mul-le-mul_right m h, suc-mul i m)

-- the lines of a part
module _ (xs : List Float) (p size : ℕ) where
  lines_part : (text : List Float → List ℕ) (m q k : ℕ) → q + k * m ≤ size → lines text m (part nan xs p size) q k ≡ lines text m xs (p + q) k
  unfolding lines
  lines_part text m q k h =
      joined_same k _ _
      (λ i l. ap text (part_part nan xs p size (q + i * m) m (omega (arith, inside i k m l)) ∙ ap (λ (r : ℕ). part nan xs r m) (sym (add_assoc p q (i * m)))))

  patch_part : (points n : ℕ) → size ≡ 2 * points + 4 * (8 + n) → patch_lines points n (part nan xs p size) 0 ≡ patch_lines points n xs p
  unfolding patch_lines
  patch_part points n e =
      rw (lines_part point_line 2 0 points (omega arith), lines_part colour_line (8 + n) (0 + 2 * points) 4 (omega arith), add-zero, zero-add) refl

module _ (points n : ℕ) (xs : List Float) where
  pub patches_none : (t : Text) → t.at ≤ length t.out.now → Appends t t (patches_lines points n xs 0)
  unfolding patches_lines joined
  patches_none t h = appends_none t h

  pub patches_more : (i : ℕ) {a b c : Text} {x : List Float} → x ≡ part nan xs (i * (2 * points + 4 * (8 + n))) (2 * points + 4 * (8 + n))
      → Appends a b (patches_lines points n xs i) → Appends b c (patch_lines points n x 0) → Appends a c (patches_lines points n xs (i + 1))
  unfolding patches_lines
  patches_more i e v w = rw joined_more (appends_then v (rw (← (patch_part xs (i * (2 * points + 4 * (8 + n))) _ points n refl), ← e) w))

-- a patch's points, then its colours
pub patch_text : (points n : ℕ) (xs front back : List Float) → front ≡ take (2 * points) xs → back ≡ drop (2 * points) xs → length xs ≡ 2 * points + 4 * (8 + n)
    → patch_lines points n xs 0 ≡ lines point_line 2 front 0 (length front / 2) ++ lines colour_line (8 + n) back 0 (length back / (8 + n))
unfolding patch_lines
patch_text points n xs front back f b e =
    let colours : ℕ = 4 * (8 + n) in
    let front_part : front ≡ part nan xs 0 (2 * points) = f ∙ sym (part_take nan xs 0 (2 * points) (omega arith)) in
    let back_long : length back ≡ colours = rw (b, length-drop) (omega arith) in
    let back_part : back ≡ part nan xs (2 * points) colours = sym (part_take nan xs (2 * points) colours (omega arith) ∙ rw (← b, ← back_long) (take-length back)) in
    let count : length front / 2 ≡ points = rw (front_part, length_part) (omega arith) in
    let four : length back / (8 + n) ≡ 4 = rw back_long (mul-div_cancel 4 (omega arith)) in
    rw (
      count,
      four,
      front_part,
      back_part,
      lines_part xs 0 (2 * points) point_line 2 0 points (omega arith),
      lines_part xs (2 * points) colours colour_line (8 + n) 0 4 (omega arith),
      add-zero (2 * points),
      zero-add (2 * points),
    ) refl

-- a mesh's numbers are so many rows or patches
module _ (n count : ℕ) (xs : List Float) where
  vertex_lines : length xs ≡ count * (3 * (10 + n)) → lines vertex_line (10 + n) xs 0 (length xs / (10 + n)) ≡ lines vertex_line (10 + n) xs 0 (3 * count)
  vertex_lines h =
      let rows : count * (3 * (10 + n)) ≡ 3 * count * (10 + n) = rw (← (mul_assoc count 3 (10 + n)), mul_comm count 3) refl in
      rw (h, rows, mul-div_cancel (3 * count) {n = 10 + n} (omega arith)) refl

  pub triangle_lines : (kind : Kind) → (kind ≡ Four) ⊎ (kind ≡ Five) → length xs ≡ count * stride_of kind n
      → lines vertex_line (10 + n) xs 0 (length xs / (10 + n)) ≡ mesh_lines kind n xs count
  unfolding mesh_lines
  triangle_lines kind (inl e) h = rw e (vertex_lines (rw e at h))
  triangle_lines kind (inr e) h = rw e (vertex_lines (rw e at h))

  patch_count : (size : ℕ) → 0 < size → length xs ≡ count * size → length xs / size ≡ count
  patch_count size p h = rw h (mul-div_cancel count p)

  pub coons_lines : (kind : Kind) → kind ≡ Six → length xs ≡ count * stride_of kind n
      → patches_lines 12 n xs (length xs / (2 * 12 + 4 * (8 + n))) ≡ mesh_lines kind n xs count
  unfolding mesh_lines
  coons_lines kind e h = let g = rw e at h in rw (e, patch_count (2 * 12 + 4 * (8 + n)) (omega arith) g) refl

  pub tensor_lines : (kind : Kind) → kind ≡ Seven → length xs ≡ count * stride_of kind n
      → patches_lines 16 n xs (length xs / (2 * 16 + 4 * (8 + n))) ≡ mesh_lines kind n xs count
  unfolding mesh_lines
  tensor_lines kind e h = let g = rw e at h in rw (e, patch_count (2 * 16 + 4 * (8 + n)) (omega arith) g) refl
