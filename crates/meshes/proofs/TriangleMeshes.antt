-- The triangles of bytes and of a list, by the places of their vertices: both in one shape. A vertex is so many places for its flag, two coordinates
-- and n components. In a list every number takes one place. Assumes nothing.
use Prim.Native.Nat.{ℕ, ◌+◌, ◌*◌, ◌/◌, ◌≤◌, ◌<◌}
use mathlib.Core.Path.{◌≡◌, ap, ◌∙◌}
use mathlib.Core.List.{List, [], ◌∷◌}
use native.Mathlib.Nat.{zero-add, add-zero, add_assoc}
use native.Mathlib.Numerals.{one-add}
use native.Mathlib.Omega.{arith}
use lib.ListN.{length, get_or, drop, replicate, length-replicate}
use lib.Seq.{drop-drop}
use lib.Ieee.{Float, nan}
use Rattle.lists.specs.Lists.{joined, All}
use Rattle.lists.proofs.Pieces.{joined_same, length_singles}
use Rattle.bits.specs.Bits.{stream, field_at}
use Rattle.decode.specs.Decode.{Ranges, flag_of}
use Rattle.colour.specs.Inner.Places.{Numbers, bit_numbers, list_numbers, vertex_at}
use Rattle.records.specs.declared.shape.Kind.TheVariants.{Four, Five}
use Rattle.records.specs.Format.{numbers, Meaning, whole_number, format_by, format, raw_reading}
use Rattle.records.proofs.Readings.{length-numbers}
use Rattle.rules.specs.Triangles.{Tri, Rule, triangles}
use Rattle.rules.specs.Lattice.{lattice}
use Rattle.rules.proofs.Properties.{CornersBelow}
use Rattle.rules.specs.Meshes.{Source, Finished, finished, flags, vertex4, vertex5, vertex_row, type4_mesh, type5_mesh}
use Rattle.rules.proofs.Triangles.{triangles_within, corners_same}
use Rattle.rules.proofs.Lattice.{lattice_within}
use Rattle.meshes.specs.Decoded.{by_decode, as_listed}
use Rattle.meshes.proofs.Parts.{element_of_piece, count_pieces}
use Rattle.meshes.proofs.RawVertices.{vertex_size, raw_type4, raw_type5}
use Rattle.meshes.proofs.Standing.{SourceReads, reads_decode, reads_listed, Stands, vertex_is, stands_moved, in_list, in_bits}

-- ---- a mesh by places: flag and N have the flag and the numbers at a place

abbrev pub free_form : Rule → (ℕ → ℕ) → Numbers → ℕ → ℕ → ℕ → ℕ → ℕ → Finished Float
free_form r flag N lead coord comp n limit =
    let size : ℕ = vertex_size lead coord comp n in
    finished (triangles r (joined (limit / size) (λ (i : ℕ). flag (i * size) ∷ []))) (λ (i : ℕ). vertex_at N coord comp n (i * size + lead))

abbrev pub lattice_form : ℕ → Numbers → ℕ → ℕ → ℕ → ℕ → ℕ → Finished Float
lattice_form row_length N lead coord comp n limit =
    let size : ℕ = vertex_size lead coord comp n in
    finished (lattice (limit / size) row_length) (λ (i : ℕ). vertex_at N coord comp n (i * size + lead))

-- rows need to agree on the vertices that are there
agree : (total : ℕ) (ts : List Tri) {row row' : ℕ → List Float} → All (CornersBelow total) ts → ((i : ℕ) → i < total → row i ≡ row' i)
    → finished ts row ≡ finished ts row'
agree total ts {row} {row'} w h = ap (λ (xs : List Float). record { count = length ts; numbers = xs }) (corners_same total row row' ts w h)

flagged_within : (r : Rule) (total : ℕ) (flag : ℕ → ℕ) → All (CornersBelow total) (triangles r (joined total (λ (i : ℕ). flag i ∷ [])))
flagged_within r total flag = rw (length_singles flag total) at (triangles_within r (joined total (λ (i : ℕ). flag i ∷ [])))

-- a list whose vertices stand at the places makes that mesh
module _ {A : Type 0} {S : Source A Float} (reads : SourceReads S) (N : Numbers) (xs : List A) (lead coord comp n limit : ℕ) where
  abbrev size : ℕ
  size = vertex_size lead coord comp n

  abbrev total : ℕ
  total = limit / size

  free_form_lem : (r : Rule) (flag : ℕ → ℕ) → length xs / (n + 3) ≡ total
      → ((i : ℕ) → i < total → S.flag (get_or xs (i * (n + 3)) S.missing) ≡ flag (i * size))
      → ((i : ℕ) → i < total → Stands reads N xs coord comp 2 n (i * (n + 3) + 1) (i * size + lead))
      → type4_mesh (triangles r) S n xs ≡ free_form r flag N lead coord comp n limit
  unfolding type4_mesh flags vertex4
  free_form_lem r flag count flagged stand =
      let fs : flags S.missing S.flag n xs ≡ joined total (λ (i : ℕ). flag (i * size) ∷ []) =
      rw count (joined_same total _ _ (λ i k. ap (λ (f : ℕ). f ∷ []) (flagged i k))) in
      ap (λ (fs : List ℕ). finished (triangles r fs) (λ (i : ℕ). vertex_row S (vertex4 S.missing n xs i))) fs
      ∙ agree total _ (flagged_within r total (λ (i : ℕ). flag (i * size))) (λ i k. vertex_is reads N xs coord comp n _ _ (stand i k))

  lattice_form_lem : (row_length : ℕ) → length xs / (n + 2) ≡ total
      → ((i : ℕ) → i < total → Stands reads N xs coord comp 2 n (i * (n + 2) + 0) (i * size + lead))
      → type5_mesh row_length S n xs ≡ lattice_form row_length N lead coord comp n limit
  unfolding type5_mesh vertex5
  lattice_form_lem row_length count stand =
      ap (λ (k : ℕ). finished (lattice k row_length) (λ (i : ℕ). vertex_row S (vertex5 S.missing n xs i))) count
      ∙ agree total _ (lattice_within total row_length)
      (λ i k. rw (← (add-zero (i * (n + 2)))) (vertex_is reads N xs coord comp n _ _ (stand i k)))

-- ---- bytes

-- Records of the same widths, one after the other: each has so many numbers, of which x is number m, so many bits after the first.
module _ (s : List ℕ) (meaning : Meaning) (R : Ranges) (coord comp n lead m each : ℕ) (widths : List ℕ) (sized : length widths ≡ each) (enough : m + (2 + n) ≤ each)
    (after : (b : List ℕ) (j : ℕ) → get_or (numbers widths b) (m + j) 0 ≡ get_or (numbers (coord ∷ coord ∷ replicate n comp) (drop lead b)) j 0) where
  abbrev records : List ℕ
  records = joined (8 * length s / vertex_size lead coord comp n) (λ (i : ℕ). numbers widths (drop (i * vertex_size lead coord comp n) (stream s)))

  element : (i j : ℕ) → i < 8 * length s / vertex_size lead coord comp n → j < each
      → get_or records (i * each + j) 0 ≡ get_or (numbers widths (drop (i * vertex_size lead coord comp n) (stream s))) j 0
  element i j h k = element_of_piece 0 _ each _ (λ i. length-numbers widths _ ∙ sized) i j h k

  count : length records / each ≡ 8 * length s / vertex_size lead coord comp n
  count = count_pieces _ each _ (λ i. length-numbers widths _ ∙ sized) (omega arith)

  stand : (i : ℕ) → i < 8 * length s / vertex_size lead coord comp n
      → Stands (reads_decode meaning R) (bit_numbers s R) records coord comp 2 n (i * each + m) (i * vertex_size lead coord comp n + lead)
  stand i h =
      let place : ℕ = i * vertex_size lead coord comp n in
      stands_moved (in_bits s coord comp 2 n (place + lead) meaning R)
      (λ j k. rw (add_assoc (i * each) m j, zero-add j)
      (element i (m + j) h (omega arith)
      ∙ after (drop place (stream s)) j
      ∙ ap (λ (b : List ℕ). get_or (numbers (coord ∷ coord ∷ replicate n comp) b) j 0) (drop-drop lead place (stream s))))

module _ (s : List ℕ) (R : Ranges) (coord comp n : ℕ) where
  abbrev body : List ℕ
  body = coord ∷ coord ∷ replicate n comp

  pub mesh_of_type4 : (meaning : Meaning) (flag : ℕ) → 1 ≤ flag → (r : Rule)
      → type4_mesh (triangles r) (by_decode meaning R) n (raw_reading (format_by meaning Four flag coord comp n) s)
      ≡ free_form r (λ (p : ℕ). meaning (field_at s p flag)) (bit_numbers s R) flag coord comp n (8 * length s)
  unfolding numbers field_at
  mesh_of_type4 meaning flag some_bits r =
      let sized : length (flag ∷ body) ≡ n + 3 = omega (arith, length-replicate n comp) in
      let after : (b : List ℕ) (j : ℕ) → get_or (numbers (flag ∷ body) b) (1 + j) 0 ≡ get_or (numbers body (drop flag b)) j 0 = λ b j. rw (one-add j) in
      let enough : 1 + (2 + n) ≤ n + 3 = omega arith in
      rw (raw_type4 s coord comp n meaning flag some_bits)
      (free_form_lem (reads_decode meaning R) (bit_numbers s R) _ flag coord comp n (8 * length s) r (λ (p : ℕ). meaning (field_at s p flag))
      (count s meaning R coord comp n flag 1 (n + 3) (flag ∷ body) sized enough after)
      (λ i h. ap meaning
      (rw (← (add-zero (i * (n + 3)))) (element s meaning R coord comp n flag 1 (n + 3) (flag ∷ body) sized enough after i 0 h (omega arith))))
      (stand s meaning R coord comp n flag 1 (n + 3) (flag ∷ body) sized enough after))

  pub mesh_of_type5 : 1 ≤ coord → (row_length : ℕ)
      → type5_mesh row_length (by_decode whole_number R) n (raw_reading (format Five coord coord comp n) s)
      ≡ lattice_form row_length (bit_numbers s R) 0 coord comp n (8 * length s)
  mesh_of_type5 some_bits row_length =
      let sized : length body ≡ n + 2 = omega (arith, length-replicate n comp) in
      let after : (b : List ℕ) (j : ℕ) → get_or (numbers body b) (0 + j) 0 ≡ get_or (numbers body (drop 0 b)) j 0 = λ b j. rw (zero-add j) in
      let enough : 0 + (2 + n) ≤ n + 2 = omega arith in
      rw (raw_type5 s coord comp n some_bits)
      (lattice_form_lem (reads_decode whole_number R) (bit_numbers s R) _ 0 coord comp n (8 * length s) row_length
      (count s whole_number R coord comp n 0 0 (n + 2) body sized enough after)
      (stand s whole_number R coord comp n 0 0 (n + 2) body sized enough after))

-- ---- a list

module _ (vs : List Float) (n : ℕ) where
  pub mesh_of_list4 : (r : Rule)
      → type4_mesh (triangles r) as_listed n vs ≡ free_form r (λ (p : ℕ). flag_of (get_or vs p nan)) (list_numbers vs) 1 1 1 n (length vs)
  mesh_of_list4 r =
      let e : n + 3 ≡ vertex_size 1 1 1 n = omega arith in
      free_form_lem reads_listed (list_numbers vs) vs 1 1 1 n (length vs) r (λ (p : ℕ). flag_of (get_or vs p nan))
      (ap (λ (m : ℕ). length vs / m) e)
      (λ i k. ap (λ (m : ℕ). flag_of (get_or vs (i * m) nan)) e)
      (λ i k. in_list vs 0 2 n (i * (n + 3) + 1) (i * vertex_size 1 1 1 n + 1) (omega arith))

  pub mesh_of_list5 : (row_length : ℕ) → type5_mesh row_length as_listed n vs ≡ lattice_form row_length (list_numbers vs) 0 1 1 n (length vs)
  mesh_of_list5 row_length =
      let e : n + 2 ≡ vertex_size 0 1 1 n = omega arith in
      lattice_form_lem reads_listed (list_numbers vs) vs 0 1 1 n (length vs) row_length
      (ap (λ (m : ℕ). length vs / m) e)
      (λ i k. in_list vs 0 2 n (i * (n + 2) + 0) (i * vertex_size 0 1 1 n + 0) (omega arith))
