-- The loops of 000, read by read, for theorems to compare the raw reading with.
use Rattle.std.specs.Prelude.{Some, None, Bool, true, cond, ◌&&◌, List, [], ◌∷◌, ◌++◌, ℕ, zero, suc}
use Rattle.std.proofs.Math.Option.{Option, none, some, map}
use Rattle.bits.specs.Reading.{BitRead, read_at, exhausted_at}
use Rattle.records.specs.Format.{Format}

-- ---- parse_type6_patches and parse_type7_patches: after a cut patch they go on reading flags from the bits left over

-- the reads of a patch's points and colours: all their numbers and the place after them, or the place of the read that failed
pub data Reads : Type 0 where
  ok : List ℕ → ℕ → Reads
  cut : ℕ → Reads

abbrev pub prepend : ℕ → Reads → Reads
prepend x (ok xs q) = ok (x ∷ xs) q
prepend x (cut q) = cut q

unfoldable pub reads : List ℕ → ℕ → List ℕ → Reads
reads s p [] = ok [] p
reads s p (w ∷ ws) = elim (read_at s p w) [ None ↦ cut p | Some read ↦ prepend read.0 (reads s read.1.0 ws) ]

-- a patch whose reads are all ok is pushed, flag first; else it is not; and the loop goes on either way: again started place
unfoldable pub pushed : (Bool → ℕ → Option (List ℕ)) → Bool → ℕ → Reads → Option (List ℕ)
pushed again started flag (ok xs q) = map (λ (l : List ℕ). (flag ∷ xs) ++ l) (again true q)
pushed again started flag (cut q) = again started q

-- a flag that no patch can have here breaks the loop
unfoldable pub patch_round : List ℕ → (Bool → ℕ → Option (List ℕ)) → Bool → ℕ → ℕ → Option (List ℕ) → Option (List ℕ)
patch_round s again started flag p none = some []
patch_round s again started flag p (some ws) = pushed again started flag (reads s p ws)

-- so does the end
unfoldable pub flagged : Format → List ℕ → (Bool → ℕ → Option (List ℕ)) → Bool → BitRead → Option (List ℕ)
flagged F s again started None = some []
flagged F s again started (Some read) = patch_round s again started read.0 read.1.0 (F.more started read.0)

-- the numbers of the patches that the loop pushes from place p on, where one was pushed before or not; none: it is not over in k rounds
unfoldable pub loop : Format → List ℕ → ℕ → Bool → ℕ → Option (List ℕ)
loop F s zero started p = none
loop F s (suc k) started p = cond (exhausted_at s p) (some []) (flagged F s (loop F s k) started (read_at s p F.first))

-- ---- parse_type4_mesh and parse_type5_mesh

-- a vertex whose reads are all ok is kept, and the loop goes on after it; else the loop breaks
unfoldable pub kept_vertex : (ℕ → List ℕ) → Reads → List ℕ
kept_vertex again (ok xs q) = xs ++ again q
kept_vertex again (cut q) = []

-- the numbers of the vertices of widths ws that the loop keeps from place p on, in k turns at most. `asks p`: whether it asks, before the
-- vertex at p, if the data is exhausted. In Type 5 it always asks; in Type 4 not before the second and third vertex of a new triangle
unfoldable pub vertex_loop : (ℕ → Bool) → List ℕ → List ℕ → ℕ → ℕ → List ℕ
vertex_loop asks ws s zero p = []
vertex_loop asks ws s (suc k) p = cond (asks p && exhausted_at s p) [] (kept_vertex (vertex_loop asks ws s k) (reads s p ws))
