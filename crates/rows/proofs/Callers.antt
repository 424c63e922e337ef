-- What a caller who knows that all is there gets of each public function, in plain facts. Assumes nothing.
use Prim.Native.Nat.{ℕ, ◌+◌, ◌*◌, ◌≤◌, ◌<◌}
use mathlib.Core.Path.{◌≡◌}
use mathlib.Core.List.{List, ◌++◌}
use native.Mathlib.Omega.{arith}
use lib.ListN.{length, length-append, get_or}
use lib.Ieee.{Float, nan}
use Rattle.lists.specs.Lists.{part}
use Rattle.lists.specs.Writing.{Written, Placed}
use Rattle.lists.proofs.Pieces.{length_part}
use Rattle.lists.proofs.Placing.{placed_written, placed_sized}
use Rattle.bits.proofs.Answers.{answer_number}
use Rattle.decode.specs.Decode.{flag_of}
use Rattle.colour.specs.Inner.Places.{Numbers, vertex_at, points_at, colours_at}
use Rattle.colour.proofs.Lengths.{length-vertex_at, length-points_at, length-colours_at}
use Rattle.rows.specs.declared.Source.{Source}
use Rattle.rows.specs.declared.Source.TheVariants.{Bits, List as Listed}
use Rattle.rows.specs.declared.Input.{Input}
use Rattle.rows.specs.Inner.Sources.{places, masked, mask_in, flag_in, flag_at}
use Rattle.rows.specs.Inner.Placing.{points_fit, colours_fit, copy_fits, corner_fits, vertex_places, shared_rows, row_index}
use Rattle.rows.proofs.Masks.{whole_masked, flag_below}
use Rattle.rows.proofs.Fits.{points_fit_iff, colours_fit_iff, copy_fits_iff, corner_fits_lem}
use Rattle.rows.proofs.Corners.{shared_end}

-- what is taken from an input, whose numbers are N
module _ (I : Input) (N : Numbers) {entry exit : List Float} {at next : ℕ} where
  pub points_written : (k p : ℕ) → Placed (points_fit I k p at (length entry)) entry exit at (points_at N I.layout.coord k p) next
      → k ≤ 16 → p + k * (2 * I.layout.coord) ≤ places I.source → at + 2 * k ≤ length entry
      → (next ≡ at + 2 * k) × Written entry exit at (points_at N I.layout.coord k p) next
  points_written k p w few there room =
      placed_sized (2 * k) w ((points_fit_iff I k p at (length entry)).1 (few, (there, room))) (length-points_at _ _ _ _) room

  pub colours_written : (k p : ℕ) → Placed (colours_fit I k p at (length entry)) entry exit at (colours_at N I.layout.comp I.layout.n k p) next
      → k ≤ 4 → p + k * (I.layout.n * I.layout.comp) ≤ places I.source → at + k * (8 + I.layout.n) ≤ length entry
      → (next ≡ at + k * (8 + I.layout.n)) × Written entry exit at (colours_at N I.layout.comp I.layout.n k p) next
  colours_written k p w few there room =
      placed_sized (k * (8 + I.layout.n)) w ((colours_fit_iff I k p at (length entry)).1 (few, (there, room))) (length-colours_at _ _ _ _ _) room

  pub corner_placed : (p side : ℕ)
      → Placed (corner_fits I p side at (length entry)) entry exit at (shared_rows entry side (10 + I.layout.n) at ++ vertex_at N I.layout.coord I.layout.comp I.layout.n p) next
      → p + vertex_places I ≤ places I.source
      → row_index side (10 + I.layout.n) at + (10 + I.layout.n) ≤ length entry
      → (side < at → side + (10 + I.layout.n) ≤ at)
      → Written entry exit at (shared_rows entry side (10 + I.layout.n) at ++ vertex_at N I.layout.coord I.layout.comp I.layout.n p) next
  corner_placed p side w there room before =
      let size : ℕ = 10 + I.layout.n in
      let vertex : List Float = vertex_at N I.layout.coord I.layout.comp I.layout.n p in
      placed_written w (corner_fits_lem I p side at (length entry) room before there)
      (omega (arith, length-append (shared_rows entry side size at) vertex, shared_end entry side size at, length-vertex_at N I.layout.coord I.layout.comp I.layout.n p))

-- a reader's flag of so many bits stands at a place; a list is asked for nothing
abbrev pub FlagStands : Source → ℕ → ℕ → Type 0
FlagStands (Bits s) width p = (1 ≤ width) × ((width ≤ 32) × ((8 * length s.now ≤ 134217728) × (p + width ≤ 8 * length s.now)))
FlagStands (Listed vs) width p = Unit {0}

-- what is left of a flag by the mask is what it means; that of a list is left whole
pub flag_there : (S : Source) (mask width p : ℕ) → mask ≡ mask_in S mask → FlagStands S width p → masked mask (flag_at S width p) ≡ flag_in S width mask p
unfolding flag_at flag_in
flag_there (Bits s) mask width p m (some, (few, (short, there))) = rw (← (answer_number s.now p width some few there (omega arith)))
flag_there (Listed vs) mask width p m stands = rw m (whole_masked (flag_of (get_or vs.now p nan)) (flag_below (get_or vs.now p nan)))

pub flag_stands : (S : Source) (width p : ℕ) → 1 ≤ width → width ≤ 32 → places S ≤ 134217728 → p + width ≤ places S → FlagStands S width p
flag_stands (Bits s) width p some few short there = (some, (few, (short, there)))
flag_stands (Listed vs) width p some few short there = tt

pub copy_written : {entry exit : List Float} {at next : ℕ} (size from : ℕ) → Placed (copy_fits size from at (length entry)) entry exit at (part nan entry from size) next
    → from + size ≤ at → at + size ≤ length entry → (next ≡ at + size) × Written entry exit at (part nan entry from size) next
copy_written {entry} {exit} {at} size from w before room =
    placed_sized size w ((copy_fits_iff size from at (length entry)).1 (before, room)) (length_part nan entry from size) room
