-- What a function that places numbers of any source by any widths needs.
use Rattle.std.specs.Prelude.{ℕ, ◌+◌, ◌*◌, ◌≡◌, ◌≤◌, ⊤, Bool, ◌&&◌, length, leb, eqb}
use Rattle.bits.specs.Reading.{readable}
use Rattle.answers.specs.Limits.{most_components, most_bytes}
use Rattle.rows.specs.declared.Source.{Source}
use Rattle.rows.specs.declared.Source.TheVariants.{Bits, List as Listed}
use Rattle.rows.specs.declared.Input.{Input}
use Rattle.rows.specs.declared.any.Widths.{Widths}
use Rattle.rows.specs.Inner.Sources.{places, width_in}
use Rattle.rows.specs.Inner.Placing.{rows_fit}

-- a reader accepts so many bytes; in a list, of any length, each number takes one place
abbrev pub taken_by : Widths → Source → Bool
taken_by w (Bits s) = leb (length s.now) most_bytes
taken_by w (Listed vs) = eqb w.coord 1 && eqb w.comp 1

-- and the widths and the count of components are those of a readable layout
unfoldable pub fair : Source → Widths → Bool
fair S w = leb w.n most_components && (readable w.coord && (readable w.comp && taken_by w S))

-- k points are there whole, no more than a patch has, and an output of room elements has places for them from index at on
unfoldable pub any_points_fit : Source → Widths → ℕ → ℕ → ℕ → ℕ → Bool
any_points_fit S w k p at room =
    fair S w && (leb k 16 && (leb (p + k * (2 * w.coord)) (places S) && leb (at + 2 * k) room))

-- the same of k colours and their rows
unfoldable pub any_colours_fit : Source → Widths → ℕ → ℕ → ℕ → ℕ → Bool
any_colours_fit S w k p at room =
    fair S w && (leb k 4 && (leb (p + k * (w.n * w.comp)) (places S) && leb (at + k * (8 + w.n)) room))

-- and of a vertex with the side by which it is joined
unfoldable pub any_corner_fits : Source → Widths → ℕ → ℕ → ℕ → ℕ → Bool
any_corner_fits S w p side at room =
    fair S w && (rows_fit (10 + w.n) side at room && leb (p + (2 * w.coord + w.n * w.comp)) (places S))

-- the widths of a source, in which a list's numbers take one place each
abbrev pub widths_in : Source → Widths → Widths
widths_in S w = record { coord = width_in S w.coord; comp = width_in S w.comp; n = w.n }

-- ---- the input that the numbers are placed from

-- a list, or a part of one, is no longer than an input may be
abbrev pub Near : Source → Type 0
Near (Bits s) = ⊤
Near (Listed vs) = length vs.now ≤ 134217728

pub record Holds (S : Source) (w : Widths) (I : Input) : Type 0 where
  pub source_is : I.source ≡ S
  pub coord_is : I.layout.coord ≡ w.coord
  pub comp_is : I.layout.comp ≡ w.comp
  pub n_is : I.layout.n ≡ w.n
