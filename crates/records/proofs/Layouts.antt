-- What the layout test says of the widths. Assumes nothing.
use Prim.Native.Nat.{ℕ}
use mathlib.Core.Path.{◌≡◌}
use mathlib.Core.Bool.{true, ◌&&◌}
use mathlib.Core.List.{◌∷◌, ◌++◌}
use lib.Dec.{leb}
use lib.ListN.{replicate}
use Rattle.lists.specs.Lists.{All}
use Rattle.lists.proofs.Members.{all_append, all_replicate}
use Rattle.bits.specs.Reading.{readable}
use Rattle.bits.proofs.Widths.{both_true, Width, width_readable}
use Rattle.std.specs.Prelude.{Option}
use Rattle.records.specs.Layout.{first_width, widths_readable, layout_readable}

pub record Widths (first coord comp : ℕ) : Type 0 where
  pub of_first : Width first
  pub of_coord : Width coord
  pub of_comp : Width comp

pub widths_readable_lem : (first coord comp : ℕ) → widths_readable first coord comp ≡ true → Widths first coord comp
unfolding widths_readable
widths_readable_lem first coord comp e =
    let t = both_true (readable coord) (readable comp && readable first) e in
    let u = both_true (readable comp) (readable first) t.1 in
    record { of_first = width_readable first u.1; of_coord = width_readable coord t.0; of_comp = width_readable comp u.0 }

pub layout_widths : (flag : Option ℕ) (coord comp entries : ℕ) → layout_readable coord comp flag entries ≡ true → Widths (first_width flag coord) coord comp
unfolding layout_readable
layout_widths flag coord comp entries e =
    widths_readable_lem (first_width flag coord) coord comp (both_true (widths_readable (first_width flag coord) coord comp) (leb 4 entries) e).0

-- every width of a record: its first number's, then so many coordinates', then components'
pub record_widths : {first coord comp : ℕ} (coords comps : ℕ) → Widths first coord comp
    → All Width (first ∷ (replicate coords coord ++ replicate comps comp))
record_widths {first} {coord} {comp} coords comps w = (
  w.of_first,
  all_append Width (replicate coords coord) (replicate comps comp) (all_replicate Width coords coord w.of_coord) (all_replicate Width comps comp w.of_comp),
)
