-- The inputs that readers and builders take, and how they refuse the others.
use Rattle.std.specs.Prelude.{ℕ, ◌≡◌, ◌≤◌, true, List, length, Option, Float}
use Rattle.std.specs.Option.{unwrap_or}
use Rattle.answers.specs.declared.Refusal.{Refusal}
use Rattle.answers.specs.Limits.{most_numbers}
use Rattle.answers.specs.Outcome.{refused}
use Rattle.records.specs.declared.shape.Kind.{Kind}
use Rattle.records.specs.Format.{Meaning}
use Rattle.records.specs.Layout.{layout_readable}
use Rattle.rows.specs.declared.Source.{Source}
use Rattle.rows.specs.declared.Source.TheVariants.{Bits, List as Listed}
use Rattle.rows.specs.declared.Input.{Input}
use Rattle.rules.specs.Meshes as M
use Rattle.rules.specs.Meshes.{Finished}
use Rattle.meshes.specs.Outcomes.{parsed, built}

abbrev pub HoldsBits : Source → List ℕ → Type 0
HoldsBits (Bits b) s = b.now ≡ s
HoldsBits (Listed b) s = ⊥

abbrev pub HoldsList : Source → List Float → Type 0
HoldsList (Bits b) vs = ⊥
HoldsList (Listed b) vs = b.now ≡ vs

-- from bytes: past the tests of LAYOUT, COMPONENTS and LENGTH
pub record FromBits (s : List ℕ) (coord comp : ℕ) (flag : Option ℕ) (entries : List Float) (n : ℕ) (I : Input) : Type 0 where
  pub holds : HoldsBits I.source s
  pub flag_is : I.layout.flag ≡ unwrap_or flag 0
  pub coord_is : I.layout.coord ≡ coord
  pub comp_is : I.layout.comp ≡ comp
  pub n_is : I.layout.n ≡ n
  pub readable : layout_readable coord comp flag (length entries) ≡ true

-- else the refusal, whatever the mesh
abbrev pub BitsRefused : List ℕ → ℕ → ℕ → Option ℕ → List Float → ℕ → Refusal → Type 0
BitsRefused s coord comp flag entries n r =
    (kind : Kind) → (meaning : Meaning) → (mesh : M.Source ℕ Float → ℕ → List ℕ → Finished Float) → (room : ℕ)
    → parsed (record { kind = kind; meaning = meaning; flag = flag; coord = coord; comp = comp; entries = entries; n = n }) mesh s room ≡ refused r

-- from a list: past the tests of COMPONENTS and LENGTH
pub record FromList (vs : List Float) (flag n : ℕ) (I : Input) : Type 0 where
  pub holds : HoldsList I.source vs
  pub flag_is : I.layout.flag ≡ flag
  pub n_is : I.layout.n ≡ n
  pub short : length vs ≤ most_numbers

abbrev pub ListRefused : List Float → ℕ → Refusal → Type 0
ListRefused vs n r = (mesh : M.Source Float Float → ℕ → List Float → Finished Float) → (room : ℕ) → built mesh n vs room ≡ refused r
