-- What the raw readers' inner functions promise one another. Its first part serves the raw writers too.
use Rattle.std.specs.Prelude.{Option, Some, None, Result, Ok, Err, ◌≡◌, Bool, true, not, ltb, List, [], ◌∷◌, ◌++◌, ℕ, ◌+◌, ◌*◌, ◌≤◌, length, drop, replicate}
use Rattle.std.proofs.Math.Option.{none, some}
use Rattle.answers.specs.declared.Refusal.{Refusal}
use Rattle.answers.specs.declared.Refusal.TheVariants.{Layout, Components}
use Rattle.answers.specs.Limits.{most_components}
use Rattle.answers.specs.Outcome.{Outcome, refused, wrote, refuse_if}
use Rattle.records.specs.declared.shape.Kind.{Kind}
use Rattle.bits.specs.Bits.{stream}
use Rattle.records.specs.declared.mesh.Mesh.{Mesh}
use Rattle.records.specs.declared.mesh.Rest.{Rest}
use Rattle.records.specs.Layout.{widths_readable}
use Rattle.records.specs.declared.raw.Record.{Record}
use Rattle.records.specs.Following.{follows, ends}
use Rattle.records.specs.Format.{Format, format, shape_of, numbers, next, raw_reading}

-- ---- a mesh and its records

abbrev pub format_of : Mesh → Format
format_of m = format m.kind m.first m.coord m.comp m.n

-- LAYOUT, COMPONENTS; then what the rest of a call comes to
unfoldable pub tested : ℕ → ℕ → ℕ → ℕ → Outcome ℕ → Outcome ℕ
tested first coord comp n o =
    refuse_if (not (widths_readable first coord comp)) Layout (refuse_if (ltb most_components n) Components o)

-- past the two tests, a mesh of that type and those widths; else the refusal
pub record Passed (kind : Kind) (first coord comp n : ℕ) (m : Mesh) : Type 0 where
  pub kind_is : m.kind ≡ kind
  pub first_is : m.first ≡ first
  pub coord_is : m.coord ≡ coord
  pub comp_is : m.comp ≡ comp
  pub n_is : m.n ≡ n
  pub readable : widths_readable first coord comp ≡ true
  pub few : n ≤ most_components

abbrev pub Checked : Kind → ℕ → ℕ → ℕ → ℕ → Result Mesh Refusal → Type 0
Checked kind first coord comp n (Ok m) = Passed kind first coord comp n m
Checked kind first coord comp n (Err r) = tested first coord comp n (wrote 0 []) ≡ refused r

-- the widths of so many coordinates and components, which follow a record's first number
abbrev pub widths_after : Mesh → ℕ → ℕ → List ℕ
widths_after m coords comps = replicate coords m.coord ++ replicate comps m.comp

-- so many coordinates and components follow the first number x of a record
pub record Follow (m : Mesh) (started : Bool) (x coords comps : ℕ) : Type 0 where
  pub colours : ℕ
  pub shape : shape_of m.kind started x ≡ follows coords colours
  pub comps_are : comps ≡ colours * m.n

-- what follows it, or that the mesh ends there
abbrev pub RestAfter : Mesh → Bool → ℕ → Option Rest → Type 0
RestAfter m started x (Some rest) = Follow m started x rest.coords rest.comps
RestAfter m started x None = shape_of m.kind started x ≡ ends

-- how many bits a record with them takes
abbrev pub record_size : Mesh → ℕ → ℕ → ℕ
record_size m coords comps = m.first + (coords * m.coord + comps * m.comp)

-- ---- the walk over bytes

-- count numbers of a width stand at bit p
pub record Run (s : List ℕ) (p width count : ℕ) : Type 0 where
  pub some_bits : 1 ≤ width
  pub few_bits : width ≤ 32
  pub whole : p + count * width ≤ 8 * length s

-- the numbers of the given widths at bit p
unfoldable pub numbers_at : List ℕ → ℕ → List ℕ → List ℕ
numbers_at s p ws = numbers ws (drop p (stream s))

-- a complete record at bit p, with so many coordinates and components after its first number
pub record Standing (m : Mesh) (s : List ℕ) (started : Bool) (p coords comps end : ℕ) : Type 0 where
  pub widths : next (format_of m) started (drop p (stream s)) ≡ some (m.first ∷ widths_after m coords comps)
  pub ends : end ≡ p + record_size m coords comps
  pub whole : end ≤ 8 * length s

-- the record that stands at bit p, or that the reading ends there
abbrev pub FoundAt : Mesh → List ℕ → Bool → ℕ → Option Record → Type 0
FoundAt m s started p (Some found) = Standing m s started p found.rest.coords found.rest.comps found.end.0
FoundAt m s started p None = next (format_of m) started (drop p (stream s)) ≡ none

-- every record is a vertex: so many coordinates and one colour follow its first number
pub record Vertices (m : Mesh) (coords : ℕ) : Type 0 where
  pub shape : (started : Bool) (x : ℕ) → shape_of m.kind started x ≡ follows coords 1

-- the whole reading has so many numbers, and the output has room for them
pub record Counted (m : Mesh) (s : List ℕ) (count : ℕ) (out : List ℕ) : Type 0 where
  pub is : count ≡ length (raw_reading (format_of m) s)
  pub room : count ≤ length out
