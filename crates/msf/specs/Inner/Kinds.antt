-- What the inner functions say of a mesh type.
use Rattle.std.specs.Prelude.{ℕ, ◌+◌, ◌*◌, ◌≤◌, ◌<◌}
use Rattle.answers.specs.Limits.{most_components}
use Rattle.records.specs.declared.shape.Kind.{Kind}
use Rattle.records.specs.declared.shape.Kind.TheVariants.{Four, Five, Six, Seven}

-- how many numbers a triangle or a patch has
abbrev pub stride_of : Kind → ℕ → ℕ
stride_of Four n = 3 * (10 + n)
stride_of Five n = 3 * (10 + n)
stride_of Six n = 2 * 12 + 4 * (8 + n)
stride_of Seven n = 2 * 16 + 4 * (8 + n)

-- a mesh of so many triangles or patches can be listed
pub record IsListable (kind : Kind) (n count : ℕ) : Type 0 where
  pub few : n ≤ most_components
  pub low : count < 1000
  pub room : count * stride_of kind n ≤ 8192
