-- `triangles::parse_type4_mesh` meets its contract: its mask leaves the whole number, and the Rust's loop is the rule of the triangle before. Assumes
-- nothing.
use Rattle.rules.specs.Triangles.{triangle_before}
use Rattle.records.specs.Format.{whole_number}
use Rattle.rows.specs.Inner.Sources.{masked}
use Rattle.rows.proofs.Masks.{whole_masked}
use Rattle.meshes.proofs.FlagReadings.{type4_kept, word_outcome}
use Rattle.meshes.proofs.TriangleReadings.{type4_ported}
use Rattle.records.specs.declared.shape.Kind.TheVariants.{Four}
use Rattle.triangles.proofs.parse_type4_mesh.Goals as goal

pub returns : goal.returns
returns c =
    rw (type4_ported, ← (word_outcome Four _ _ _ _ _ _ (type4_kept triangle_before) (masked 4294967295) whole_number whole_masked _ _))
    c.read_type4.ensures
