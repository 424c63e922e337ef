-- `triangles::published_type4_mesh` meets its contract: its mask leaves the two low bits. Assumes nothing.
use Rattle.records.specs.declared.shape.Kind.TheVariants.{Four}
use Rattle.records.specs.Format.{two_low_bits}
use Rattle.rows.specs.Inner.Sources.{masked}
use Rattle.rows.proofs.Masks.{low_masked}
use Rattle.rules.specs.Triangles.{triangle_before}
use Rattle.meshes.proofs.FlagReadings.{type4_kept, word_outcome}
use Rattle.triangles.proofs.published_type4_mesh.Goals as goal

pub returns : goal.returns
returns c =
    rw (← (word_outcome Four _ _ _ _ _ _ (type4_kept triangle_before) (masked 3) two_low_bits (λ x l. low_masked x) _ _))
    c.read_type4.ensures
