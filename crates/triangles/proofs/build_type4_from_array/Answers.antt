-- `triangles::build_type4_from_array` meets its contract: the Rust's loop is the rule of the last three vertices. Assumes nothing.
use Rattle.meshes.proofs.TriangleReadings.{list4_ported}
use Rattle.triangles.proofs.build_type4_from_array.Goals as goal

pub returns : goal.returns
returns c = rw list4_ported c.build_type4.ensures
