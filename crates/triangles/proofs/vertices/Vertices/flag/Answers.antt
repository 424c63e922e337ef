-- `triangles::Vertices::flag` meets its contract: what is left by the mask of the number where the vertex begins. Assumes nothing.
use Rattle.triangles.proofs.Rows.{flag_here}
use Rattle.triangles.proofs.vertices.Vertices.flag.Goals as goal

pub returns : goal.returns
returns c = flag_here c.args.self.now c.args.i c.requires.there c.requires.flagged c.flag_at.ensures
