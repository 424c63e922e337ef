-- `triangles::Vertices::count_triangles` meets its contract: the walk over the flags, counting. Assumes nothing.
use Prim.Native.Nat.{◌-◌}
use Rattle.triangles.specs.Inner.Vertices.{flag_of_vertex}
use Rattle.triangles.proofs.Counting.{Counting}
use Rattle.triangles.proofs.vertices.Vertices.count_triangles.Given as goal

abbrev pub invariant-loop-i : goal.invariant-loop-i
invariant-loop-i l = Counting (flag_of_vertex l.self) l.self.total l.count l.i

abbrev pub decreases-loop-i : goal.decreases-loop-i
decreases-loop-i l = l.total - l.i
