-- `Stream::write_vertex` meets its contract: each turn writes the vertex's next number, whose bits are all there. Assumes nothing.
use Rattle.std.proofs.Common.{◌+◌, ◌∷◌}
use Rattle.records.specs.Inner.Walk.{widths_after}
use Rattle.records.proofs.Runs.{Upto}
use Rattle.records.proofs.stream.Stream.write_vertex.Given as goal

abbrev pub invariant-loop-k : goal.invariant-loop-k
invariant-loop-k l =
    let m = l.self.mesh in
    Upto l.self.bytes.now l.initial.at.0 (m.first ∷ widths_after m l.coords m.n) (1 + l.coords + m.n) l.initial.out l.out l.p l.k l.at.0
