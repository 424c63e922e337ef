-- `Stream::write_vertices` meets its contract: while numbers are left the next vertex is whole, and a turn writes it. Assumes nothing.
use Rattle.std.proofs.Common.{sym, true, false, arith}
use Rattle.records.proofs.Shapes.{small}
use Rattle.records.proofs.Filling.{fill_start, vertex_turn, turn_done}
use Rattle.records.proofs.stream.Stream.write_vertices.Goals as goal

pub overflow_add-size : goal.overflow_add-size
overflow_add-size c = omega (arith, small c.args.self.mesh false 0 (sym (c.requires.vertices.shape false 0)))

pub overflow_add-size-2 : goal.overflow_add-size-2
overflow_add-size-2 c = omega (arith, small c.args.self.mesh false 0 (sym (c.requires.vertices.shape false 0)))

pub loop-p-init : goal.loop-p-init
loop-p-init c = (false, fill_start c.args.self.short c.requires.counted)

pub write_vertex-at-requires : goal.write_vertex-at-requires
write_vertex-at-requires c =
    let t = vertex_turn c.loop-p.invariant.1 c.loop-p-test.true c.requires.vertices in
    record { there = t.standing.whole; room = t.room }

pub loop-p-preserved : goal.loop-p-preserved
loop-p-preserved c =
    let w = c.loop-p.invariant.1 in
    let t = vertex_turn w c.loop-p-test.true c.requires.vertices in
    let f = c.write_vertex-at.ensures in
    (true, turn_done w t f.after f.written)
