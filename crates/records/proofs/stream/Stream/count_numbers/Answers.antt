-- `Stream::count_numbers` meets its contract: vertices all have the same size, patches are walked. Assumes nothing.
use Rattle.std.proofs.Common.{sym, ◌∙◌}
use Rattle.records.proofs.Counts.{vertex_count}
use Rattle.records.proofs.stream.Stream.count_numbers.Goals as goal

pub returns-in-Four : goal.returns-in-Four
returns-in-Four c =
    let m = c.args.self.mesh in
    c.count_vertices.ensures ∙ sym (vertex_count m.kind m.first m.coord m.comp m.n 2 (λ started x. rw c.in-Four.is) m.first_some _)

pub returns-in-Five : goal.returns-in-Five
returns-in-Five c =
    let m = c.args.self.mesh in
    c.count_vertices-in-Five.ensures ∙ sym (vertex_count m.kind m.first m.coord m.comp m.n 1 (λ started x. rw c.in-Five.is) m.first_some _)
