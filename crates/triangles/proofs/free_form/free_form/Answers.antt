-- `triangles::free_form::free_form` meets its contract: no room, or all triangles. Assumes nothing.
use Rattle.std.proofs.Common.{arith, ◌∙◌}
use Rattle.triangles.specs.Inner.Vertices.{rule_of, triangles_in}
use Rattle.triangles.proofs.Writing.{same_count}
use Rattle.triangles.proofs.Ends.{no_room_for_triangles, triangles_written}
use Rattle.triangles.proofs.free_form.free_form.Goals as goal

pub returns-then-out-needed : goal.returns-then-out-needed
returns-then-out-needed c =
    let v = c.args.vertices.now in
    no_room_for_triangles v c.args.decode.now (triangles_in (rule_of c.args.rule) v) c.args.out.now (c.count_triangles-count.ensures.value ∙ same_count c.args.rule v)
    c.if-out-needed.true

pub write_triangles-requires-clause-room : goal.write_triangles-requires-clause-room
write_triangles-requires-clause-room c =
    let h = c.if-out-needed.false in
    rw (← (c.count_triangles-count.ensures.value ∙ same_count c.args.rule c.args.vertices.now)) (omega arith)

pub returns : goal.returns
returns c =
    let v = c.args.vertices.now in
    triangles_written v c.args.decode.now (triangles_in (rule_of c.args.rule) v) c.args.out.now (c.count_triangles-count.ensures.value ∙ same_count c.args.rule v) _ _
    c.fill_ranges.ensures c.write_triangles.ensures
