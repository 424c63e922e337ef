-- `triangles::Rows::write_triangles` meets its contract: the walk over the flags: what is written is the triangles so far, and the rows of the kept three
-- stand where the locals say. Assumes nothing.
use Rattle.std.proofs.Common.{arith, sym, ◌∙◌}
use Rattle.triangles.specs.Inner.Vertices.{triangles_in}
use Rattle.triangles.proofs.Writing.{writing_start, first_room, first_done, cut_short, all_done, joined_room, joined_done, dropped_alone, dropped_far}
use Rattle.triangles.proofs.vertices.Rows.write_triangles.Goals as goal
use Rattle.triangles.proofs.vertices.Rows.write_triangles.Goals.{else-p-gt0-via-then-p-gt0+else-flag-lt3, else-p-gt0-via-else-p-gt0}

pub loop-i-init : goal.loop-i-init
loop-i-init c = writing_start _ _ _ _ _ _ _

pub returns-then-total-i-lt3 : goal.returns-then-total-i-lt3
unfolding triangles_in
returns-then-total-i-lt3 c = cut_short _ _ _ _ _ _ c.loop-i.invariant (omega arith) (omega arith) (sym c.flag-flag.ensures ∙ c.if-flag-eq0.true)

pub write_three-p-requires-clause-room : goal.write_three-p-requires-clause-room
unfolding triangles_in
write_three-p-requires-clause-room c =
    first_room _ _ _ _ _ _ c.loop-i.invariant (omega arith) (sym c.flag-flag.ensures ∙ c.if-flag-eq0.true) c.requires.room

pub loop-i-preserved-then-flag-eq0 : goal.loop-i-preserved-then-flag-eq0
loop-i-preserved-then-flag-eq0 c =
    first_done _ _ _ _ _ _ c.loop-i.invariant (omega arith) (sym c.flag-flag.ensures ∙ c.if-flag-eq0.true) c.write_three-p.ensures.written

pub write_joined-p-requires-clause-room : goal.write_joined-p-requires-clause-room
unfolding triangles_in
write_joined-p-requires-clause-room c =
    let e = sym c.flag-flag.ensures in
    joined_room _ _ _ _ _ _ c.loop-i.invariant (omega arith) (omega arith) (omega arith) (λ z. omega arith) c.requires.room

pub loop-i-preserved-then-flag-lt3 : goal.loop-i-preserved-then-flag-lt3
loop-i-preserved-then-flag-lt3 c =
    let e = sym c.flag-flag.ensures in
    joined_done _ _ _ _ _ _ c.loop-i.invariant (omega arith) (omega arith) (omega arith) (λ z. omega arith) c.flag-flag.ensures c.side_row-side.ensures
    c.kept_row-first.ensures c.write_joined-p.ensures.written

pub loop-i-preserved : goal.loop-i-preserved
loop-i-preserved c =
    let e = sym c.flag-flag.ensures in
    elim c.else-p-gt0.branch [
      | else-p-gt0-via-then-p-gt0+else-flag-lt3 w ↦ dropped_far _ _ _ _ _ _ c.loop-i.invariant (omega arith) (omega arith)
      | else-p-gt0-via-else-p-gt0 w ↦ dropped_alone _ _ _ _ _ _ c.loop-i.invariant (omega arith) (omega arith) (omega arith) (omega arith)
    ]

pub returns : goal.returns
unfolding triangles_in
returns c = all_done _ _ _ _ _ _ c.loop-i.invariant (omega arith)
