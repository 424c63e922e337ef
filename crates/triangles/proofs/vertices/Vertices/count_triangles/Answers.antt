-- `triangles::Vertices::count_triangles` meets its contract: the walk over the flags, counting. Assumes nothing.
use Rattle.std.proofs.Common.{arith, sym, ◌∙◌}
use Rattle.triangles.specs.Inner.Vertices.{triangles_in}
use Rattle.triangles.proofs.Counting.{counting_start, counting_first, counting_cut, counting_end, counting_alone, counting_far, counting_joined}
use Rattle.triangles.proofs.vertices.Vertices.count_triangles.Goals as goal
use Rattle.triangles.proofs.vertices.Vertices.count_triangles.Goals.{else-count-gt0-via-then-count-gt0+else-flag-lt3, else-count-gt0-via-else-count-gt0}

pub loop-i-init : goal.loop-i-init
loop-i-init c = counting_start _ _

pub returns-then-total-i-lt3-clause-value : goal.returns-then-total-i-lt3-clause-value
unfolding triangles_in
returns-then-total-i-lt3-clause-value c =
    counting_cut _ _ c.loop-i.invariant (omega arith) (omega arith) (sym c.flag-flag.ensures ∙ c.if-flag-eq0.true)

pub loop-i-preserved-then-flag-eq0 : goal.loop-i-preserved-then-flag-eq0
loop-i-preserved-then-flag-eq0 c = counting_first _ _ c.loop-i.invariant (omega arith) (sym c.flag-flag.ensures ∙ c.if-flag-eq0.true)

pub loop-i-preserved-then-flag-lt3 : goal.loop-i-preserved-then-flag-lt3
loop-i-preserved-then-flag-lt3 c =
    let e = sym c.flag-flag.ensures in
    counting_joined _ _ c.loop-i.invariant (omega arith) (omega arith) (omega arith) (λ z. omega arith)

pub loop-i-preserved : goal.loop-i-preserved
loop-i-preserved c =
    let e = sym c.flag-flag.ensures in
    elim c.else-count-gt0.branch [
      | else-count-gt0-via-then-count-gt0+else-flag-lt3 w ↦ counting_far _ _ c.loop-i.invariant (omega arith) (omega arith)
      | else-count-gt0-via-else-count-gt0 w ↦ counting_alone _ _ c.loop-i.invariant (omega arith) (omega arith) (omega arith)
    ]

pub returns-clause-value : goal.returns-clause-value
unfolding triangles_in
returns-clause-value c = counting_end _ _ c.loop-i.invariant (omega arith)
