-- `rows::ranges::fill` meets its contract: at each kind the list begins with the ranges of those before it. Assumes nothing.
use Rattle.std.proofs.Common.{arith, ◌∙◌, ap}
use Rattle.lists.proofs.Writing.{written_store}
use Rattle.lists.proofs.Parts.{written_whole}
use Rattle.decode.specs.Decode.{ranges, range_of}
use Rattle.rows.specs.Inner.Sources.{range_list}
use Rattle.rows.proofs.Loops.{loop_begins, loop_ends}
use Rattle.rows.proofs.ranges.fill.Goals as goal

pub loop-kind-init : goal.loop-kind-init
loop-kind-init c = loop_begins _ (omega arith) (omega arith)

pub loop-kind-preserved : goal.loop-kind-preserved
loop-kind-preserved c =
    let a = c.args in
    let kind = c.loop-kind.kind in
    written_store kind (ranges a.decode.now a.coord a.comp) c.loop-kind.invariant (omega arith) (c.decode_range.ensures ∙ ap (range_of a.decode.now kind) c.width_of.ensures)

pub returns : goal.returns
unfolding range_list
returns c = written_whole {p = 34} (loop_ends _ c.loop-kind.invariant (omega arith) (omega arith)) (omega arith)
