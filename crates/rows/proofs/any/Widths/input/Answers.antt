-- `rows::any::Widths::input` meets its contract: what the test says is what an input holds by its fields. Assumes nothing.
use Rattle.std.proofs.Common.{arith}
use Rattle.rows.proofs.AnySource.{fair_widths, taken_short, taken_widths}
use Rattle.rows.proofs.any.Widths.input.Goals as goal

pub invariant_of-layout : goal.invariant_of-layout
invariant_of-layout c =
    let f = fair_widths c.args.source c.args.self c.requires.fair in
    record { flag_few = omega arith; coord_some = f.1.0.0; coord_few = f.1.0.1; comp_some = f.1.1.0.0; comp_few = f.1.1.0.1; n_few = f.0 }

pub invariant_of-result : goal.invariant_of-result
invariant_of-result c =
    let a = c.args in
    let f = fair_widths a.source a.self c.requires.fair in
    let widths = taken_widths a.source a.self f.1.1.1 in
    record { short = taken_short a.source a.self f.1.1.1 c.requires.near; coord_there = widths.0; comp_there = widths.1 }
