-- `Mesh::new` meets its contract: a mesh that is made is past the tests of LAYOUT and COMPONENTS. Assumes nothing.
use Rattle.std.proofs.Common.{sym, ◌∙◌, arith}
use Rattle.records.proofs.Layouts.{widths_readable_lem}
use Rattle.records.proofs.mesh.Mesh.new.Goals as goal

pub invariant_of-result : goal.invariant_of-result
invariant_of-result c =
    let w = widths_readable_lem _ _ _ (sym c.widths_are_readable.ensures ∙ c.if-not-widths_are_readable.false) in
    record {
      first_some = w.of_first.some_bits;
      first_few = w.of_first.few_bits;
      coord_some = w.of_coord.some_bits;
      coord_few = w.of_coord.few_bits;
      comp_some = w.of_comp.some_bits;
      comp_few = w.of_comp.few_bits;
      n_few = omega arith;
    }
