-- `accepting::bits` meets its contract: each refusal in its order. Assumes nothing.
use Rattle.std.proofs.Common.{sym, ◌∙◌}
use Rattle.records.proofs.Layouts.{layout_widths}
use Rattle.meshes.proofs.Endings.{unreadable, many_components, too_long}
use Rattle.accepting.proofs.Accepted.{flag_few}
use Rattle.accepting.proofs.bits.Goals as goal

pub returns-then-not-mesh_layout_is_readable : goal.returns-then-not-mesh_layout_is_readable
returns-then-not-mesh_layout_is_readable c =
    λ kind meaning mesh room. unreadable _ mesh _ room (sym c.mesh_layout_is_readable.ensures ∙ c.if-not-mesh_layout_is_readable.true)

pub returns-then-n-gt-MOST_COMPONENTS : goal.returns-then-n-gt-MOST_COMPONENTS
returns-then-n-gt-MOST_COMPONENTS c =
    λ kind meaning mesh room.
    many_components _ mesh _ room (sym c.mesh_layout_is_readable.ensures ∙ c.if-not-mesh_layout_is_readable.false) c.if-n-gt-MOST_COMPONENTS.true

pub returns-then-data-gt-MOST_BYTES : goal.returns-then-data-gt-MOST_BYTES
returns-then-data-gt-MOST_BYTES c =
    let readable = sym c.mesh_layout_is_readable.ensures ∙ c.if-not-mesh_layout_is_readable.false in
    λ kind meaning mesh room. too_long _ mesh _ room readable c.if-n-gt-MOST_COMPONENTS.false c.if-data-gt-MOST_BYTES.true

pub invariant_of-layout : goal.invariant_of-layout
invariant_of-layout c =
    let a = c.args in
    let w = layout_widths a.flag a.coord a.comp _ (sym c.mesh_layout_is_readable.ensures ∙ c.if-not-mesh_layout_is_readable.false) in
    record {
      flag_few = rw c.unwrap_or.ensures (flag_few a.flag a.coord w.of_first);
      coord_some = w.of_coord.some_bits;
      coord_few = w.of_coord.few_bits;
      comp_some = w.of_comp.some_bits;
      comp_few = w.of_comp.few_bits;
      n_few = c.if-n-gt-MOST_COMPONENTS.false;
    }
