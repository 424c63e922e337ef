-- `triangles::lattice_form::lattice_form` meets its contract: no row, no room, or all cells. Assumes nothing.
use Rattle.std.proofs.Common.{arith, refl, ◌-◌, ◌*◌}
use Rattle.lists.specs.Lists.{flat}
use Rattle.lists.proofs.Writing.{written_none}
use Rattle.answers.proofs.Outcomes.{all_written}
use Rattle.rules.specs.Lattice.{lattice}
use Rattle.triangles.specs.Inner.Vertices.{row_size}
use Rattle.triangles.proofs.Rows.{length_in, numbers_small}
use Rattle.triangles.proofs.Ends.{no_room_for_triangles, triangles_written}
use Rattle.triangles.proofs.Cells.{no_cells, long_rows, all_rows, rows_inside, few_cells, cell_count, numbers_of_cells, lattice_written}
use Rattle.triangles.proofs.lattice_form.lattice_form.Goals as goal

pub returns-then-rows-lt2 : goal.returns-then-rows-lt2
unfolding flat
returns-then-rows-lt2 c =
    let a = c.args in
    let e = no_cells a.vertices.now.total a.row c.lattice_rows-rows.result c.lattice_rows-rows.ensures c.if-rows-lt2.true in
    rw e (all_written refl (written_none _ 0 (omega arith)))

pub overflow_mul-needed-2 : goal.overflow_mul-needed-2
overflow_mul-needed-2 c =
    let few = few_cells c.args.vertices.now.total c.args.row c.lattice_rows-rows.result c.lattice_rows-rows.ensures c.if-rows-lt2.false in
    omega (arith, numbers_small c.args.vertices.now (2 * (c.lattice_rows-rows.result - 1) * (c.args.row - 1)) few)

pub returns-then-out-needed : goal.returns-then-out-needed
returns-then-out-needed c =
    let v = c.args.vertices.now in
    no_room_for_triangles v c.args.decode.now (lattice v.total c.args.row) c.args.out.now
    (cell_count v.total c.args.row c.lattice_rows-rows.result c.lattice_rows-rows.ensures c.if-rows-lt2.false) c.if-out-needed.true

pub write_lattice-requires-clause-two : goal.write_lattice-requires-clause-two
write_lattice-requires-clause-two c = long_rows c.args.vertices.now.total c.args.row c.lattice_rows-rows.result c.lattice_rows-rows.ensures c.if-rows-lt2.false

pub write_lattice-requires-clause-there : goal.write_lattice-requires-clause-there
write_lattice-requires-clause-there c =
    rows_inside c.args.vertices.now.total c.args.row c.lattice_rows-rows.result c.lattice_rows-rows.ensures c.if-rows-lt2.false

pub write_lattice-requires-clause-room : goal.write_lattice-requires-clause-room
write_lattice-requires-clause-room c =
    let h = c.if-out-needed.false in
    rw (← (numbers_of_cells c.lattice_rows-rows.result c.args.row (row_size c.args.vertices.now))) (omega arith)

pub returns : goal.returns
returns c =
    let v = c.args.vertices.now in
    let rows = c.lattice_rows-rows in
    triangles_written v c.args.decode.now (lattice v.total c.args.row) c.args.out.now (cell_count v.total c.args.row rows.result rows.ensures c.if-rows-lt2.false) _ _
    c.fill_ranges.ensures
    (lattice_written _ _ (length_in v _) v.total c.args.row _ (all_rows v.total c.args.row rows.result rows.ensures c.if-rows-lt2.false) c.write_lattice.ensures)
