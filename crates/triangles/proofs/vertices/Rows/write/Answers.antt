-- `triangles::Rows::write` meets its contract: a row with no other. Assumes nothing.
use Rattle.rows.specs.Inner.Sources.{held_ranges}
use Rattle.triangles.proofs.Rows.{row_alone}
use Rattle.triangles.proofs.vertices.Rows.write.Goals as goal

pub returns-clause-value : goal.returns-clause-value
returns-clause-value c =
    let r = c.args.self in
    (row_alone r.vertices.now (held_ranges r.ranges.now) c.args.i c.requires.there c.place_corner.ensures c.requires.room).0

pub returns-clause-written : goal.returns-clause-written
returns-clause-written c =
    let r = c.args.self in
    (row_alone r.vertices.now (held_ranges r.ranges.now) c.args.i c.requires.there c.place_corner.ensures c.requires.room).1
