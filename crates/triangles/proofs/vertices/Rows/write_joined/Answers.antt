-- `triangles::Rows::write_joined` meets its contract: a row after the two of a side. Assumes nothing.
use Rattle.rows.specs.Inner.Sources.{held_ranges}
use Rattle.triangles.proofs.Rows.{row_joined}
use Rattle.triangles.proofs.vertices.Rows.write_joined.Goals as goal

pub returns-clause-value : goal.returns-clause-value
returns-clause-value c =
    let r = c.args.self in
    (row_joined r.vertices.now (held_ranges r.ranges.now) c.args.i c.requires.there c.args.first c.place_corner.ensures c.requires.before c.requires.room).0

pub returns-clause-written : goal.returns-clause-written
returns-clause-written c =
    let r = c.args.self in
    (row_joined r.vertices.now (held_ranges r.ranges.now) c.args.i c.requires.there c.args.first c.place_corner.ensures c.requires.before c.requires.room).1
