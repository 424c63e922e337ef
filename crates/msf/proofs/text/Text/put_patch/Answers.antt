-- `msf::text::Text::put_patch` meets its contract: the points' lines, then the colours'. Assumes nothing.
use Rattle.msf.proofs.Appending.{appends_then}
use Rattle.msf.proofs.Meshes.{patch_text}
use Rattle.msf.proofs.text.Text.put_patch.Goals as goal

pub returns-clause-appended : goal.returns-clause-appended
returns-clause-appended c =
    let a = c.args in
    rw (patch_text a.points a.n a.patch.now _ _ c.split_at.ensures.front c.split_at.ensures.back c.requires.whole)
    (appends_then c.put_points.ensures.appended c.put_rows.ensures.appended)
