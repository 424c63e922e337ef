-- `msf::text::Text::put_bytes` meets its contract: one copy. Assumes nothing.
use mathlib.Core.Path.{refl}
use native.Mathlib.Omega.{arith}
use Rattle.lists.proofs.Writing.{written_length}
use Rattle.msf.proofs.Appending.{copied}
use Rattle.msf.proofs.text.Text.put_bytes.Goals as goal

pub returns : goal.returns
returns c =
    let t = c.args.self.now in
    let w = copied t.out.now t.at _ _ _ c.copy_from_slice.ensures.after (omega arith) c.requires.room in
    record { same_output = refl; same_length = written_length w; written = w }
