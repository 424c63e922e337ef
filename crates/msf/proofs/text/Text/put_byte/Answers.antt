-- `msf::text::Text::put_byte` meets its contract: one store. Assumes nothing.
use mathlib.Core.Path.{refl}
use native.Mathlib.Omega.{arith}
use lib.ListN.{length-set}
use Rattle.lists.proofs.Writing.{written_one}
use Rattle.msf.proofs.text.Text.put_byte.Goals as goal

pub returns : goal.returns
returns c =
    record { same_output = refl; same_length = length-set _ _ _; written = written_one _ _ _ (omega arith) }
