-- `rows::writing::write_two` meets its contract: one store after the other. Assumes nothing.
use mathlib.Core.Path.{refl}
use mathlib.Core.List.{List, [], ◌∷◌}
use Prim.Native.Nat.{◌+◌}
use native.Mathlib.Nat.{add_assoc}
use native.Mathlib.Omega.{arith}
use lib.ListN.{set}
use lib.Ieee.{Float}
use Rattle.lists.specs.Writing.{Written}
use Rattle.lists.proofs.Writing.{written_one, written_set}
use Rattle.rows.proofs.writing.write_two.Goals as goal

pub returns-clause-written : goal.returns-clause-written
returns-clause-written c =
    let a = c.args in
    let l : List Float = a.out.now in
    let w : Written l (set (set l a.at a.a) (a.at + 1) a.b) a.at (a.a ∷ a.b ∷ []) (a.at + 1 + 1) =
    written_set _ _ refl (omega arith) (written_one l a.at a.a (omega arith)) in
    rw add_assoc at w
