-- The contract of `list_file` allows one answer and one content of the output only. Assumes nothing.
use Prim.Native.Nat.{ℕ}
use mathlib.Core.Path.{◌≡◌, sym, ◌∙◌}
use mathlib.Core.List.{List}
use Rattle.lists.specs.Writing.{Written}
use Rattle.msf.specs.File.{file_listing}

pub one_listing : (s entry exit exit' : List ℕ) (r r' : ℕ) → Written entry exit 0 (file_listing s) r → Written entry exit' 0 (file_listing s) r'
    → (exit ≡ exit') × (r ≡ r')
one_listing s entry exit exit' r r' w v = (w.held ∙ sym v.held, w.after ∙ sym v.after)
