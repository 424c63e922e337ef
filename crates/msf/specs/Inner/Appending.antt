-- What it is to write a list at the end of a text.
use Rattle.std.specs.Prelude.{ℕ, ◌≡◌, List, length}
use Rattle.lists.specs.Writing.{Written}
use Rattle.msf.specs.declared.text.Text.{Text}

-- new is old with the list written after what stood there, to the same output
pub record Appends (old new : Text) (xs : List ℕ) : Type 0 where
  pub same_output : new.out.ghost_name ≡ old.out.ghost_name
  pub same_length : length new.out.now ≡ length old.out.now
  pub written : Written old.out.now new.out.now old.at xs new.at
