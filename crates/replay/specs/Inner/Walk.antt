-- What the inner functions promise one another.
use Rattle.std.specs.Prelude.{ℕ, ◌+◌, ◌≤◌}
use Rattle.replay.specs.declared.replaying.Case.{Case}

-- all of the case is within so many bytes, and its numbers have room: 256 Decode entries, 1,024 numbers of a list, an output of 4,096
pub record Fits (size : ℕ) (c : Case) : Type 0 where
  pub header : 31 ≤ c.input
  pub entries : c.input ≤ 2079
  pub input : c.input ≤ c.end
  pub numbers : c.end ≤ c.input + 8192
  pub end : c.end ≤ size
  pub room : c.room ≤ 4096
