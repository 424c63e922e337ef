-- `msf::text::Text::put_float` meets its contract: the k highest digits have been stored. Assumes nothing.
use Rattle.std.proofs.Common.{◌-◌, ◌≤◌}
use Rattle.lists.specs.Writing.{Written}
use Rattle.msf.proofs.Digits.{high_digits}
use Rattle.msf.proofs.text.Text.put_float.Given as goal

abbrev pub invariant-loop-k : goal.invariant-loop-k
invariant-loop-k l = record {
  stored : Written l.initial.digits l.digits 0 (high_digits l.bits (16 - l.k)) l.k;
  within : l.k ≤ 16;
}
