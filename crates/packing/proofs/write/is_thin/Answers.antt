-- `packing::write::is_thin` meets its contract: a case for each mesh type. Assumes nothing.
use Rattle.std.proofs.Common.{inl, inr}
use Rattle.packing.specs.Writer.{thin}
use Rattle.packing.proofs.write.is_thin.Goals as goal

pub returns-in-Four : goal.returns-in-Four
unfolding thin
returns-in-Four c = rw c.in-Four.is

pub returns-in-Five : goal.returns-in-Five
unfolding thin
returns-in-Five c = rw c.in-Five.is

pub returns-in-Six : goal.returns-in-Six
unfolding thin
returns-in-Six c = elim c.in-Six.is [ inl e ↦ rw e | inr e ↦ rw e ]
