-- `replay::calls::Call::answer` meets its contract: a reader reads, and a builder builds. Assumes nothing.
use Rattle.replay.proofs.Numbered.{done_reader, done_builder}
use Rattle.replay.proofs.calls.Call.answer.Goals as goal

pub returns-in-Reader : goal.returns-in-Reader
returns-in-Reader c = done_reader _ _ _ _ _ c.in-Reader.is c.read.ensures

pub returns-in-Builder : goal.returns-in-Builder
returns-in-Builder c = done_builder _ _ _ _ _ c.in-Builder.is c.build.ensures
