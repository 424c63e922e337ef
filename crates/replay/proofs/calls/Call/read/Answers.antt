-- `replay::calls::Call::read` meets its contract: the mesh type picks the function. Assumes nothing.
use Rattle.meshes.specs.Outcomes.{ported_reader}
use Rattle.replay.proofs.calls.Call.read.Goals as goal

pub returns-in-Four : goal.returns-in-Four
unfolding ported_reader
returns-in-Four c = rw c.in-Four.is c.parse_type4_mesh.ensures

pub returns-in-Five : goal.returns-in-Five
unfolding ported_reader
returns-in-Five c = rw c.in-Five.is c.parse_type5_mesh.ensures

pub returns-in-Six : goal.returns-in-Six
unfolding ported_reader
returns-in-Six c = rw c.in-Six.is c.parse_type6_patches.ensures

pub returns-in-Seven : goal.returns-in-Seven
unfolding ported_reader
returns-in-Seven c = rw c.in-Seven.is c.parse_type7_patches.ensures
