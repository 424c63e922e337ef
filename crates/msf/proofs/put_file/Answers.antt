-- `msf::put_file` meets its contract: the header decides the listing. Assumes nothing.
use Rattle.msf.proofs.Headers.{listing_read}
use Rattle.msf.proofs.put_file.Goals as goal

pub returns-in-Some : goal.returns-in-Some
returns-in-Some c = rw (← (listing_read c.in-Some.ensures.found)) c.put_mesh.ensures
