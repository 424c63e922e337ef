-- `msf::header::Header::read_mesh` meets its contract: the entries are handed to the reader as floats. Assumes nothing.
use native.Mathlib.Omega.{arith}
use lib.ListN.{replicate}
use lib.Ieee.{of_bits}
use Rattle.answers.specs.Outcome.{Done}
use Rattle.decode.specs.Floats.{float0}
use Rattle.msf.specs.Inner.Headers.{answer_to}
use Rattle.msf.proofs.Headers.{floats_read}
use Rattle.msf.proofs.Listings.{listable}
use Rattle.msf.proofs.header.Header.read_mesh.Goals as goal

pub returns : goal.returns
unfolding answer_to of_bits
returns c =
    let h = c.args.self.now in
    let read = floats_read (replicate 255 float0) h.entries.now (omega (arith, h.few_entries)) c.read_floats.ensures in
    let d : Done (answer_to h) c.args.numbers.now c.read_decoded.result c.read_decoded.new.numbers = rw (← read, ← c.requires) c.read_decoded.ensures in
    record { answered = d; listable = listable h _ d }
