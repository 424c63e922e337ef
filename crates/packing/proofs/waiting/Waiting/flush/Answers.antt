-- `Waiting::flush` meets its contract: the bits that wait, with zeros after them, are whole bytes. Assumes nothing.
use Rattle.std.proofs.Common.{◌≡◌, ◌∙◌, arith}
use Rattle.packing.specs.Packed.{byte_count}
use Rattle.packing.proofs.Putting.{flush_writes}
use Rattle.packing.proofs.waiting.Waiting.flush.Goals as goal

pub returns : goal.returns
returns c =
    let n : c.div_ceil-count.result ≡ byte_count c.args.self.count = c.div_ceil-count.ensures ∙ omega arith in
    rw n (flush_writes c.args.self c.args.self.few (rw n at c.store.ensures))
