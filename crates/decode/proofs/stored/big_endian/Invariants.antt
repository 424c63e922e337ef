-- `decode::stored::big_endian` meets its contract: after some bytes the number is theirs. Assumes nothing.
use Rattle.std.proofs.Common.{◌≡◌, ◌^◌, ◌<◌}
use Rattle.decode.specs.Stored.{big_endian}
use Rattle.decode.proofs.stored.big_endian.Given as goal

abbrev pub invariant-loop-byte : goal.invariant-loop-byte
invariant-loop-byte l = record { number : l.number ≡ big_endian l.bytes 0 l.byte-index; below : l.number < 256 ^ l.byte-index }
