-- `rows::numbers::number` meets its contract: a read of bits that are there answers their number. Assumes nothing.
use Rattle.std.proofs.Common.{◌≡◌, ℕ, ◌+◌, ap}
use Rattle.bits.specs.declared.BitPos.{BitPos}
use Rattle.bits.specs.Bits.{field_at}
use Rattle.rows.proofs.Sources.{number_there}
use Rattle.rows.proofs.numbers.number.Goals as goal

pub unreachable-requires : goal.unreachable-requires
unreachable-requires c =
    c.in_default.not-Some _ (number_there _ c.args.from c.args.width c.read.ensures c.requires.some c.requires.few c.requires.short c.requires.there)

pub returns : goal.returns
returns c =
    let a = c.args in
    let is = number_there a.bytes.now a.from a.width c.read.ensures c.requires.some c.requires.few c.requires.short c.requires.there in
    let same : (c.in-Some.value, c.in-Some.field-0-1) ≡ (field_at a.bytes.now a.from a.width, record { 0 = a.from + a.width }) = cc in
    ap (λ (x : ℕ × BitPos). x.0) same
