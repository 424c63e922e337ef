-- `packing::write::pack` meets its contract: what the first pass found says which answer it is.
-- Assumes nothing.
use Rattle.std.proofs.Common.{◌≡◌, ℕ, ◌*◌, ◌≤◌, false, List, [], Some, None, sym, ◌∙◌, arith, length}
use Rattle.std.proofs.Math.Option.{some}
use Rattle.std.proofs.lemmas.Result.{err_from_is_err_and}
use Rattle.answers.specs.declared.Refusal.TheVariants.{Record}
use Rattle.packing.specs.Packed.{byte_count, packed}
use Rattle.packing.specs.Inner.Measure.{Measured}
use Rattle.records.specs.Inner.Walk.{format_of}
use Rattle.packing.proofs.Accepting.{accepted_bits}
use Rattle.packing.proofs.Finishing.{measured_unfit, measured_bits, not_accepted, without_room, has_room, filled}
use Rattle.packing.proofs.write.pack.Goals as goal
use Rattle.packing.proofs.write.pack.Goals.{In_ok-total}

module _ (k : In_ok-total) where
  measured : ◌≡◌ {A = Measured} k.measure.result (Some k.in_ok-total.total)
  measured = grind arith

  bits : (b : List ℕ) × (packed (format_of k.args.mesh) false [] k.args.numbers.now ≡ some b) × (length b ≡ k.in_ok-total.total)
  bits = measured_bits _ k.in_ok-total.total (sym k.measure.ensures ∙ measured)

  few : length bits.0 ≤ 32 * length k.args.numbers.now
  few =
      let m = k.args.mesh in
      (accepted_bits m.kind m.first m.coord m.comp m.n k.args.numbers.now bits.0 m.first_few m.coord_few m.comp_few bits.1).few

pub returns-in_err-total : goal.returns-in_err-total
returns-in_err-total c =
    let p = err_from_is_err_and c.from_residual.result c.from_residual.ensures.1 in
    let unfit : ◌≡◌ {A = Measured} c.measure.result None = grind arith in
    let record_is : c.in_err-total.field-0.0 ≡ Record = grind (arith, unfit) in
    rw (p.1, p.2, record_is) (not_accepted _ c.args.out.now (measured_unfit _ (sym c.measure.ensures ∙ unfit)))

pub returns-then-out-needed : goal.returns-then-out-needed
returns-then-out-needed c =
    let k = (goal.at.returns-then-out-needed c).In_ok-total in
    let n : byte_count (length (bits k).0) ≡ c.div_ceil-needed.result = omega (arith, c.div_ceil-needed.ensures, (bits k).2) in
    without_room _ (bits k).0 (bits k).1 k.args.out.now n c.if-out-needed.true

pub fill-requires : goal.fill-requires
fill-requires c =
    let k = (goal.at.fill-requires c).In_ok-total in
    has_room _ (bits k).0 (bits k).1 (length k.args.out.now) (omega (arith, c.div_ceil-needed.ensures, (bits k).2, c.if-out-needed.false))

pub returns : goal.returns
returns c =
    let k = (goal.at.returns c).In_ok-total in
    filled _ (bits k).0 (bits k).1 c.fill.ensures
