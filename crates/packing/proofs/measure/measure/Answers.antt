-- `packing::measure::measure` meets its contract: the records passed are whole, and `total` is how many bits they take.
-- Assumes nothing.
use Rattle.std.proofs.Common.{◌≡◌, ℕ, ◌+◌, ◌≤◌, true, ◌++◌, Some, sym, ap, ◌∙◌, arith, length, length-append}
use Rattle.packing.specs.Inner.Passes.{record_fits, record_bits, measure_of}
use Rattle.packing.proofs.Records.{fits_parts}
use Rattle.packing.proofs.Passing.{reached_end, reached_flag, reached_unfit, reached_more, length_record}
use Rattle.packing.proofs.measure.measure.Goals as goal
use Rattle.packing.proofs.measure.measure.Goals.{Else-not-record_fits}

module _ (e : Else-not-record_fits) where
  abbrev coords : ℕ
  coords = e.in_ok-rest.rest.coords

  abbrev comps : ℕ
  comps = e.in_ok-rest.rest.comps

  fit : record_fits e.args.mesh coords comps e.args.numbers.now e.loop-i.i ≡ true
  fit = sym e.record_fits.ensures ∙ e.if-not-record_fits.false

  there : e.loop-i.i + (1 + coords + comps) ≤ length e.args.numbers.now
  there = (fits_parts e.args.mesh coords comps e.args.numbers.now e.loop-i.i fit).there

pub returns-in_err-rest : goal.returns-in_err-rest
unfolding measure_of
returns-in_err-rest c =
    let a = c.args in
    let l = c.loop-i in
    rw (c.from_residual.ensures, reached_flag a.mesh a.numbers.now l.invariant.bits l.i l.invariant.reached c.loop-i-test.true c.in_err-rest.ensures)

pub returns-then-not-record_fits : goal.returns-then-not-record_fits
unfolding measure_of
returns-then-not-record_fits c =
    let a = c.args in
    let l = c.loop-i in
    let r = c.in_ok-rest.rest in
    rw (reached_unfit a.mesh a.numbers.now l.invariant.bits l.i r.coords r.comps l.invariant.reached c.loop-i-test.true c.in_ok-rest.ensures
    (sym c.record_fits.ensures ∙ c.if-not-record_fits.true))

pub loop-i-preserved : goal.loop-i-preserved
loop-i-preserved c =
    let e = (goal.at.loop-i-preserved c).Else-not-record_fits in
    let a = e.args in
    let l = e.loop-i in
    let bits = record_bits a.mesh (coords e) (comps e) a.numbers.now l.i in
    record {
      within = there e;
      few = omega (arith, there e, c.record_size-total.ensures.few);
      bits = l.invariant.bits ++ bits;
      reached = reached_more a.mesh a.numbers.now l.invariant.bits l.i (coords e) (comps e) l.invariant.reached e.loop-i-test.true e.in_ok-rest.ensures (fit e);
      counted =
          omega (
            arith,
            l.invariant.counted,
            c.record_size-total.ensures.value,
            length-append l.invariant.bits bits,
            length_record a.mesh (coords e) (comps e) a.numbers.now l.i (there e),
          );
    }

pub returns : goal.returns
unfolding measure_of
returns c =
    let a = c.args in
    let l = c.loop-i in
    sym (ap measure_of (reached_end a.mesh a.numbers.now l.invariant.bits l.i l.invariant.reached (omega arith)) ∙ ap Some l.invariant.counted)
