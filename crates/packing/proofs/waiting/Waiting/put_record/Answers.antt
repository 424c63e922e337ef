-- `Waiting::put_record` meets its contract: the first number, the coordinates and the components are put one after the other.
-- Assumes nothing.
use Rattle.std.proofs.Common.{◌≡◌, ℕ, ◌+◌, ◌-◌, ◌*◌, ap, ◌∙◌, length, get_or, arith}
use Rattle.bits.proofs.Digits.{length-bits}
use Rattle.packing.specs.Inner.Passes.{run_at, run_bits}
use Rattle.packing.proofs.Runs.{length_run, length-run_bits}
use Rattle.packing.proofs.Records.{Parts, fits_parts}
use Rattle.packing.proofs.Putting.{put_then, put_place, put_length}
use Rattle.packing.proofs.waiting.Waiting.put_record.Goals as goal
use Rattle.packing.proofs.waiting.Waiting.put_record.Goals.{Start}

fit : (s : Start) → Parts s.args.mesh s.args.rest.coords s.args.rest.comps s.args.numbers.now s.args.i
fit s = fits_parts s.args.mesh s.args.rest.coords s.args.rest.comps s.args.numbers.now s.args.i s.requires.fits

pub put_run-requires-clause-room : goal.put_run-requires-clause-room
put_run-requires-clause-room c =
    let s = (goal.at.put_run-requires-clause-room c).Start in
    let a = s.args in
    let p = c.put.ensures in
    let size : a.i + 1 + a.rest.coords - (a.i + 1) ≡ a.rest.coords = omega arith in
    rw (size, length_run a.numbers.now (a.i + 1) a.rest.coords (omega (arith, (fit s).there)))
    (omega (arith, s.requires.room, put_place p, put_length p, length-bits a.mesh.first (get_or a.numbers.now a.i 0)))

pub put_run-requires-2-clause-room : goal.put_run-requires-2-clause-room
put_run-requires-2-clause-room c =
    let s = (goal.at.put_run-requires-2-clause-room c).Start in
    let a = s.args in
    let p = c.put.ensures in
    let size : a.i + 1 + a.rest.coords - (a.i + 1) ≡ a.rest.coords = omega arith in
    let q = rw size at c.put_run.ensures in
    let size' : a.i + 1 + a.rest.coords + a.rest.comps - (a.i + 1 + a.rest.coords) ≡ a.rest.comps = omega arith in
    let n : length (run_bits a.mesh.coord (run_at a.numbers.now (a.i + 1) a.rest.coords)) ≡ a.rest.coords * a.mesh.coord =
    length-run_bits a.mesh.coord (run_at a.numbers.now (a.i + 1) a.rest.coords)
    ∙ ap (λ (k : ℕ). k * a.mesh.coord) (length_run a.numbers.now (a.i + 1) a.rest.coords (omega (arith, (fit s).there))) in
    rw (size', length_run a.numbers.now (a.i + 1 + a.rest.coords) a.rest.comps (omega (arith, (fit s).there)))
    (omega (arith, s.requires.room, put_place p, put_length p, put_place q, put_length q, n, length-bits a.mesh.first (get_or a.numbers.now a.i 0)))

pub returns : goal.returns
returns c =
    let a = c.args in
    let size : a.i + 1 + a.rest.coords - (a.i + 1) ≡ a.rest.coords = omega arith in
    let size' : a.i + 1 + a.rest.coords + a.rest.comps - (a.i + 1 + a.rest.coords) ≡ a.rest.comps = omega arith in
    put_then c.put.ensures (put_then (rw size at c.put_run.ensures) (rw size' at c.put_run-2.ensures))
