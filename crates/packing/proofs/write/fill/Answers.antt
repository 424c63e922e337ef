-- `packing::write::fill` meets its contract: the records passed are put, and each next one fits and has room.
-- Assumes nothing.
use Rattle.std.proofs.Common.{◌≡◌, ℕ, ◌+◌, ◌*◌, ◌≤◌, true, false, List, [], ◌++◌, subst, get_or, arith, length}
use Rattle.std.proofs.Math.Option.{Option, some}
use Rattle.packing.specs.Packed.{packed}
use Rattle.records.specs.Inner.Walk.{format_of, Follow}
use Rattle.records.proofs.Filling.{rest_there}
use Rattle.packing.specs.Inner.Passes.{record_fits, record_bits, Roomy}
use Rattle.packing.proofs.Records.{fits_parts}
use Rattle.packing.proofs.Passing.{reached_start, reached_end, reached_flag, reached_more, reached_room, length_record}
use Rattle.packing.proofs.Putting.{put_none, put_then, put_place, put_length}
use Rattle.packing.proofs.Finishing.{room_is, all_put}
use Rattle.packing.proofs.write.fill.Goals as goal
use Rattle.packing.proofs.write.fill.Goals.{After-loop-i, After-unwrap-rest}
use lib.Dec.{ltb}

module _ (k : After-unwrap-rest) where
  abbrev coords : ℕ
  coords = k.unwrap-rest.result.coords

  abbrev comps : ℕ
  comps = k.unwrap-rest.result.comps

  found_in : Follow k.args.mesh (ltb 0 k.loop-i.i) (get_or k.args.numbers.now k.loop-i.i 0) coords comps
  found_in = rw k.unwrap-rest.ensures at k.rest.ensures

  fit : (record_fits k.args.mesh coords comps k.args.numbers.now k.loop-i.i ≡ true)
      × (length k.loop-i.invariant.bits + length (record_bits k.args.mesh coords comps k.args.numbers.now k.loop-i.i) ≤ 8 * length k.args.out.now)
  fit =
      let a = k.args in
      let l = k.loop-i in
      reached_room a.mesh a.numbers.now l.invariant.bits l.i coords comps l.invariant.reached k.loop-i-test.true found_in (length a.out.now) k.requires

  there : k.loop-i.i + (1 + coords + comps) ≤ length k.args.numbers.now
  there = (fits_parts k.args.mesh coords comps k.args.numbers.now k.loop-i.i fit.0).there

accepted : (c : After-loop-i) → packed (format_of c.args.mesh) false [] c.args.numbers.now ≡ some c.loop-i.invariant.bits
accepted c =
    reached_end c.args.mesh c.args.numbers.now c.loop-i.invariant.bits c.loop-i.i c.loop-i.invariant.reached (omega arith)

pub loop-i-init : goal.loop-i-init
loop-i-init c =
    record {
      within = omega arith;
      bits = [];
      reached = reached_start c.args.mesh c.args.numbers.now;
      are_put = put_none _ _ (omega arith);
    }

pub unwrap-rest-requires : goal.unwrap-rest-requires
unfolding Roomy
unwrap-rest-requires c =
    let a = c.args in
    let l = c.loop-i in
    rest_there a.mesh (ltb 0 l.i) (get_or a.numbers.now l.i 0) _ c.rest.ensures
    (λ e.
    subst (λ (o : Option (List ℕ)). Roomy o (length a.out.now))
    (reached_flag a.mesh a.numbers.now l.invariant.bits l.i l.invariant.reached c.loop-i-test.true e) c.requires)

pub put_record-waiting-requires-clause-fits : goal.put_record-waiting-requires-clause-fits
put_record-waiting-requires-clause-fits c = (fit (goal.at.put_record-waiting-requires-clause-fits c).After-unwrap-rest).0

pub put_record-waiting-requires-clause-room : goal.put_record-waiting-requires-clause-room
put_record-waiting-requires-clause-room c =
    let k = (goal.at.put_record-waiting-requires-clause-room c).After-unwrap-rest in
    let a = k.args in
    let l = k.loop-i in
    let p = l.invariant.are_put in
    omega (arith, (fit k).1, put_place p, put_length p, length_record a.mesh (coords k) (comps k) a.numbers.now l.i (there k))

pub loop-i-preserved : goal.loop-i-preserved
loop-i-preserved c =
    let k = (goal.at.loop-i-preserved c).After-unwrap-rest in
    let a = k.args in
    let l = k.loop-i in
    record {
      within = there k;
      bits = l.invariant.bits ++ record_bits a.mesh (coords k) (comps k) a.numbers.now l.i;
      reached = reached_more a.mesh a.numbers.now l.invariant.bits l.i (coords k) (comps k) l.invariant.reached k.loop-i-test.true (found_in k) (fit k).0;
      are_put = put_then l.invariant.are_put c.put_record-waiting.ensures;
    }

pub flush-requires : goal.flush-requires
flush-requires c =
    let p = c.loop-i.invariant.are_put in
    omega (arith, put_place p, put_length p, room_is _ _ (accepted (goal.at.flush-requires c).After-loop-i) (length c.args.out.now) c.requires)

pub returns : goal.returns
returns c =
    let l = c.loop-i in
    all_put _ l.invariant.bits (accepted (goal.at.returns c).After-loop-i) l.waiting c.flush.result c.none-waiting.ensures.at c.none-waiting.ensures.count l.invariant.are_put c.flush.ensures
