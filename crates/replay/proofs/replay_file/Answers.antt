-- `replay::replay_file` meets its contract: each case moves on and is counted, and there are no more cases than bytes. Assumes nothing.
use Rattle.std.proofs.Common.{◌<◌, length, rules}
use Rattle.replay.proofs.Tallying.{counting_case, counting_cut, counting_end}
use Rattle.replay.proofs.replay_file.Goals as goal

pub returns-in_default : goal.returns-in_default
returns-in_default g c = counting_cut _ _ _ (search rules) c.loop-rest.invariant (search rules)

pub loop-rest-preserved-in-None : goal.loop-rest-preserved-in-None
loop-rest-preserved-in-None g c =
    let l = c.loop-rest in
    let r = c.in-Some in
    let there : 0 < length l.rest.now = search rules in
    rw c.in-None.is at (counting_case _ _ _ there l.invariant r.field-0 r.ensures.value r.ensures.moves r.ensures.within)

pub loop-rest-preserved : goal.loop-rest-preserved
loop-rest-preserved g c =
    let l = c.loop-rest in
    let r = c.in-Some in
    let there : 0 < length l.rest.now = search rules in
    rw c.in-Some-wrong.is at (counting_case _ _ _ there l.invariant r.field-0 r.ensures.value r.ensures.moves r.ensures.within)

pub returns : goal.returns
returns g c = counting_end _ _ _ c.loop-rest.invariant (search rules)
