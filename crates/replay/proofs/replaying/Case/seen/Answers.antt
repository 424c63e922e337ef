-- `replay::replaying::Case::seen` meets its contract: the call finds the case's own numbers, and the output is filled. Assumes nothing.
use Rattle.std.proofs.Common.{◌≤◌, length, take, replicate, ◌∙◌, arith, length-take, length-drop}
use Rattle.std.specs.Prelude.{slice_range}
use lib.Ieee.{of_bits, neg}
use Rattle.decode.specs.Floats.{float0}
use Rattle.replay.specs.Cases.{filler, numbers_of, outcome_at, seen_at}
use Rattle.replay.proofs.Seeing.{seen_same, take_filled, numbers_read}
use Rattle.replay.proofs.replaying.Case.seen.Goals as goal

pub returns : goal.returns
unfolding seen_at outcome_at numbers_of of_bits neg
returns c =
    let case = c.args.self in
    let s = c.args.file.now in
    let entries = slice_range s 31 case.input in
    let input = slice_range s case.input case.end in
    let few_entries : length entries ≤ 2048 = simp (length-take, length-drop) (omega arith) in
    let few_bytes : length input ≤ 8192 = simp (length-take, length-drop) (omega arith) in
    c.seen_of.ensures
    ∙ seen_same case.call input (take case.room (replicate 4096 filler)) case.room
    (rw c.read_floats.ensures (numbers_read (replicate 256 float0) entries (omega arith)))
    (rw c.read_floats-2.ensures (numbers_read (replicate 1024 float0) input (omega arith)))
    (take_filled case.room 4096 filler c.requires.room)
