-- `replay::replaying::Case::read` meets its contract: each field is read at its index, and a test for each of the limits. Assumes nothing.
use Rattle.std.proofs.Common.{refl, ◌∙◌, arith}
use Rattle.decode.proofs.BigEndian.{part_there}
use Rattle.replay.specs.Cases.{call_of, stored_of, input_place, end_place, fields_of}
use Rattle.replay.proofs.Wholes.{no_header, no_function, long_input, large_room, cut_case, whole_case}
use Rattle.replay.proofs.replaying.Case.read.Goals as goal
use Rattle.replay.proofs.replaying.Case.read.Goals.{then-size-gt-MOST_INPUT-via-then-size-gt-MOST_INPUT, then-size-gt-MOST_INPUT-via-else-size-gt-MOST_INPUT+then-room-gt-MOST_ROOM}

pub returns-then-file-lt-HEADER-clause-value : goal.returns-then-file-lt-HEADER-clause-value
returns-then-file-lt-HEADER-clause-value c = no_header _ c.if-file-lt-HEADER.true

pub returns-in_err-function-clause-value : goal.returns-in_err-function-clause-value
returns-in_err-function-clause-value c = c.from_residual.ensures ∙ no_function _ c.if-file-lt-HEADER.false c.in_err-function.ensures

pub returns-then-size-gt-MOST_INPUT-clause-value : goal.returns-then-size-gt-MOST_INPUT-clause-value
returns-then-size-gt-MOST_INPUT-clause-value c =
    let s = c.args.file.now in
    let size = c.big_endian-size.ensures.value ∙ part_there s 8 10 8 2 refl refl (omega arith) (omega arith) in
    let room = c.big_endian-room.ensures.value ∙ part_there s 10 12 10 2 refl refl (omega arith) (omega arith) in
    let k = c.in_ok-function.ensures in
    elim c.then-size-gt-MOST_INPUT.branch [
      | then-size-gt-MOST_INPUT-via-then-size-gt-MOST_INPUT w ↦ long_input s c.if-file-lt-HEADER.false _ k (rw size at w.if-size-gt-MOST_INPUT.true)
      | then-size-gt-MOST_INPUT-via-else-size-gt-MOST_INPUT+then-room-gt-MOST_ROOM w ↦
          large_room s c.if-file-lt-HEADER.false _ k (rw size at w.if-size-gt-MOST_INPUT.false) (rw room at w.if-room-gt-MOST_ROOM.true)
    ]

pub returns-then-end-file-clause-value : goal.returns-then-end-file-clause-value
unfolding input_place end_place
returns-then-end-file-clause-value c =
    let s = c.args.file.now in
    let size = c.big_endian-size.ensures.value ∙ part_there s 8 10 8 2 refl refl (omega arith) (omega arith) in
    let room = c.big_endian-room.ensures.value ∙ part_there s 10 12 10 2 refl refl (omega arith) (omega arith) in
    let short = rw size at c.if-size-gt-MOST_INPUT.false in
    let small = rw room at c.if-room-gt-MOST_ROOM.false in
    cut_case s c.if-file-lt-HEADER.false _ c.in_ok-function.ensures short small
    (rw (c.byte_count.ensures, size) at c.if-end-file.true)

pub returns-clause-value : goal.returns-clause-value
unfolding call_of stored_of input_place end_place fields_of
returns-clause-value c =
    let s = c.args.file.now in
    let size = c.big_endian-size.ensures.value ∙ part_there s 8 10 8 2 refl refl (omega arith) (omega arith) in
    let room = c.big_endian-room.ensures.value ∙ part_there s 10 12 10 2 refl refl (omega arith) (omega arith) in
    let short = rw size at c.if-size-gt-MOST_INPUT.false in
    let small = rw room at c.if-room-gt-MOST_ROOM.false in
    let row = c.big_endian.ensures.value ∙ part_there s 5 7 5 2 refl refl (omega arith) (omega arith) in
    let count = c.big_endian-2.ensures.value ∙ part_there s 13 15 13 2 refl refl (omega arith) (omega arith) in
    let first = c.big_endian-3.ensures.value ∙ part_there s 15 23 15 8 refl refl (omega arith) (omega arith) in
    let second = c.big_endian-4.ensures.value ∙ part_there s 23 31 23 8 refl refl (omega arith) (omega arith) in
    rw (c.byte_count.ensures, size, room, row, count, first, second)
    (whole_case s c.if-file-lt-HEADER.false _ c.in_ok-function.ensures short small
    (rw (c.byte_count.ensures, size) at c.if-end-file.false))
