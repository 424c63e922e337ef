-- A stored case, by the format at the top of src/main.rt, and what replaying it comes to. The bytes s begin with it.
use Rattle.std.specs.Prelude.{ℕ, ◌+◌, ◌*◌, ◌/◌, Bool, cond, not, ◌&&◌, List, length, slice_index, slice_range, replicate, ◌==◌, from_bits, nat_le, Float, Option, Some, None, option_map, option_and_then}
use Rattle.std.specs.Bool.{then_some}
use Rattle.std.specs.Float.{binary64}
use Rattle.answers.specs.Outcome.{Outcome, tells, leaves}
use Rattle.decode.specs.Stored.{big_endian, floats_at}
use Rattle.replay.specs.declared.calls.Function.{Function}
use Rattle.replay.specs.declared.calls.Call.{Call}
use Rattle.replay.specs.declared.replaying.Seen.{Seen}
use Rattle.replay.specs.declared.replaying.Case.{Case}
use Rattle.replay.specs.declared.replaying.Replayed.{Replayed}
use Rattle.replay.specs.Digest.{digest}
use Rattle.replay.specs.Calls.{function_of, bytes_of, outcome}

-- ---- the case

-- the call, once its function is known
unfoldable pub call_of : Function → List ℕ → Call
call_of f s =
    record {
      function = f;
      coord = slice_index s 1;
      comp = slice_index s 2;
      flag = slice_index s 3;
      n = slice_index s 4;
      row = big_endian s 5 2;
    }

abbrev pub entries_of : List ℕ → ℕ
entries_of s = slice_index s 7

abbrev pub input_of : List ℕ → ℕ
input_of s = big_endian s 8 2

abbrev pub room_of : List ℕ → ℕ
room_of s = big_endian s 10 2

-- the answer that is stored
unfoldable pub stored_of : List ℕ → Seen
stored_of s =
    record {
      told = record { refused = slice_index s 12; count = big_endian s 13 2 };
      sums = record { first = big_endian s 15 8; second = big_endian s 23 8 };
    }

-- the indices of the input and of what follows the case
unfoldable pub input_place : List ℕ → ℕ
input_place s = 31 + 8 * entries_of s

unfoldable pub end_place : Function → List ℕ → ℕ
end_place f s = input_place s + bytes_of f (input_of s)

-- there is all of it, within the limits
unfoldable pub is_whole : Function → List ℕ → Bool
is_whole f s =
    nat_le (input_of s) 1024
    && (nat_le (room_of s) 4096
    && nat_le (end_place f s) (length s))

unfoldable pub fields_of : Function → List ℕ → Case
fields_of f s =
    record {
      call = call_of f s;
      input = input_place s;
      end = end_place f s;
      room = room_of s;
      stored = stored_of s;
    }

-- a whole case, of a known function, within the limits
unfoldable pub case_of : List ℕ → Option Case
case_of s =
    cond (nat_le 31 (length s))
    (option_and_then (λ (f : Function). cond (is_whole f s) (Some (fields_of f s)) None) (function_of (slice_index s 0)))
    None

-- ---- what replaying it comes to

-- -7.25, which fills the output before the call
abbrev pub filler : Float
filler = from_bits binary64 13843220829606772736

-- what is seen of an outcome, where the output held entry
unfoldable pub seen_of : Outcome Float → List Float → Seen
seen_of o entry = record { told = tells o; sums = digest (leaves o entry) }

-- the numbers of a list, 8 bytes each
unfoldable pub numbers_of : List ℕ → List Float
numbers_of bytes = floats_at bytes 0 (length bytes / 8)

-- the outcome of the stored call; its input is given as bytes, which a reader takes, and as numbers, which a builder takes
unfoldable pub outcome_at : Case → List ℕ → Outcome Float
outcome_at c s =
    outcome c.call
    (slice_range s c.input c.end)
    (numbers_of (slice_range s 31 c.input))
    (numbers_of (slice_range s c.input c.end))
    c.room

unfoldable pub seen_at : Case → List ℕ → Seen
seen_at c s = seen_of (outcome_at c s) (replicate c.room filler)

-- the same answer and the same sums
unfoldable pub is_same : Seen → Seen → Bool
is_same a b =
    (a.told.refused == b.told.refused && a.told.count == b.told.count)
    && (a.sums.first == b.sums.first && a.sums.second == b.sums.second)

-- what was seen, where it isn't what is stored
unfoldable pub wrong_of : Seen → Seen → Option Seen
wrong_of seen stored = then_some (not (is_same seen stored)) seen

unfoldable pub replayed : List ℕ → Option Replayed
replayed s = option_map (λ (c : Case). record { size = c.end; wrong = wrong_of (seen_at c s) c.stored }) (case_of s)
