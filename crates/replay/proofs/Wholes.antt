-- Where a whole case stands, and where none does. Assumes nothing.
use Rattle.std.proofs.Common.{◌≡◌, ℕ, ◌<◌, ◌≤◌, List, length, get_or, le-leb}
use Rattle.std.specs.Prelude.{Some, None}
use borrow.Author.Tests.{lt-leb}
use Rattle.replay.specs.declared.calls.Function.{Function}
use Rattle.replay.specs.Calls.{function_of}
use Rattle.replay.specs.Cases.{input_of, room_of, end_place, is_whole, fields_of, case_of}

module _ (s : List ℕ) where
  pub no_header : length s < 31 → None ≡ case_of s
  unfolding case_of
  no_header h = rw (lt-leb _ _ h)

  module _ (headed : 31 ≤ length s) where
    pub no_function : None ≡ function_of (get_or s 0 0) → None ≡ case_of s
    unfolding case_of
    no_function e = rw (le-leb _ _ headed, ← e)

    module _ (f : Function) (known : Some f ≡ function_of (get_or s 0 0)) where
      pub long_input : 1024 < input_of s → None ≡ case_of s
      unfolding case_of is_whole
      long_input h = rw (le-leb _ _ headed, ← known, lt-leb _ _ h)

      module _ (short : input_of s ≤ 1024) where
        pub large_room : 4096 < room_of s → None ≡ case_of s
        unfolding case_of is_whole
        large_room h = rw (le-leb _ _ headed, ← known, le-leb _ _ short, lt-leb _ _ h)

        module _ (small : room_of s ≤ 4096) where
          pub cut_case : length s < end_place f s → None ≡ case_of s
          unfolding case_of is_whole
          cut_case h = rw (le-leb _ _ headed, ← known, le-leb _ _ short, le-leb _ _ small, lt-leb _ _ h)

          pub whole_case : end_place f s ≤ length s → Some (fields_of f s) ≡ case_of s
          unfolding case_of is_whole
          whole_case h = rw (le-leb _ _ headed, ← known, le-leb _ _ short, le-leb _ _ small, le-leb _ _ h)
