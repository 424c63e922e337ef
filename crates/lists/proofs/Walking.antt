-- A walk that writes a whole list piece by piece, where the data decide each piece's length. Assumes nothing.
use Prim.Native.Nat.{ℕ, ◌+◌, ◌≤◌}
use mathlib.Core.Path.{◌≡◌, refl, ap}
use mathlib.Core.List.{List, [], ◌++◌, append_assoc, append-nil}
use native.Mathlib.Omega.{arith}
use lib.ListN.{length, length-append}
use Rattle.lists.specs.Writing.{Written}
use Rattle.lists.proofs.Writing.{written_length, written_none, written_then}

-- of the list whole, what stands before rest has been written to the front of the output
pub record Going {A : Type 0} (whole entry exit : List A) (p : ℕ) (rest : List A) : Type 0 where
  pub done : List A
  pub split : whole ≡ done ++ rest
  pub written : Written entry exit 0 done p

module _ {A : Type 0} where
  pub going_start : (whole l : List A) → Going whole l l 0 whole
  going_start whole l = record { done = []; split = refl; written = written_none l 0 (omega arith) }

  pub going_room : {whole l o : List A} {p : ℕ} (xs rest : List A) → Going whole l o p (xs ++ rest) → length whole ≤ length l → p + length xs ≤ length o
  going_room {whole} {l} {o} {p} xs rest g h =
      let w = g.written in
      let e = written_length w in
      omega (arith, simp length-append at (ap length g.split))

  pub going_step : {whole l o o' : List A} {p q : ℕ} (xs rest : List A) → Going whole l o p (xs ++ rest) → Written o o' p xs q → Going whole l o' q rest
  going_step xs rest g w = record { done = g.done ++ xs; split = rw append_assoc g.split; written = written_then g.written w }

  pub going_end : {whole l o : List A} {p : ℕ} → Going whole l o p [] → Written l o 0 whole p
  going_end g = rw (g.split, append-nil) g.written
