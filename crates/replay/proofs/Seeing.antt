-- Calls on equal numbers are seen alike; a part of a filled list is filled; and the numbers that are read are at the front. Assumes nothing.
use Rattle.std.proofs.Common.{◌≡◌, ℕ, zero, suc, ◌/◌, ◌≤◌, min, List, ◌∷◌, length, take, replicate, refl, ap, arith}
use lib.ListN.{length-replicate}
use lib.Ieee.{Float}
use Rattle.lists.proofs.Writing.{written_take}
use Rattle.decode.specs.Inner.Reading.{with_floats}
use Rattle.decode.proofs.BigEndian.{length_floats}
use Rattle.replay.specs.declared.calls.Call.{Call}
use Rattle.replay.specs.Calls.{outcome}
use Rattle.replay.specs.Cases.{filler, numbers_of, seen_of}

module _ (call : Call) (s : List ℕ) {es es' vs vs' : List Float} (out : List Float) (room : ℕ) where
  pub seen_same : es ≡ es' → vs ≡ vs' → out ≡ replicate room filler
      → seen_of (outcome call s es vs (length out)) out ≡ seen_of (outcome call s es' vs' room) (replicate room filler)
  seen_same a b c = rw (a, b, c, length-replicate)

pub take_filled : {A : Type 0} (k m : ℕ) (x : A) → k ≤ m → take k (replicate m x) ≡ replicate k x
take_filled zero m x h = refl
take_filled (suc k) zero x h = absurd (omega arith)
take_filled {A} (suc k) (suc m) x h = ap (λ (l : List A). x ∷ l) (take_filled k m x (omega arith))

pub numbers_read : (entry : List Float) (bytes : List ℕ) → length bytes / 8 ≤ length entry
    → take (length bytes / 8) (with_floats entry bytes) ≡ numbers_of bytes
unfolding with_floats numbers_of
numbers_read entry bytes h =
    let k = length bytes / 8 in
    let e : min k (length entry) ≡ k = omega arith in
    let n = length_floats bytes 0 k in
    rw e (written_take (record { held = refl; room = omega arith; after = omega arith }))
