-- From what the two passes find to the answer and the output. Assumes nothing.
use mathlib.Core.Path.{◌≡◌, refl, sym, ap, ◌∙◌, subst, subst⁻¹}
use mathlib.Core.List.{List, ◌++◌}
use mathlib.Core.Option.{Option, none, some}
use Prim.Native.Nat.{ℕ, ◌*◌, ◌≤◌, ◌<◌}
use native.Mathlib.Nat.{zero-add}
use native.Mathlib.Omega.{arith}
use lib.ListN.{length}
use Rattle.lists.specs.Writing.{Written}
use Rattle.lists.proofs.Writing.{written_then}
use Rattle.answers.specs.declared.Refusal.TheVariants.{Room, Record}
use Rattle.std.specs.Prelude.{Ok, Err, Some, None}
use Rattle.answers.specs.Outcome.{Done}
use Rattle.answers.proofs.Outcomes.{was_refused, no_room, all_written}
use Rattle.bits.specs.Bits.{bits_of, stream}
use Rattle.packing.specs.declared.waiting.Waiting.{Waiting}
use Rattle.packing.specs.Packed.{byte_count, bytes}
use Rattle.packing.specs.Writer.{in_bytes}
use Rattle.packing.specs.Inner.Passes.{measure_of, Roomy, Filled, Put}
use Rattle.packing.proofs.Filling.{length-bytes, bytes_after}

-- ---- what the first pass found

pub measured_unfit : (o : Option (List ℕ)) → measure_of o ≡ None → o ≡ none
unfolding measure_of
measured_unfit none e = refl
measured_unfit (some bits) e = cc

pub measured_bits : (o : Option (List ℕ)) (total : ℕ) → measure_of o ≡ Some total → (bits : List ℕ) × (o ≡ some bits) × (length bits ≡ total)
unfolding measure_of
measured_bits none total e = absurd (let z : ◌≡◌ {A = ℕ} 0 1 = cc in omega arith)
measured_bits (some bits) total e = (bits, refl, cc)

-- ---- how the call ends

module _ (o : Option (List ℕ)) where
  pub not_accepted : (entry : List ℕ) → o ≡ none → Done (in_bytes o (length entry)) entry (Err Record) entry
  unfolding in_bytes
  not_accepted entry e = rw e was_refused

  module _ (bits : List ℕ) (e : o ≡ some bits) where
    pub without_room : (entry : List ℕ) {size : ℕ} → byte_count (length bits) ≡ size → length entry < size
        → Done (in_bytes o (length entry)) entry (Err (Room size)) entry
    unfolding in_bytes
    without_room entry z h = rw e (no_room (length (bytes bits)) (bytes bits) (length-bytes bits ∙ z) h)

    pub has_room : (room : ℕ) → byte_count (length bits) ≤ room → Roomy o room
    unfolding Roomy
    has_room room h = subst⁻¹ (λ (x : Option (List ℕ)). Roomy x room) e (omega arith)

    pub room_is : (room : ℕ) → Roomy o room → length bits ≤ 8 * room
    unfolding Roomy
    room_is room h = subst (λ (x : Option (List ℕ)). Roomy x room) e h

    pub all_put : {entry mid exit : List ℕ} {start : Waiting} (w : Waiting) (p : ℕ) → start.at ≡ 0 → start.count ≡ 0 → Put start w entry mid bits
        → Written mid exit w.at (bytes (bits_of w.count w.bits)) p → Filled o entry exit p
    unfolding Filled bits_of
    all_put {entry} {mid} {exit} w p no_bytes no_bits f g =
        let all : stream f.bytes ++ bits_of w.count w.bits ≡ bits = rw no_bits at f.same in
        let same : bytes bits ≡ f.bytes ++ bytes (bits_of w.count w.bits) = ap bytes (sym all) ∙ bytes_after f.bytes (bits_of w.count w.bits) f.clean in
        rw (e, same) (written_then (rw no_bytes at f.written) g)

    pub filled : {entry exit : List ℕ} {p : ℕ} → Filled o entry exit p → Done (in_bytes o (length entry)) entry (Ok p) exit
    unfolding Filled in_bytes
    filled {entry} {exit} {p} f =
        let all : Written entry exit 0 (bytes bits) p = rw e at f in
        rw e (all_written (all.after ∙ zero-add (length (bytes bits))) all)
