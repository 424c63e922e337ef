-- A pass over a list, record by record: it goes on, it stops, or it comes to the end. Assumes nothing.
use mathlib.Core.Path.{◌≡◌, refl, sym, ap, ◌∙◌}
use mathlib.Core.Bool.{Bool, true, false}
use mathlib.Core.List.{List, [], ◌++◌, append-nil}
use mathlib.Core.Option.{Option, none, some}
use Prim.Native.Nat.{ℕ, ◌+◌, ◌*◌, ◌≤◌, ◌<◌}
use native.Mathlib.Omega.{arith}
use lib.Dec.{ltb}
use borrow.Author.Tests.{lt-ltb}
use lib.ListN.{length, get_or, drop, length-append}
use lib.Seq.{drop-length}
use Rattle.bits.proofs.Digits.{length-bits}
use Rattle.records.specs.declared.mesh.Mesh.{Mesh}
use Rattle.records.specs.Following.{ends}
use Rattle.records.specs.Format.{shape_of}
use Rattle.records.proofs.Finding.{follow_more, end_more}
use Rattle.packing.specs.Packed.{prefixed, packed}
use Rattle.records.specs.Inner.Walk.{format_of, Follow, record_size}
use Rattle.packing.specs.Inner.Passes.{record_fits, record_bits, Roomy}
use Rattle.packing.proofs.Runs.{length_run, length-run_bits}
use Rattle.packing.proofs.Records.{prefixed_nothing, prefixed_twice, guarded, packed_ends, packed_record}

-- the records before index i are whole, and have the bits b
abbrev pub Reached : Mesh → List ℕ → ℕ → List ℕ → Type 0
Reached m xs i b = packed (format_of m) false [] xs ≡ prefixed b (packed (format_of m) (ltb 0 i) [] (drop i xs))

pub reached_start : (m : Mesh) (xs : List ℕ) → Reached m xs 0 []
reached_start m xs = prefixed_nothing (packed (format_of m) false [] xs)

pub reached_end : (m : Mesh) (xs b : List ℕ) (i : ℕ) → Reached m xs i b → i ≡ length xs → packed (format_of m) false [] xs ≡ some b
unfolding packed
reached_end m xs b i r e =
    r ∙ ap (λ (l : List ℕ). prefixed b (packed (format_of m) (ltb 0 i) [] l)) (ap (λ (k : ℕ). drop k xs) e ∙ drop-length xs) ∙ ap some (append-nil b)

-- the list has a flag at which the mesh ends
pub reached_flag : (m : Mesh) (xs b : List ℕ) (i : ℕ) → Reached m xs i b → i < length xs → shape_of m.kind (ltb 0 i) (get_or xs i 0) ≡ ends → packed (format_of m) false [] xs ≡ none
reached_flag m xs b i r h e = r ∙ ap (prefixed b) (packed_ends (format_of m) (ltb 0 i) xs i h (end_more m (ltb 0 i) (get_or xs i 0) e))

-- where bits have room together, so have the first of them
room_for : (t : Bool) (a b : List ℕ) (o : Option (List ℕ)) (room : ℕ) → Roomy (prefixed a (guarded t b o)) room
    → (t ≡ true) × (length a + length b ≤ 8 * room)
unfolding Roomy
room_for true a b none room q = absurd q
room_for true a b (some r) room q = (refl, omega (arith, q, length-append a (b ++ r), length-append b r))
room_for false a b o room q = absurd q

module _ (m : Mesh) (xs b : List ℕ) (i coords comps : ℕ) (r : Reached m xs i b) (h : i < length xs) (e : Follow m (ltb 0 i) (get_or xs i 0) coords comps) where
  abbrev next : ℕ
  next = i + (1 + coords + comps)

  abbrev rest : Option (List ℕ)
  rest = packed (format_of m) true [] (drop next xs)

  -- what the list comes to with the record
  reached_record : packed (format_of m) false [] xs ≡ prefixed b (guarded (record_fits m coords comps xs i) (record_bits m coords comps xs i) rest)
  reached_record = r ∙ ap (prefixed b) (packed_record m (ltb 0 i) coords comps xs i h (follow_more e))

  pub reached_unfit : record_fits m coords comps xs i ≡ false → packed (format_of m) false [] xs ≡ none
  reached_unfit f = rw f at reached_record

  pub reached_more : record_fits m coords comps xs i ≡ true → Reached m xs next (b ++ record_bits m coords comps xs i)
  reached_more f =
      (rw f at reached_record)
      ∙ prefixed_twice b (record_bits m coords comps xs i) rest
      ∙ ap (λ (t : Bool). prefixed (b ++ record_bits m coords comps xs i) (packed (format_of m) t [] (drop next xs))) (sym (lt-ltb 0 next (omega arith)))

  -- in a list that is accepted and has room, the record fits and has room
  pub reached_room : (room : ℕ) → Roomy (packed (format_of m) false [] xs) room
      → (record_fits m coords comps xs i ≡ true) × (length b + length (record_bits m coords comps xs i) ≤ 8 * room)
  reached_room room q = room_for _ b (record_bits m coords comps xs i) rest room (rw reached_record at q)

-- how many bits a record takes
pub length_record : (m : Mesh) (coords comps : ℕ) (xs : List ℕ) (i : ℕ) → i + (1 + coords + comps) ≤ length xs
    → length (record_bits m coords comps xs i) ≡ record_size m coords comps
length_record m coords comps xs i h =
    simp (length-append, length-bits, length-run_bits, length_run xs (i + 1) coords (omega arith), length_run xs (i + 1 + coords) comps (omega arith)) (omega arith)
