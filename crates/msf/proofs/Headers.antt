-- A header decides the answer and the listing as its file does. Assumes nothing.
use Prim.Native.Nat.{ℕ, zero, suc, ◌+◌, ◌*◌, ◌/◌, ◌≤◌, ◌<◌, min}
use mathlib.Core.Path.{◌≡◌, refl, ap, ap₂, ◌∙◌}
use mathlib.Core.Bool.{Bool, true, false, cond}
use mathlib.Core.List.{List, [], ◌∷◌}
use native.Mathlib.Omega.{arith}
use lib.Dec.{eqb}
use lib.ListN.{length, get_or, take, drop, length-drop}
use lib.Seq.{length-take-le, get_or-take, get_or-drop}
use lib.Ieee.{Float, binary64, of_bits}
use Rattle.std.specs.Prelude.{Option, Some, Result, Ok}
use Rattle.std.specs.Result.{result_ok}
use Rattle.lists.specs.Writing.{Written}
use Rattle.lists.proofs.Pieces.{joined_same}
use Rattle.lists.proofs.Writing.{written_take}
use Rattle.decode.specs.Stored.{big_endian, floats_at}
use Rattle.decode.specs.Inner.Reading.{with_floats}
use Rattle.decode.proofs.BigEndian.{length_floats}
use Rattle.records.specs.Kinds.{kind_numbered}
use Rattle.records.specs.declared.shape.Kind.{Kind}
use Rattle.records.specs.declared.shape.Kind.TheVariants.{Four, Five, Six, Seven}
use Rattle.records.specs.declared.shape.UnknownKind.{UnknownKind}
use Rattle.msf.specs.declared.header.Header.{Header}
use Rattle.msf.specs.File.{entries, entry_count, kind_of, answer_of, file_listing}
use Rattle.msf.specs.Listing.{listing}
use Rattle.msf.specs.Inner.Headers.{Heads, entries_of, answer_to}
use Rattle.msf.proofs.WellFormed.{of_kind, tests}

-- the same bytes make the same number
same_number : (p s : List ℕ) (a b k : ℕ) → ((j : ℕ) → j < k → get_or p (a + j) 0 ≡ get_or s (b + j) 0) → big_endian p a k ≡ big_endian s b k
unfolding big_endian
same_number p s a b zero h = refl
same_number p s a b (suc k) h = ap₂ (λ (x y : ℕ). 256 * x + y) (same_number p s a b k (λ j l. h j (omega arith))) (h k (omega arith))

-- the floats of a part of a list
floats_of_part : (s : List ℕ) (at k : ℕ) → floats_at (take (8 * k) (drop at s)) 0 k ≡ floats_at s at k
unfolding floats_at
floats_of_part s at k =
    joined_same k _ _
    (λ i l. ap (λ (v : ℕ). of_bits binary64 v ∷ [])
    (same_number (take (8 * k) (drop at s)) s (0 + 8 * i) (at + 8 * i) 8
    (λ j b. get_or-take (8 * k) (drop at s) (0 + 8 * i + j) 0 (omega arith) ∙ get_or-drop at s (0 + 8 * i + j) 0 ∙ ap (λ (m : ℕ). get_or s m 0) (omega arith))))

-- the entries that were read
pub floats_read : (entry : List Float) (s : List ℕ) {exit : List Float} → length s / 8 ≤ length entry → exit ≡ with_floats entry s
    → take (length s / 8) exit ≡ floats_at s 0 (length s / 8)
unfolding with_floats
floats_read entry s {exit} h e =
    let m : min (length s / 8) (length entry) ≡ length s / 8 = omega arith in
    let n = length_floats s 0 (length s / 8) in
    let w : Written entry exit 0 (floats_at s 0 (length s / 8)) (length s / 8) = record { held = rw m at e; room = omega (arith, n); after = omega (arith, n) } in
    written_take w

-- the type's kind, as it is read
select : (b : Bool) (kind : Kind) (o : Option Kind) (r : Result Kind UnknownKind) → o ≡ result_ok r → cond b (Some kind) o ≡ result_ok (cond b (Ok kind) r)
select true kind o r e = refl
select false kind o r e = e

pub kind_read : (t : ℕ) → kind_of t ≡ result_ok (kind_numbered t)
unfolding kind_of
kind_read t = select (eqb t 4) Four _ _ (select (eqb t 5) Five _ _ (select (eqb t 6) Six _ _ (select (eqb t 7) Seven _ _ refl)))

module _ {s : List ℕ} {h : Header} (w : Heads s h) where
  entries_read : entries_of h ≡ entries s
  entries_read =
      let t = tests s w.is_file in
      let k = entry_count s in
      let long : length (take (8 * k) (drop 13 s)) ≡ 8 * k = length-take-le (8 * k) (drop 13 s) (rw length-drop (omega arith)) in
      let count : 8 * k / 8 ≡ k = omega arith in
      rw (w.its_entries, long, count) (floats_of_part s 13 k)

  answer_read : answer_to h ≡ answer_of h.kind s
  unfolding answer_to answer_of
  answer_read = rw (entries_read, w.its_coord, w.its_comp, w.its_flag, w.its_components, w.its_row, w.its_data) refl

  pub listing_read : listing h.kind h.components (answer_to h) ≡ file_listing s
  listing_read = rw (answer_read, w.its_components) (of_kind s w.is_file w.its_kind)
