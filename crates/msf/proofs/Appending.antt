-- Texts that grow: by nothing, by a list after another, by a copy; and the output that a text was written to. Assumes nothing.
use Prim.Native.Nat.{ℕ, ◌+◌, ◌≤◌}
use mathlib.Core.Path.{◌≡◌, refl, ◌∙◌}
use mathlib.Core.List.{List, [], ◌++◌}
use lib.ListN.{length}
use lib.Seq.{drop-drop}
use borrow.Rule.Slice.PartMut.{put_mid}
use Rattle.lists.specs.Writing.{put, Written}
use Rattle.lists.proofs.Writing.{written_none, written_then}
use Rattle.msf.specs.declared.text.Text.{Text}
use Rattle.msf.specs.Inner.Appending.{Appends}

pub appends_none : (t : Text) → t.at ≤ length t.out.now → Appends t t []
appends_none t h = record { same_output = refl; same_length = refl; written = written_none t.out.now t.at h }

pub appends_then : {a b c : Text} {xs ys : List ℕ} → Appends a b xs → Appends b c ys → Appends a c (xs ++ ys)
appends_then v w = record {
  same_output = w.same_output ∙ v.same_output;
  same_length = w.same_length ∙ v.same_length;
  written = written_then v.written w.written;
}

-- k elements from index at have been overwritten by ys, a copy of xs
pub copied : {A : Type 0} (l : List A) (at k : ℕ) (xs ys : List A) → ys ≡ xs → k ≡ length xs → at + length xs ≤ length l
    → Written l (put_mid at k l ys) at xs (at + length xs)
unfolding put
copied l at k xs ys e n h = record { held = rw (e, n, drop-drop) refl; room = h; after = refl }
