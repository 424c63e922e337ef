-- The tally as it runs: one case more. Assumes nothing.
use Rattle.std.proofs.Common.{◌≡◌, ℕ, zero, suc, ◌+◌, ◌-◌, ◌<◌, ◌≤◌, List, length, take, drop, sym, refl, ◌∙◌, arith, le-ltb, lt-ltb, length-drop}
use Rattle.std.proofs.lemmas.List.{take_rest}
use Rattle.std.specs.Prelude.{Option, Some, None}
use Rattle.replay.specs.declared.Tally.{Tally}
use Rattle.replay.specs.declared.replaying.Seen.{Seen}
use Rattle.replay.specs.declared.replaying.Replayed.{Replayed}
use Rattle.replay.specs.Cases.{replayed}
use Rattle.replay.specs.Tallies.{judged, tally_from, tally}

-- so far, with s left of the file: with the cases that s has it is the tally of all, and each case took a byte at least
pub record Counting (file s : List ℕ) (t : Tally) : Type 0 where
  pub left : ℕ
  pub enough : length s ≤ left
  pub same : tally_from left s t ≡ tally file
  pub few : t.agree + t.disagree + length s ≤ length file

pub counting_start : (file : List ℕ) → Counting file file (record { agree = 0; disagree = 0 })
counting_start file = record { left = length file; enough = omega arith; same = refl; few = omega arith }

one_more : (w : Option Seen) (t : Tally) → (judged w t).agree + (judged w t).disagree ≡ t.agree + t.disagree + 1
one_more None t = omega arith
one_more (Some seen) t = omega arith

module _ (file s : List ℕ) (t : Tally) (there : 0 < length s) where
  case_more : (r : Replayed) (k : ℕ) → Some r ≡ replayed s → 0 < r.size → r.size ≤ length s → length s ≤ k → tally_from k s t ≡ tally file
      → t.agree + t.disagree + length s ≤ length file → Counting file (take (length s - r.size) (drop r.size s)) (judged r.wrong t)
  unfolding tally_from
  case_more r zero e m w h c f = absurd (omega arith)
  case_more r (suc k) e m w h c f =
      record {
        left = k;
        enough = rw (take_rest, length-drop) (omega arith);
        same = rw take_rest (rw (lt-ltb _ _ there, ← e) at c);
        few = rw (take_rest, length-drop) (omega (arith, one_more r.wrong t));
      }

  none_more : (k : ℕ) → None ≡ replayed s → length s ≤ k → tally_from k s t ≡ tally file
      → record { agree = t.agree; disagree = t.disagree + 1 } ≡ tally file
  unfolding tally_from
  none_more zero e h c = absurd (omega arith)
  none_more (suc k) e h c = rw (lt-ltb _ _ there, ← e) at c

  module _ (c : Counting file s t) where
    pub counting_case : (r : Replayed) → Some r ≡ replayed s → 0 < r.size → r.size ≤ length s
        → Counting file (take (length s - r.size) (drop r.size s)) (judged r.wrong t)
    counting_case r e m w = case_more r c.left e m w c.enough c.same c.few

    pub counting_cut : None ≡ replayed s → record { agree = t.agree; disagree = t.disagree + 1 } ≡ tally file
    counting_cut e = none_more c.left e c.enough c.same

nothing_left : (k : ℕ) (s : List ℕ) (t : Tally) → length s ≤ 0 → tally_from k s t ≡ t
unfolding tally_from
nothing_left zero s t h = refl
nothing_left (suc k) s t h = rw (le-ltb _ _ h)

pub counting_end : (file s : List ℕ) (t : Tally) → Counting file s t → length s ≤ 0 → t ≡ tally file
counting_end file s t c h = sym (nothing_left c.left s t h) ∙ c.same
