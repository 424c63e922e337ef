-- The records from a place on, and the walk that counts their numbers. Assumes nothing.
use Prim.Native.Nat.{ℕ, ◌+◌, ◌*◌, ◌≤◌}
use mathlib.Core.Path.{◌≡◌, refl, ap, ◌∙◌}
use mathlib.Core.Bool.{Bool, true, false, not}
use borrow.Author.Tests.{le-ltb}
use lib.Dec.{ltb}
use mathlib.Core.List.{List, [], ◌∷◌, ◌++◌}
use mathlib.Core.Option.{none}
use native.Mathlib.Omega.{arith}
use lib.ListN.{length, drop, length-append, length-drop}
use lib.Seq.{drop-drop}
use Rattle.bits.specs.Bits.{stream}
use Rattle.answers.specs.declared.Refusal.{Refusal}
use Rattle.answers.specs.declared.Refusal.TheVariants.{Layout, Components}
use Rattle.answers.specs.Limits.{most_components}
use Rattle.answers.specs.Outcome.{Outcome, refused, wrote, refuse_if}
use Rattle.records.specs.declared.shape.Kind.{Kind}
use Rattle.records.specs.declared.mesh.Mesh.{Mesh}
use Rattle.records.specs.Layout.{widths_readable}
use Rattle.records.specs.Format.{sum, format, next, readings, raw_reading}
use Rattle.records.specs.Inner.Walk.{tested, Passed, format_of, numbers_at, widths_after, Standing}
use Rattle.records.proofs.Readings.{length-numbers, readings_none, readings_on}
use Rattle.records.proofs.Finding.{sum-after, length-after}

-- ---- the tests of LAYOUT and COMPONENTS

module _ (first coord comp n : ℕ) where
  -- a refusal of theirs is the call's
  pub refused_by : {r : Refusal} → tested first coord comp n (wrote 0 []) ≡ refused r → (o : Outcome ℕ) → tested first coord comp n o ≡ refused r
  unfolding tested
  refused_by e o = go (widths_readable first coord comp) (ltb most_components n) e
    where
      go : {r : Refusal} (t u : Bool) → ◌≡◌ {A = Outcome ℕ} (refuse_if (not t) Layout (refuse_if u Components (wrote 0 []))) (refused r)
          → ◌≡◌ {A = Outcome ℕ} (refuse_if (not t) Layout (refuse_if u Components o)) (refused r)
      go false u q = q
      go true true q = q
      go true false q = absurd (let z : ◌≡◌ {A = ℕ} 0 1 = cc q in omega arith)

  -- past them the call goes on
  pub gone_on : widths_readable first coord comp ≡ true → n ≤ most_components → (o : Outcome ℕ) → tested first coord comp n o ≡ o
  unfolding tested
  gone_on e few o = rw (e, le-ltb most_components n few)

-- the mesh that is made has the records of its type and widths
pub same_format : {kind : Kind} {first coord comp n : ℕ} {m : Mesh} → Passed kind first coord comp n m → format_of m ≡ format kind first coord comp n
same_format p = rw (p.kind_is, p.first_is, p.coord_is, p.comp_is, p.n_is) refl

-- ---- one record

pub length_record : (m : Mesh) (s : List ℕ) (p coords comps : ℕ) → length (numbers_at s p (m.first ∷ widths_after m coords comps)) ≡ 1 + coords + comps
unfolding numbers_at
length_record m s p coords comps =
    omega (arith, length-numbers (m.first ∷ widths_after m coords comps) (drop p (stream s)), length-after m coords comps)

-- ---- the records from a place on

unfoldable pub rest_at : Mesh → List ℕ → Bool → ℕ → List ℕ
rest_at m s started p = readings (format_of m) (length (stream s)) started (drop p (stream s))

pub rest_start : (m : Mesh) (s : List ℕ) → raw_reading (format_of m) s ≡ rest_at m s false 0
unfolding rest_at raw_reading
rest_start m s = refl

pub rest_none : (m : Mesh) (s : List ℕ) (started : Bool) (p : ℕ) → next (format_of m) started (drop p (stream s)) ≡ none
    → rest_at m s started p ≡ []
unfolding rest_at
rest_none m s started p e = readings_none (format_of m) (length (stream s)) started (drop p (stream s)) e

pub rest_record : {m : Mesh} {s : List ℕ} {started : Bool} {p coords comps end : ℕ} → Standing m s started p coords comps end
    → rest_at m s started p ≡ numbers_at s p (m.first ∷ widths_after m coords comps) ++ rest_at m s true end
unfolding rest_at numbers_at sum
rest_record {m} {s} {started} {p} {coords} {comps} {end} st =
    let few : length (drop p (stream s)) ≤ length (stream s) = rw length-drop (omega arith) in
    let e : p + (m.first + sum (widths_after m coords comps)) ≡ end = omega (arith, st.ends, sum-after m coords comps) in
    readings_on (format_of m) (length (stream s)) started (drop p (stream s)) (m.first ∷ widths_after m coords comps) m.first_some few st.widths
    ∙ rw (drop-drop, e)

-- ---- counting

-- at a place, with so many numbers before it
pub record Counting (m : Mesh) (s : List ℕ) (count at : ℕ) (started : Bool) : Type 0 where
  pub within : at ≤ 8 * length s
  pub few : count ≤ 161 * at
  pub total : length (raw_reading (format_of m) s) ≡ count + length (rest_at m s started at)

pub count_start : (m : Mesh) (s : List ℕ) → Counting m s 0 0 false
count_start m s = record { within = omega arith; few = omega arith; total = rw rest_start (omega arith) }

module _ {m : Mesh} {s : List ℕ} {started : Bool} {at count : ℕ} (w : Counting m s count at started) where
  pub count_end : next (format_of m) started (drop at (stream s)) ≡ none → count ≡ length (raw_reading (format_of m) s)
  count_end e = omega (arith, w.total, ap length (rest_none m s started at e))

  pub count_step : {coords comps end : ℕ} → coords ≤ 32 → comps ≤ 128 → Standing m s started at coords comps end
      → Counting m s (count + (1 + coords + comps)) end true
  count_step {coords} {comps} {end} f g st =
      record {
        within = st.whole;
        few = omega (arith, w.few, st.ends, m.first_some);
        total =
            omega (
              arith,
              w.total,
              ap length (rest_record st),
              length-append (numbers_at s at (m.first ∷ widths_after m coords comps)) (rest_at m s true end),
              length_record m s at coords comps,
            );
      }
