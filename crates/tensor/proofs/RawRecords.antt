-- The raw reading of bytes is whole records, which the turning never refuses. Assumes nothing.
use Prim.Native.Nat.{ℕ, zero, suc, ◌+◌, ◌*◌, ◌≤◌}
use mathlib.Core.Path.{◌≡◌, refl, ap, ◌∙◌}
use mathlib.Core.Bool.{Bool, true, false}
use mathlib.Core.List.{List, [], ◌∷◌, ◌++◌}
use mathlib.Core.Option.{Option, none, some, none-ne-some, some-injective}
use native.Mathlib.Omega.{arith}
use borrow.Author.Tests.{le-leb}
use lib.Dec.{ltb}
use lib.ListN.{length, take, drop, length-append, length-replicate}
use lib.Seq.{drop_at}
use Rattle.bits.specs.Bits.{number, stream}
use Rattle.answers.specs.declared.Refusal.{Refusal}
use Rattle.answers.specs.declared.Refusal.TheVariants.{Components, Length, Record, Room}
use Rattle.answers.specs.Limits.{most_components, most_numbers}
use Rattle.answers.specs.Outcome.{Outcome, number_of, refused, wrote, refuse_if, fitted, tells}
use Rattle.records.specs.declared.shape.Kind.TheVariants.{Six}
use Rattle.std.specs.Prelude.{Some, None}
use Rattle.records.specs.Following.{Following, follows}
use Rattle.records.specs.Format.{Format, sum, numbers, shape_of, widths_of, format, next, readings, raw_reading}
use Rattle.records.proofs.Readings.{length-numbers, next_some, readings_none, readings_some}
use Rattle.rules.specs.Patches.{Patch, sides}
use Rattle.rules.specs.Meshes.{patches}
use Rattle.tensor.specs.Turning.{Turning, raw}
use Rattle.tensor.specs.Outcomes.{turned, whole_records, coons_to_tensor_raw}

module _ (n : ℕ) where
  pub records_none : (k : ℕ) (started : Bool) → whole_records k n started [] ≡ true
  unfolding whole_records
  records_none zero started = refl
  records_none (suc k) started = refl

  records_more : (k : ℕ) (started : Bool) (x coords colours : ℕ) (ns rest : List ℕ) → shape_of Six started x ≡ follows coords colours
      → length ns ≡ coords + colours * n → whole_records (suc k) n started (x ∷ (ns ++ rest)) ≡ whole_records k n true rest
  unfolding whole_records
  records_more k started x coords colours ns rest e l =
      let all : coords + colours * n ≤ length (ns ++ rest) = rw length-append (omega arith) in
      rw (e, whole_records, le-leb _ _ all, drop_at ns rest (coords + colours * n) l)

  module _ (first coord comp : ℕ) where
    abbrev F : Format
    F = format Six first coord comp n

    record_more : (fuel : ℕ) (started : Bool) (x : ℕ) (ws ns rest : List ℕ) → F.more started x ≡ some ws → length ns ≡ length ws
        → length (x ∷ (ns ++ rest)) ≤ fuel → ((m : ℕ) → length rest ≤ m → whole_records m n true rest ≡ true)
        → whole_records fuel n started (x ∷ (ns ++ rest)) ≡ true
    record_more zero started x ws ns rest e l h ih = absurd (omega arith)
    record_more (suc fuel) started x ws ns rest e l h ih = go (shape_of Six started x) refl e
      where
        go : (s : Following) → shape_of Six started x ≡ s → widths_of coord comp n s ≡ some ws → whole_records (suc fuel) n started (x ∷ (ns ++ rest)) ≡ true
        go (Some shape) q e =
            let coords : ℕ = shape.coords in
            let colours : ℕ = shape.colours in
            let size : length ws ≡ coords + colours * n = rw (← some-injective _ ws e) (simp (length-append, length-replicate)) in
            records_more fuel started x coords colours ns rest q (l ∙ size) ∙ ih fuel (omega (arith, length-append ns rest))
        go None q e = absurd (none-ne-some ws e)

    -- any bound that is no less than the length will do
    readings_whole : (k fuel : ℕ) (started : Bool) (b : List ℕ) → length (readings F k started b) ≤ fuel
        → whole_records fuel n started (readings F k started b) ≡ true
    unfolding readings numbers
    readings_whole zero fuel started b h = records_none fuel started
    readings_whole (suc k) fuel started b h = go (next F started b) refl (λ c m. readings_whole k m true c)
      where
        go : (o : Option (List ℕ)) → next F started b ≡ o
            → ((c : List ℕ) (m : ℕ) → length (readings F k true c) ≤ m → whole_records m n true (readings F k true c) ≡ true)
            → whole_records fuel n started (readings F (suc k) started b) ≡ true
        go none e ih = rw (readings_none F (suc k) started b e) (records_none fuel started)
        go (some vs) e ih =
            let r = next_some F started b vs e in
            let ns : List ℕ = numbers r.0 (drop first b) in
            let c : List ℕ = drop (sum (first ∷ r.0)) b in
            let on = readings_some F k started b (first ∷ r.0) (e ∙ ap some r.2) in
            rw on
            (record_more fuel started (number (take first b)) r.0 ns (readings F k true c) r.1 (length-numbers r.0 (drop first b)) (rw on at h) (ih c))

-- ---- whole records aren't refused as RECORD, whose number is 5

module _ {B : Type 0} where
  otherwise : (t : Bool) (r : Refusal) (o : Outcome B) → (number_of r ≡ 5 → ⊥) → ((tells o).refused ≡ 5 → ⊥)
      → (tells (refuse_if t r o)).refused ≡ 5 → ⊥
  otherwise true r o h g e = h e
  otherwise false r o h g e = g e

  fitted_otherwise : (count : ℕ) (xs : List B) (room : ℕ) → (tells (fitted count xs room)).refused ≡ 5 → ⊥
  unfolding fitted
  fitted_otherwise count xs room = otherwise (ltb room (length xs)) (Room (length xs)) (wrote count xs) (λ z. omega arith) (λ z. omega arith)

  pub whole_accepted : {A : Type 0} (T : Turning A B) (n size : ℕ) (ps : List (Patch (List A) (List A))) (room : ℕ)
      → turned T n size true ps room ≡ refused Record → ⊥
  unfolding turned
  whole_accepted T n size ps room e =
      otherwise (ltb most_components n) Components _ (λ z. omega arith)
      (otherwise (ltb most_numbers size) Length _ (λ z. omega arith) (fitted_otherwise (length ps) _ room))
      (ap (λ (o : Outcome B). (tells o).refused) e)

-- ---- the raw reading of any bytes

module _ (first coord comp n : ℕ) (s : List ℕ) where
  abbrev pub reading : List ℕ
  reading = raw_reading (format Six first coord comp n) s

  pub reading_is_records : whole_records (length reading) n false reading ≡ true
  unfolding raw_reading
  reading_is_records = readings_whole n first coord comp (length (stream s)) (length reading) false (stream s) (omega arith)

  pub never_refused_for_records : (room : ℕ) → coons_to_tensor_raw n reading room ≡ refused Record → ⊥
  unfolding coons_to_tensor_raw
  never_refused_for_records room e =
      whole_accepted raw n (length reading) (patches 0 sides (λ x. x) 8 n reading) room (rw reading_is_records at e)
