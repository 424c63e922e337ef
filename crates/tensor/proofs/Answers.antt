-- The answers of the public functions, for any way of turning. Assumes nothing.
use Prim.Native.Nat.{ℕ, ◌+◌, ◌*◌, ◌≤◌, ◌<◌}
use mathlib.Core.Path.{◌≡◌, sym, ap, ◌∙◌}
use mathlib.Core.Bool.{Bool, true, false}
use mathlib.Core.List.{List}
use native.Mathlib.Nat.{mul-le-mul}
use native.Mathlib.Omega.{arith}
use borrow.Author.Tests.{lt-ltb, le-ltb, eq-eqb, ne_eqb}
use lib.Dec.{eqb}
use lib.ListN.{length}
use Rattle.lists.specs.Lists.{flat, All}
use Rattle.lists.specs.Writing.{put, Written}
use Rattle.answers.specs.declared.Refusal.TheVariants.{Components, Length, Record, Room}
use Rattle.std.specs.Prelude.{Ok, Err}
use Rattle.answers.specs.Limits.{most_components, most_numbers}
use Rattle.answers.specs.Outcome.{Done}
use Rattle.answers.proofs.Outcomes.{was_refused, no_room_for, all_written}
use Rattle.rules.specs.Patches.{Patch}
use Rattle.rules.proofs.Meshes.{Numbered}
use Rattle.tensor.specs.Turning.{Turning, tensor_patch, numbers_of}
use Rattle.tensor.specs.Outcomes.{turned}
use Rattle.tensor.proofs.Rows.{length-rows}

-- the code's test of a remainder
pub some_left : (rest : ℕ) → 0 < rest → eqb rest 0 ≡ false
some_left rest h = ne_eqb rest 0 (λ e. omega arith)

pub none_left : (rest : ℕ) → rest ≤ 0 → eqb rest 0 ≡ true
none_left rest h = eq-eqb rest 0 (omega arith)

-- what no more patches than numbers need, at 32 components
pub few_places : (count row : ℕ) → count ≤ most_numbers → row ≤ 192 → count * row ≤ most_numbers * 192
few_places count row h g = mul-le-mul h g

module _ {A B : Type 0} (T : Turning A B) (n size : ℕ) (whole : Bool) (ps : List (Patch (List A) (List A))) (l : List B) where
  pub many_components : most_components < n → Done (turned T n size whole ps (length l)) l (Err Components) l
  unfolding turned
  many_components h = simp (lt-ltb _ _ h) was_refused

  module _ (few : n ≤ most_components) where
    pub many_numbers : most_numbers < size → Done (turned T n size whole ps (length l)) l (Err Length) l
    unfolding turned
    many_numbers h = simp (le-ltb _ _ few, lt-ltb _ _ h) was_refused

    module _ (short : size ≤ most_numbers) where
      pub not_whole : whole ≡ false → Done (turned T n size whole ps (length l)) l (Err Record) l
      unfolding turned
      not_whole e = simp (le-ltb _ _ few, le-ltb _ _ short, e) was_refused

      module _ (is_whole : whole ≡ true) where
        -- m numbers to a colour, and row to a patch
        pub small_output : (m row : ℕ) {count : ℕ} → row ≡ 32 + 4 * m → All (Numbered 12 4 m) ps → count ≡ length ps
            → length l < count * row → Done (turned T n size whole ps (length l)) l (Err (Room (count * row))) l
        unfolding turned
        small_output m row r all e h =
            simp (le-ltb _ _ few, le-ltb _ _ short, is_whole)
            (no_room_for (length ps) (flat (λ p. numbers_of (tensor_patch T p)) ps) row (length-rows T m ps all ∙ ap (λ (k : ℕ). length ps * k) (sym r)) e h)

        pub wrote_all : (m row : ℕ) {count : ℕ} {o : List B} → row ≡ 32 + 4 * m → All (Numbered 12 4 m) ps → count ≡ length ps
            → count * row ≤ length l → o ≡ put l 0 (flat (λ p. numbers_of (tensor_patch T p)) ps)
            → Done (turned T n size whole ps (length l)) l (Ok count) o
        unfolding turned
        wrote_all m row {count} {o} r all e h w =
            let rows : List B = flat (λ p. numbers_of (tensor_patch T p)) ps in
            let long : length rows ≡ count * row =
            length-rows T m ps all ∙ ap (λ (k : ℕ). length ps * k) (sym r) ∙ ap (λ (k : ℕ). k * row) (sym e) in
            let written : Written l o 0 rows (length rows) = record { held = w; room = omega arith; after = omega arith } in
            simp (le-ltb _ _ few, le-ltb _ _ short, is_whole) (all_written e written)
