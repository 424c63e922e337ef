-- What a read of a number that is there answers; and the numbers of a list, which are parts of it. Assumes nothing.
use Prim.Native.Nat.{ℕ, zero, suc, ◌+◌, ◌*◌, ◌≤◌}
use mathlib.Core.Path.{◌≡◌, refl, sym, ap, ◌∙◌}
use mathlib.Core.List.{List, [], ◌∷◌}
use native.Mathlib.Nat.{mul-one}
use native.Mathlib.Omega.{arith}
use lib.ListN.{length, get_or}
use lib.Ieee.{Float, nan}
use Rattle.std.specs.Prelude.{Option, Some}
use Rattle.std.specs.Borrow.{Bor}
use Rattle.lists.specs.Lists.{joined, part}
use Rattle.lists.proofs.Pieces.{joined_same, part_then}
use Rattle.lists.proofs.Parts.{part_of_two}
use Rattle.answers.specs.Limits.{most_bytes}
use Rattle.bits.specs.declared.BitPos.{BitPos}
use Rattle.bits.specs.Bits.{field_at}
use Rattle.bits.specs.Reading.{read_at}
use Rattle.bits.proofs.Answers.{answer_number}
use Rattle.colour.specs.Inner.Places.{list_numbers, point_at, components_at, points_at}
use Rattle.rows.specs.declared.Source.TheVariants.{List as Listed}
use Rattle.rows.specs.declared.Input.{Input}

pub number_there : (s : List ℕ) (p w : ℕ) {r : Option (ℕ × BitPos)} → r ≡ read_at s p w → 1 ≤ w → w ≤ 32 → length s ≤ most_bytes → p + w ≤ 8 * length s
    → r ≡ Some (field_at s p w, record { 0 = p + w })
number_there s p w e some few short there = e ∙ sym (answer_number s p w some few there (omega arith))

module _ (vs : List Float) where
  pub point_of_list : (p : ℕ) → point_at (list_numbers vs) 1 p ≡ get_or vs p nan ∷ get_or vs (p + 1) nan ∷ []
  unfolding point_at list_numbers
  point_of_list p = refl

  pub components_of_list : (n p : ℕ) → components_at (list_numbers vs) 1 n p ≡ part nan vs p n
  unfolding components_at list_numbers part
  components_of_list n p = joined_same n _ _ (λ j b. ap (λ (k : ℕ). get_or vs (p + k) nan ∷ []) (mul-one j))

  pub points_of_list : (k p : ℕ) → points_at (list_numbers vs) 1 k p ≡ part nan vs p (2 * k)
  unfolding points_at joined part
  points_of_list zero p = refl
  points_of_list (suc k) p =
      let e : 2 * suc k ≡ 2 * k + 2 = omega arith in
      let q : p + k * (2 * 1) ≡ p + 2 * k = omega arith in
      rw (e, part_then nan vs p (2 * k) 2, part_of_two, ← (points_of_list k p), q, point_of_list (p + 2 * k))

-- in a list each number takes one place
module _ (I : Input) {vs : Bor (List Float)} (e : I.source ≡ Listed vs) where
  pub coord_one : I.layout.coord ≡ 1
  coord_one = rw e at I.coord_there

  pub comp_one : I.layout.comp ≡ 1
  comp_one = rw e at I.comp_there
