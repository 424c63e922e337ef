-- How the readings of the Type 6 and Type 7 lists go together. Of the Type 6 list the published reading is the ported one, `build6 sides`: one definition,
-- one outcome. The Type 7 list has two tables, and the table is all that differs: every call is answered alike, and where no record is joined to another
-- the numbers are the same. Assumes nothing.
use Prim.Native.Nat.{ℕ, ◌*◌, ◌+◌}
use mathlib.Core.Path.{◌≡◌, refl, sym, ap, ◌∙◌}
use mathlib.Core.Bool.{Bool, true, false}
use mathlib.Core.List.{List, [], ◌∷◌}
use mathlib.Core.Option.{Option, none, some}
use lib.Dec.{ltb}
use lib.ListN.{length}
use lib.Ieee.{Float, nan}
use Rattle.lists.specs.Lists.{All}
use Rattle.answers.specs.Limits.{most_components, most_numbers}
use Rattle.answers.specs.Outcome.{told, Outcome, refuse_if, fitted, tells}
use Rattle.std.specs.Prelude.{Ok}
use Rattle.answers.specs.declared.Refusal.TheVariants.{Components, Length, Room}
use Rattle.decode.specs.Decode.{flag_of}
use Rattle.rules.specs.Patches.{Patch, Piece, Table, sides, list_sides, mesh}
use Rattle.rules.specs.Meshes.{pieces, patches, patch_mesh}
use Rattle.rules.proofs.Patches.{mesh_more, tables_count_equal}
use Rattle.rules.proofs.Tables.{sides_fit}
use Rattle.rules.proofs.Rows.{length-patch_mesh}
use Rattle.meshes.specs.Decoded.{as_listed}
use Rattle.meshes.specs.Outcomes.{built, build7}
use Rattle.meshes.proofs.Standing.{reads_listed}

module _ (vs : List Float) (n : ℕ) where
  -- equally many patches
  pub list_counts_equal : (patch_mesh list_sides 12 as_listed n vs).count ≡ (patch_mesh sides 12 as_listed n vs).count
  unfolding patch_mesh patches
  list_counts_equal = tables_count_equal (pieces nan flag_of 12 n vs)

  -- which take equally many places
  pub list_lengths_equal : length (patch_mesh list_sides 12 as_listed n vs).numbers ≡ length (patch_mesh sides 12 as_listed n vs).numbers
  list_lengths_equal =
      let long = length-patch_mesh as_listed 2 (8 + n) n reads_listed.point_sized (reads_listed.colour_sized n) in
      long list_sides 12 sides_fit.2 vs ∙ ap (λ (k : ℕ). k * (16 * 2 + 4 * (8 + n))) list_counts_equal ∙ sym (long sides 12 sides_fit.1 vs)

  told_alike : (a b c : Bool) (needed k m : ℕ) (xs ys : List Float) → k ≡ m
      → tells (refuse_if a Components (refuse_if b Length (refuse_if c (Room needed) (Outcome.wrote k xs)))) ≡ tells (refuse_if a Components (refuse_if b Length (refuse_if c (Room needed) (Outcome.wrote m ys))))
  told_alike true b c needed k m xs ys e = refl
  told_alike false true c needed k m xs ys e = refl
  told_alike false false true needed k m xs ys e = refl
  told_alike false false false needed k m xs ys e = ap (λ (j : ℕ). told (Ok j)) e

  -- so both readings of the Type 7 list answer every call alike
  pub type7_lists_tell_alike : (room : ℕ) → tells (build7 list_sides vs n room) ≡ tells (build7 sides vs n room)
  unfolding built fitted
  type7_lists_tell_alike room =
      rw list_lengths_equal
      (told_alike (ltb most_components n) (ltb most_numbers (length vs)) (ltb room (length (patch_mesh sides 12 as_listed n vs).numbers)) _ _ _ _ _ list_counts_equal)

-- where every flag is 0, no side is taken over
new_alike : {P C : Type 0} (T U : Table) (b : Option (Patch P C)) (qs : List (Piece P C)) → All (λ (q : Piece P C). q.flag ≡ 0) qs
    → mesh T b qs ≡ mesh U b qs
unfolding mesh
new_alike T U b [] a = refl
new_alike T U b (q ∷ qs) a =
    mesh_more T b q qs q.body (rw a.0)
    ∙ ap (λ (ps : List (Patch _ _)). q.body ∷ ps) (new_alike T U (some q.body) qs a.1)
    ∙ sym (mesh_more U b q qs q.body (rw a.0))

pub type7_lists_agree_on_new_patches : (vs : List Float) (n : ℕ) → All (λ (q : Piece (List Float) (List Float)). q.flag ≡ 0) (pieces nan flag_of 12 n vs)
    → patch_mesh list_sides 12 as_listed n vs ≡ patch_mesh sides 12 as_listed n vs
unfolding patch_mesh patches
type7_lists_agree_on_new_patches vs n a = rw (new_alike list_sides sides none (pieces nan flag_of 12 n vs) a)
