-- What makes a file well-formed, and the listing of one that is not. Assumes nothing.
use Prim.Native.Nat.{ℕ, ◌≤◌}
use mathlib.Core.Path.{◌≡◌, refl}
use mathlib.Core.Bool.{true, false, cond, and-eq-true_iff}
use mathlib.Core.List.{List}
use borrow.Author.Tests.{le-leb, eq-eqb, leb-true, eqb-true}
use lib.ListN.{length, get_or}
use Rattle.std.proofs.Common.{Some, None}
use Rattle.answers.specs.Outcome.{number_of}
use Rattle.answers.specs.declared.Refusal.TheVariants.{File}
use Rattle.records.specs.declared.shape.Kind.{Kind}
use Rattle.msf.specs.Listing.{refused_line, listing}
use Rattle.msf.specs.File.{most_file, mark, version, components, data_at, kind_of, well_formed, answer_of, listing_of_kind, file_listing}

-- the tests of a file but that of its type
pub record Tests (s : List ℕ) : Type 0 where
  pub short : length s ≤ most_file
  pub enough : 13 ≤ length s
  pub marked : mark s ≡ 5067590
  pub first : version s ≡ 1
  pub there : data_at s ≤ length s

module _ (s : List ℕ) where
  pub passed : Tests s → well_formed s ≡ true
  unfolding well_formed
  passed t = rw (le-leb _ _ t.short, le-leb _ _ t.enough, eq-eqb _ _ t.marked, eq-eqb _ _ t.first, le-leb _ _ t.there) refl

  pub tests : well_formed s ≡ true → Tests s
  unfolding well_formed
  tests h =
      let t = simp and-eq-true_iff at h in
      record { short = leb-true _ _ t.0; enough = leb-true _ _ t.1.0; marked = eqb-true _ _ t.1.1.0; first = eqb-true _ _ t.1.1.1.0; there = leb-true _ _ t.1.1.1.1 }

  -- a file of which a test fails
  pub ill_formed : (Tests s → ⊥) → refused_line (number_of File) ≡ file_listing s
  unfolding file_listing
  ill_formed fails =
      elim (well_formed s) as (λ b. well_formed s ≡ b → refused_line (number_of File) ≡ file_listing s) [
        | true ↦ (λ e. absurd (fails (tests e)))
        | false ↦ (λ e. rw e refl)
      ] refl

  pub other_type : kind_of (get_or s 5 0) ≡ None → refused_line (number_of File) ≡ file_listing s
  unfolding file_listing listing_of_kind
  other_type k =
      elim (well_formed s) as (λ b. refused_line (number_of File) ≡ cond b (listing_of_kind (kind_of (get_or s 5 0)) s) (refused_line (number_of File))) [
        | true ↦ rw k refl
        | false ↦ refl
      ]

  pub of_kind : {kind : Kind} → well_formed s ≡ true → kind_of (get_or s 5 0) ≡ Some kind → listing kind (components s) (answer_of kind s) ≡ file_listing s
  unfolding file_listing listing_of_kind
  of_kind e k = rw (e, k) refl
