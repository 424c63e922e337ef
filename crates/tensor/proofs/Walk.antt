-- A walk over the records of a raw list: what each step adds, and where it ends. Assumes nothing.
use Prim.Native.Nat.{ℕ, zero, suc, ◌+◌, ◌*◌, ◌≤◌, ◌<◌}
use mathlib.Core.Path.{◌≡◌, refl, sym, ap, ◌∙◌}
use mathlib.Core.Bool.{Bool, true, false, cond, ◌&&◌}
use mathlib.Core.List.{List, [], ◌∷◌, ◌++◌, append_assoc, append-nil}
use mathlib.Core.Option.{Option, none, some}
use native.Mathlib.Omega.{arith}
use borrow.Author.Tests.{le-leb, lt-leb, lt-ltb, leb-true, leb-false}
use lib.Dec.{leb, ltb, eqb-suc-zero}
use lib.ListN.{length, drop, length-drop, length-append}
use Rattle.std.specs.Prelude.{Some, None}
use Rattle.records.specs.declared.shape.Kind.TheVariants.{Six}
use Rattle.records.specs.declared.shape.Shape.{Shape}
use Rattle.records.specs.Following.{Following, follows}
use Rattle.records.specs.Format.{shape_of, widths_of, whole_number}
use Rattle.rules.specs.Patches.{sides, patch_of, mesh}
use Rattle.rules.specs.Meshes.{piece, pieces, patches, size_after}
use Rattle.rules.proofs.Patches.{mesh_more}
use Rattle.rules.proofs.Meshes.{pieces_none, pieces_more}
use Rattle.rules.proofs.RawReading.{there, more_gives}
use Rattle.tensor.specs.Outcomes.{whole_records}
use Rattle.tensor.specs.Inner.Standing.{Raw, patches_of, count_of}
use Rattle.tensor.proofs.RawRecords.{records_none}

pub never : true ≡ false → ⊥
never e = let z : ◌≡◌ {A = ℕ} 1 0 = ap (λ (b : Bool). cond b 1 0) e in omega arith

-- ---- what a flag tells

-- how many numbers a shape has
abbrev pub size_of : ℕ → Shape → ℕ
size_of n s = s.coords + s.colours * n

-- a record with the flag x follows, of that shape
pub record Followed (n : ℕ) (started : Bool) (x : ℕ) (s : Shape) : Type 0 where
  pub sized : size_of n s ≡ size_after 8 n x
  pub few : x ≤ 3
  pub begun : 1 ≤ x → started ≡ true

abbrev size_in : ℕ → Following → ℕ
size_in n (Some s) = suc (size_of n s)
size_in n None = 0

pub followed : (n : ℕ) (started : Bool) (x : ℕ) (s : Shape) → shape_of Six started x ≡ Some s → Followed n started x s
followed n started zero s e =
    let k : suc (24 + 4 * n) ≡ suc (size_of n s) = ap (size_in n) e in
    record { sized = omega arith; few = omega arith; begun = λ h. absurd (omega arith) }
followed n started (suc f) s e = go started refl (leb (suc f) 3) refl (rw (eqb-suc-zero f) at e)
  where
    go : (t : Bool) → started ≡ t → (u : Bool) → leb (suc f) 3 ≡ u → cond (t && u) (follows 16 2) None ≡ Some s → Followed n started (suc f) s
    go true p true q e =
        let k : suc (16 + 2 * n) ≡ suc (size_of n s) = ap (size_in n) e in
        record { sized = omega arith; few = leb-true (suc f) 3 q; begun = λ h. p }
    go true p false q e = absurd (cc)
    go false p u q e = absurd (cc)

-- ---- the walk

-- whether a list is whole records, by its first record
abbrev whole_by : ℕ → ℕ → List ℕ → Following → Bool
whole_by n k xs (Some s) = leb (size_of n s) (length xs) && whole_records k n true (drop (size_of n s) xs)
whole_by n k xs None = false

whole_by_lem : (n k : ℕ) (started : Bool) (x : ℕ) (xs : List ℕ) (s : Following) → shape_of Six started x ≡ s
    → whole_records (suc k) n started (x ∷ xs) ≡ whole_by n k xs s
unfolding whole_records
whole_by_lem n k started x xs (Some s) e = rw (e, whole_records)
whole_by_lem n k started x xs None e = rw (e, whole_records)

-- the patches done, then those of the records in `rest`, which are whole exactly if all are
pub record Walk (n : ℕ) (xs : List ℕ) (b : Option Raw) (rest : List ℕ) (done : List Raw) : Type 0 where
  pub fuel : ℕ
  pub enough : length rest ≤ fuel
  pub begun : ltb 0 (length done) ≡ there b
  pub split : patches_of n xs ≡ done ++ mesh sides b (pieces 0 whole_number 8 n rest)
  pub whole : whole_records (length xs) n false xs ≡ whole_records fuel n (there b) rest

pub walk_start : (n : ℕ) (xs : List ℕ) → Walk n xs none xs []
unfolding patches
walk_start n xs = record { fuel = length xs; enough = omega arith; begun = refl; split = refl; whole = refl }

module _ {n : ℕ} {xs : List ℕ} {b : Option Raw} {rest : List ℕ} {done : List Raw} (w : Walk n xs b rest done) where
  pub walk_end : rest ≡ [] → (whole_records (length xs) n false xs ≡ true) × (patches_of n xs ≡ done)
  unfolding mesh
  walk_end nothing = (
    w.whole ∙ rw nothing (records_none n w.fuel (there b)),
    w.split ∙ rw (nothing, pieces_none 0 8 n whole_number) (append-nil done),
  )

  -- a record with the flag x, and the numbers after it
  module _ {x : ℕ} {own : List ℕ} (e : rest ≡ x ∷ own) where
    -- the whole list by this record
    here : (s : Following) → shape_of Six (there b) x ≡ s
        → (k : ℕ) × ((length own ≤ k) × (whole_records (length xs) n false xs ≡ whole_by n k own s))
    here s f = go w.fuel (rw e at w.enough) (rw e at w.whole)
      where
        go : (k : ℕ) → suc (length own) ≤ k → whole_records (length xs) n false xs ≡ whole_records k n (there b) (x ∷ own)
            → (k : ℕ) × ((length own ≤ k) × (whole_records (length xs) n false xs ≡ whole_by n k own s))
        go zero l r = absurd (omega arith)
        go (suc k) l r = (k, (omega arith, r ∙ whole_by_lem n k (there b) x own s f))

    pub walk_ends : shape_of Six (there b) x ≡ None → whole_records (length xs) n false xs ≡ false
    walk_ends f = (here None f).1.1

    -- a record of this shape
    module _ (s : Shape) (shaped : shape_of Six (there b) x ≡ Some s) where
      pub walk_cut : length own < size_of n s → whole_records (length xs) n false xs ≡ false
      walk_cut short = (here (Some s) shaped).1.1 ∙ rw (lt-leb _ _ short)

      -- it makes the patch p
      pub walk_more : size_of n s ≤ length own → (p : Raw) → patch_of sides b x (piece 0 8 n x own).body ≡ some p
          → Walk n xs (some p) (drop (size_of n s) own) (done ++ (p ∷ []))
      walk_more all p made =
          let f = followed n (there b) x s shaped in
          let l = here (Some s) shaped in
          record {
            fuel = l.0;
            enough = rw length-drop (omega (arith, l.1.0));
            begun = lt-ltb 0 (length (done ++ (p ∷ []))) (rw length-append (omega arith));
            split =
                w.split
                ∙ ap (λ (ys : List ℕ). done ++ mesh sides b (pieces 0 whole_number 8 n ys)) e
                ∙ ap (λ (qs : List _). done ++ mesh sides b qs) (pieces_more 0 8 n whole_number x own (rw (← f.sized) all))
                ∙ ap (λ (ps : List Raw). done ++ ps) (mesh_more sides b (piece 0 8 n x own) (pieces 0 whole_number 8 n (drop (size_after 8 n x) own)) p made)
                ∙ ap (λ (k : ℕ). done ++ (p ∷ mesh sides (some p) (pieces 0 whole_number 8 n (drop k own)))) (sym f.sized)
                ∙ sym (append_assoc done (p ∷ []) (mesh sides (some p) (pieces 0 whole_number 8 n (drop (size_of n s) own))));
            whole = l.1.1 ∙ rw (le-leb _ _ all);
          }

      -- it makes some patch
      pub walk_makes : (p : Raw) × (patch_of sides b x (piece 0 8 n x own).body ≡ some p)
      walk_makes = more_gives whole_number 8 0 0 0 n b x (piece 0 8 n x own).body _ (ap (widths_of 0 0 n) shaped)

    -- where the whole list is accepted, so is this record
    pub walk_goes : whole_records (length xs) n false xs ≡ true
        → (s : Shape) × ((shape_of Six (there b) x ≡ Some s) × (size_of n s ≤ length own))
    walk_goes a = go (shape_of Six (there b) x) refl
      where
        go : (o : Following) → shape_of Six (there b) x ≡ o → (s : Shape) × ((shape_of Six (there b) x ≡ Some s) × (size_of n s ≤ length own))
        go None f = absurd (never (sym a ∙ walk_ends f))
        go (Some s) f = fits (leb (size_of n s) (length own)) refl
          where
            fits : (t : Bool) → leb (size_of n s) (length own) ≡ t → (s : Shape) × ((shape_of Six (there b) x ≡ Some s) × (size_of n s ≤ length own))
            fits true q = (s, (f, leb-true _ _ q))
            fits false q = absurd (never (sym a ∙ walk_cut s f (leb-false _ _ q)))

-- ---- what the first pass tells

module _ (n : ℕ) (xs : List ℕ) where
  pub count_broken : whole_records (length xs) n false xs ≡ false → None ≡ count_of (whole_records (length xs) n false xs) (length (patches_of n xs))
  count_broken e = rw e refl

  pub count_all : (done : List Raw) (count : ℕ) → (whole_records (length xs) n false xs ≡ true) × (patches_of n xs ≡ done) → length done ≡ count
      → Some count ≡ count_of (whole_records (length xs) n false xs) (length (patches_of n xs))
  count_all done count e l = rw (e.0, e.1, l) refl

pub told_broken : (whole : Bool) (count : ℕ) → count_of whole count ≡ None → whole ≡ false
told_broken true count e = absurd (cc)
told_broken false count e = refl

pub told_patches : (whole : Bool) (count told : ℕ) → count_of whole count ≡ Some told → (whole ≡ true) × (told ≡ count)
told_patches true count told e = (refl, cc)
told_patches false count told e = absurd (cc)
