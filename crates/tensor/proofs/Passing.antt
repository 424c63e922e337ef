-- The second pass over a raw list: what has been written, and where the patch before stands. Assumes nothing.
use Prim.Native.Nat.{ℕ, ◌+◌, ◌-◌, ◌*◌, ◌≤◌, ◌<◌}
use mathlib.Core.Path.{◌≡◌, refl, sym, ap, ◌∙◌, subst}
use mathlib.Core.Bool.{true, false}
use mathlib.Core.List.{List, [], ◌∷◌, ◌++◌, append_assoc}
use mathlib.Core.Option.{some}
use Rattle.std.specs.Prelude.{Option, Some, None, IsSome, IfSome}
use native.Mathlib.Omega.{arith}
use lib.IntN.{ℤ}
use lib.ListN.{length, get_or, take, drop, length-append}
use Rattle.std.proofs.lemmas.List.{drop_more, take_rest}
use Rattle.lists.specs.Lists.{flat, All}
use Rattle.lists.specs.Writing.{Written}
use Rattle.lists.proofs.Pieces.{flat_append, flat_more}
use Rattle.lists.proofs.Writing.{written_none, written_then}
use Rattle.records.specs.declared.shape.Kind.TheVariants.{Six}
use Rattle.records.specs.declared.shape.Shape.{Shape}
use Rattle.records.specs.Format.{shape_of, whole_number}
use Rattle.rules.specs.Patches.{sides, mesh}
use Rattle.rules.specs.Meshes.{pieces, size_after}
use Rattle.rules.proofs.Meshes.{Numbered, patches_numbered}
use Rattle.rules.proofs.Tables.{sides_fit}
use Rattle.rules.proofs.RawReading.{there}
use Rattle.tensor.specs.declared.raw.Coons.{Coons}
use Rattle.tensor.specs.Turning.{raw, tensor_patch, numbers_of}
use Rattle.tensor.specs.Outcomes.{whole_records}
use Rattle.tensor.specs.Inner.Standing.{Raw, patch_in, Sized, before_in, Takes, patches_of}
use Rattle.tensor.proofs.Rows.{length-row, length-rows}
use Rattle.tensor.proofs.Walk.{Followed, followed, Walk, never, walk_start, walk_end, walk_more, walk_goes}

abbrev pub row_of : Raw → List ℤ
row_of p = numbers_of (tensor_patch raw p)

-- what is written of the list, and what is left of it
pub record Pass (n : ℕ) (xs : List ℕ) (l o : List ℤ) (before : Option Coons) (at : ℕ) (rest : List ℕ) : Type 0 where
  pub done : List Raw
  pub walk : Walk n xs (before_in n before) rest done
  pub sized : IfSome before (Sized n)
  pub written : Written l o 0 (flat row_of done) at

pub pass_start : (n : ℕ) (xs : List ℕ) (l : List ℤ) → Pass n xs l l None 0 xs
unfolding flat
pass_start n xs l = record { done = []; walk = walk_start n xs; sized = tt; written = written_none l 0 (omega arith) }

-- what is left at index i: the flag there, then the numbers after it
pub flag_first : (xs : List ℕ) (i : ℕ) → i < length xs → drop i xs ≡ get_or xs i 0 ∷ take (length xs - (i + 1)) (drop (i + 1) xs)
flag_first xs i h = rw take_rest (drop_more xs i 0 h)

all_middle : {A : Type 0} (P : A → Type 0) (xs : List A) (y : A) (ys : List A) → All P (xs ++ (y ∷ ys)) → P y
all_middle P [] y ys h = h.0
all_middle P (x ∷ xs) y ys h = all_middle P xs y ys h.1

came : (n : ℕ) (before : Option Coons) → there (before_in n before) ≡ true → IsSome before
came n None e = absurd (never (sym e))
came n (Some c) e = refl

module _ {n : ℕ} {xs : List ℕ} {l o : List ℤ} {before : Option Coons} {at : ℕ} {rest : List ℕ} (p : Pass n xs l o before at rest)
    (whole : whole_records (length xs) n false xs ≡ true) {x : ℕ} {own : List ℕ} (e : rest ≡ x ∷ own) where
  -- the record is there, and its flag keeps the rule
  pub record Here : Type 0 where
    pub shape : Shape
    pub shaped : shape_of Six (there (before_in n before)) x ≡ Some shape
    pub follows : Followed n (there (before_in n before)) x shape
    pub fits : size_after 8 n x ≤ length own

  pub here : Here
  here =
      let g = walk_goes p.walk e whole in
      let f = followed n (there (before_in n before)) x g.0 g.1.0 in
      record { shape = g.0; shaped = g.1.0; follows = f; fits = rw (← f.sized) g.1.1 }

  pub joined_to : 1 ≤ x → IsSome before
  joined_to f = came n before (here.follows.begun f)

  module _ (c : Coons) (t : Takes n before x own c) where
    walked : Walk n xs (some (patch_in n c)) (drop (size_after 8 n x) own) (p.done ++ (patch_in n c ∷ []))
    walked =
        let r = here in
        subst (λ (k : ℕ). Walk n xs (some (patch_in n c)) (drop k own) (p.done ++ (patch_in n c ∷ []))) r.follows.sized
        (walk_more p.walk e r.shape r.shaped (rw r.follows.sized r.fits) (patch_in n c) t)

    pub pass_room : length (patches_of n xs) * (32 + 4 * n) ≤ length l → at + (32 + 4 * n) ≤ length l
    unfolding flat
    pass_room room =
        let q : Raw = patch_in n c in
        let later : List Raw = mesh sides (some q) (pieces 0 whole_number 8 n (drop (size_after 8 n x) own)) in
        let split : patches_of n xs ≡ p.done ++ (q ∷ later) = walked.split ∙ append_assoc p.done (q ∷ []) later in
        let all = patches_numbered 0 whole_number 8 n sides sides_fit.0 xs in
        let one = length-row raw n q (all_middle (Numbered 12 4 n) p.done q later (subst (All (Numbered 12 4 n)) split all)) in
        let parts : length (flat row_of (patches_of n xs)) ≡ length (flat row_of p.done) + (length (row_of q) + length (flat row_of later)) =
        ap (λ (ps : List Raw). length (flat row_of ps)) split
        ∙ ap length (flat_append row_of p.done (q ∷ later))
        ∙ length-append (flat row_of p.done) (row_of q ++ flat row_of later)
        ∙ ap (λ (k : ℕ). length (flat row_of p.done) + k) (length-append (row_of q) (flat row_of later)) in
        let rows = length-rows raw n (patches_of n xs) all in
        omega (arith, p.written.after)

    pub pass_next : Sized n c → {after : List ℕ} → after ≡ drop (size_after 8 n x) own
        → {o' : List ℤ} {at' : ℕ} → Written o o' at (row_of (patch_in n c)) at' → Pass n xs l o' (Some c) at' after
    pass_next sized left w =
        record {
          done = p.done ++ (patch_in n c ∷ []);
          walk = rw left walked;
          sized = sized;
          written = rw (flat_more row_of p.done (patch_in n c)) (written_then p.written w);
        }

pub pass_end : {n : ℕ} {xs : List ℕ} {l o : List ℤ} {before : Option Coons} {at : ℕ} {rest : List ℕ} → Pass n xs l o before at rest → rest ≡ []
    → Written l o 0 (flat row_of (patches_of n xs)) at
pass_end p h = rw (walk_end p.walk h).1 p.written
