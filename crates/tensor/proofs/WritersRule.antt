-- Which raw lists are whole records is the raw writer's own rule, at widths that hold every number. Assumes nothing.
use Prim.Native.Nat.{ℕ, zero, suc, ◌+◌, ◌*◌, ◌^◌, ◌≤◌, ◌<◌}
use mathlib.Core.Path.{◌≡◌, refl, ◌∙◌}
use mathlib.Core.Bool.{Bool, true, false, ◌&&◌}
use mathlib.Core.List.{List, [], ◌∷◌, ◌++◌}
use mathlib.Core.Option.{Option, none, some}
use native.Mathlib.Omega.{arith}
use borrow.Author.Tests.{lt-ltb, le-leb, lt-leb}
use lib.Dec.{leb, leb-suc-suc}
use lib.ListN.{length, drop, replicate, length-append, length-drop, length-replicate}
use Rattle.lists.specs.Lists.{All, AllBelow}
use Rattle.lists.proofs.Members.{all_append, all_drop, all_replicate}
use Rattle.bits.specs.Bits.{bits_of}
use Rattle.records.specs.declared.shape.Kind.TheVariants.{Six}
use Rattle.std.specs.Prelude.{Some, None}
use Rattle.records.specs.Following.{Following}
use Rattle.records.specs.Format.{Format, shape_of, format}
use Rattle.packing.specs.Packed.{prefixed, field, packed}
use Rattle.rules.proofs.RawReading.{there}
use Rattle.tensor.specs.Outcomes.{whole_records}

abbrev Held : ℕ → Type 0
Held x = x < 2 ^ 32

abbrev Widest : ℕ → Type 0
Widest w = w ≡ 32

there_prefixed : (b : List ℕ) (o : Option (List ℕ)) → there (prefixed b o) ≡ there o
there_prefixed b none = refl
there_prefixed b (some r) = refl

there_field : (w x : ℕ) (o : Option (List ℕ)) → Widest w → Held x → there (field w x o) ≡ there o
unfolding field
there_field w x o e h = rw (e, lt-ltb x (2 ^ 32) h) (there_prefixed (bits_of 32 x) o)

module _ (n : ℕ) where
  abbrev F : Format
  F = format Six 32 32 32 n

  -- the numbers that a record still wants
  there_due : (started : Bool) (ws xs : List ℕ) → All Widest ws → All Held xs
      → there (packed F started ws xs) ≡ (leb (length ws) (length xs) && there (packed F started [] (drop (length ws) xs)))
  unfolding packed
  there_due started [] xs a b = rw (le-leb 0 (length xs) (omega arith))
  there_due started (w ∷ ws) [] a b = rw (lt-leb (suc (length ws)) 0 (omega arith))
  there_due started (w ∷ ws) (x ∷ xs) a b =
      there_field w x (packed F started ws xs) a.0 b.0 ∙ there_due started ws xs a.1 b.1
      ∙ rw (leb-suc-suc (length ws) (length xs))

  rule : (k : ℕ) (started : Bool) (xs : List ℕ) → length xs ≤ k → All Held xs → there (packed F started [] xs) ≡ whole_records k n started xs
  unfolding packed whole_records
  rule zero started [] h a = refl
  rule zero started (x ∷ xs) h a = absurd (omega arith)
  rule (suc k) started [] h a = refl
  rule (suc k) started (x ∷ xs) h a = go (shape_of Six started x) refl (rule k true)
    where
      go : (s : Following) → shape_of Six started x ≡ s
          → ((ys : List ℕ) → length ys ≤ k → All Held ys → there (packed F true [] ys) ≡ whole_records k n true ys)
          → there (packed F started [] (x ∷ xs)) ≡ whole_records (suc k) n started (x ∷ xs)
      go (Some shape) e ih =
          let coords : ℕ = shape.coords in
          let colours : ℕ = shape.colours in
          let size : ℕ = coords + colours * n in
          let due : List ℕ = replicate coords 32 ++ replicate (colours * n) 32 in
          let long : length due ≡ size = simp (length-append, length-replicate) in
          let widest : All Widest due = all_append Widest (replicate coords 32) _ (all_replicate Widest coords 32 refl) (all_replicate Widest (colours * n) 32 refl) in
          let short : length (drop size xs) ≤ k = rw length-drop (omega arith) in
          rw (e, packed, whole_records)
          (there_field 32 x (packed F true due xs) refl a.0
          ∙ there_due true due xs widest a.1
          ∙ rw (long, ih (drop size xs) short (all_drop Held size xs a.1)))
      go None e ih = rw (e, packed, whole_records)

  -- the writer accepts exactly the whole records
  pub writers_rule : (xs : List ℕ) → AllBelow (2 ^ 32) xs → there (packed (format Six 32 32 32 n) false [] xs) ≡ whole_records (length xs) n false xs
  writers_rule xs a = rule (length xs) false xs (omega arith) a
