-- The bits of a list, record by record: how a pass over the list goes on, and where it stops. Assumes nothing.
use mathlib.Core.Path.{◌≡◌, refl, sym, ap, ◌∙◌}
use mathlib.Core.Bool.{Bool, true, false, ◌&&◌, cond}
use mathlib.Core.List.{List, [], ◌∷◌, ◌++◌, append_assoc, append-nil}
use mathlib.Core.Option.{Option, none, some}
use Prim.Native.Nat.{ℕ, suc, ◌+◌, ◌^◌, ◌≤◌, ◌<◌}
use native.Mathlib.Numerals.{add-one}
use native.Mathlib.Omega.{arith}
use lib.Dec.{leb, ltb}
use borrow.Author.Tests.{leb-true, leb-false, ltb-true}
use lib.ListN.{length, get_or, drop, replicate, length-drop, take-append-drop}
use lib.Seq.{drop-cons, drop-drop}
use Rattle.lists.specs.Lists.{flat}
use Rattle.bits.specs.Bits.{bits_of}
use Rattle.records.specs.Format.{Format}
use Rattle.records.specs.declared.mesh.Mesh.{Mesh}
use Rattle.packing.specs.Packed.{prefixed, field, packed}
use Rattle.records.specs.Inner.Walk.{format_of, widths_after}
use Rattle.packing.specs.Inner.Passes.{run_at, fits, run_bits, record_fits, record_bits}
use Rattle.records.proofs.Finding.{length-after}
use Rattle.packing.proofs.Runs.{and_left, and_right, length_run}

-- bits before the rest, if a test holds
abbrev pub guarded : Bool → List ℕ → Option (List ℕ) → Option (List ℕ)
guarded test b rest = cond test (prefixed b rest) none

pub prefixed_nothing : (o : Option (List ℕ)) → o ≡ prefixed [] o
prefixed_nothing none = refl
prefixed_nothing (some r) = refl

pub prefixed_twice : (a b : List ℕ) (o : Option (List ℕ)) → prefixed a (prefixed b o) ≡ prefixed (a ++ b) o
prefixed_twice a b none = refl
prefixed_twice a b (some r) = ap some (sym (append_assoc a b r))

guarded_then : (s t : Bool) (a b : List ℕ) (o : Option (List ℕ)) → guarded s a (guarded t b o) ≡ guarded (s && t) (a ++ b) o
guarded_then true true a b o = prefixed_twice a b o
guarded_then true false a b o = refl
guarded_then false t a b o = refl

guarded_none : (t : Bool) (b : List ℕ) → guarded t b none ≡ none
guarded_none true b = refl
guarded_none false b = refl

-- ---- a run, and a list that ends too early

module _ (F : Format) (started : Bool) where
  packed_run : (w : ℕ) (ys due zs : List ℕ)
      → packed F started (replicate (length ys) w ++ due) (ys ++ zs) ≡ guarded (fits w ys) (run_bits w ys) (packed F started due zs)
  unfolding packed field fits flat
  packed_run w [] due zs = prefixed_nothing (packed F started due zs)
  packed_run w (y ∷ ys) due zs =
      rw (packed_run w ys due zs) (guarded_then (ltb y (2 ^ w)) (fits w ys) (bits_of w y) (run_bits w ys) (packed F started due zs))

  -- two runs, at the end of a record
  packed_runs : (v w : ℕ) (ys zs rest : List ℕ)
      → packed F started (replicate (length ys) v ++ replicate (length zs) w) (ys ++ (zs ++ rest))
      ≡ guarded (fits v ys && fits w zs) (run_bits v ys ++ run_bits w zs) (packed F started [] rest)
  packed_runs v w ys zs rest =
      packed_run v ys (replicate (length zs) w) (zs ++ rest)
      ∙ ap (guarded (fits v ys) (run_bits v ys))
      (ap (λ (due : List ℕ). packed F started due (zs ++ rest)) (sym (append-nil (replicate (length zs) w))) ∙ packed_run w zs [] rest)
      ∙ guarded_then (fits v ys) (fits w zs) (run_bits v ys) (run_bits w zs) (packed F started [] rest)

  packed_short : (due xs : List ℕ) → length xs < length due → packed F started due xs ≡ none
  unfolding packed field
  packed_short [] xs h = absurd (omega arith)
  packed_short (w ∷ due) [] h = refl
  packed_short (w ∷ due) (x ∷ xs) h = rw (packed_short due xs (omega arith)) (guarded_none (ltb x (2 ^ w)) (bits_of w x))

  packed_first : (x : ℕ) (xs due : List ℕ) → F.more started x ≡ some due
      → packed F started [] (x ∷ xs) ≡ guarded (ltb x (2 ^ F.first)) (bits_of F.first x) (packed F true due xs)
  unfolding packed field
  packed_first x xs due e = rw (e, packed)

  pub packed_ends : (xs : List ℕ) (i : ℕ) → i < length xs → F.more started (get_or xs i 0) ≡ none → packed F started [] (drop i xs) ≡ none
  unfolding packed
  packed_ends xs i h e = rw (drop-cons xs i 0 h, e, packed)

-- ---- a record at an index of a list

rest_of_record : (xs : List ℕ) (i coords comps : ℕ)
    → drop (suc i) xs ≡ run_at xs (i + 1) coords ++ (run_at xs (i + 1 + coords) comps ++ drop (i + (1 + coords + comps)) xs)
rest_of_record xs i coords comps =
    let e : i + (1 + coords + comps) ≡ i + 1 + coords + comps = omega arith in
    rw (e, ← drop-drop comps (i + 1 + coords) xs, take-append-drop comps, ← drop-drop coords (i + 1) xs, take-append-drop coords, add-one)

module _ (m : Mesh) (started : Bool) (coords comps : ℕ) (xs : List ℕ) (i : ℕ) (h : i < length xs)
    (e : (format_of m).more started (get_or xs i 0) ≡ some (widths_after m coords comps)) where
  -- the bits of a list from a record on
  pub packed_record : packed (format_of m) started [] (drop i xs)
      ≡ guarded (record_fits m coords comps xs i) (record_bits m coords comps xs i) (packed (format_of m) true [] (drop (i + (1 + coords + comps)) xs))
  packed_record =
      ap (packed (format_of m) started []) (drop-cons xs i 0 h)
      ∙ packed_first (format_of m) started (get_or xs i 0) (drop (suc i) xs) due e
      ∙ by_length (leb (i + (1 + coords + comps)) (length xs)) refl
    where
      due : List ℕ
      due = widths_after m coords comps

      ys : List ℕ
      ys = run_at xs (i + 1) coords

      zs : List ℕ
      zs = run_at xs (i + 1 + coords) comps

      rest : List ℕ
      rest = drop (i + (1 + coords + comps)) xs

      first : Bool
      first = ltb (get_or xs i 0) (2 ^ m.first)

      runs : Bool
      runs = fits m.coord ys && fits m.comp zs

      there : i + (1 + coords + comps) ≤ length xs
          → packed (format_of m) true due (drop (suc i) xs) ≡ guarded runs (run_bits m.coord ys ++ run_bits m.comp zs) (packed (format_of m) true [] rest)
      there l =
          let ly : length ys ≡ coords = length_run xs (i + 1) coords (omega arith) in
          let lz : length zs ≡ comps = length_run xs (i + 1 + coords) comps (omega arith) in
          ap (packed (format_of m) true due) (rest_of_record xs i coords comps)
          ∙ (rw (ly, lz) at (packed_runs (format_of m) true m.coord m.comp ys zs rest))

      by_length : (t : Bool) → leb (i + (1 + coords + comps)) (length xs) ≡ t
          → guarded first (bits_of m.first (get_or xs i 0)) (packed (format_of m) true due (drop (suc i) xs))
          ≡ guarded (t && (first && runs)) (record_bits m coords comps xs i) (packed (format_of m) true [] rest)
      by_length true q =
          ap (guarded first (bits_of m.first (get_or xs i 0))) (there (leb-true _ _ q))
          ∙ guarded_then first runs (bits_of m.first (get_or xs i 0)) (run_bits m.coord ys ++ run_bits m.comp zs) (packed (format_of m) true [] rest)
      by_length false q =
          let l : length xs < i + (1 + coords + comps) = leb-false _ _ q in
          let k : length due ≡ coords + comps = length-after m coords comps in
          ap (guarded first (bits_of m.first (get_or xs i 0))) (packed_short (format_of m) true due (drop (suc i) xs) (rw (length-drop, k) (omega arith)))
          ∙ guarded_none first (bits_of m.first (get_or xs i 0))

-- ---- the parts of a record's test

pub record Parts (m : Mesh) (coords comps : ℕ) (xs : List ℕ) (i : ℕ) : Type 0 where
  pub there : i + (1 + coords + comps) ≤ length xs
  pub first : get_or xs i 0 < 2 ^ m.first
  pub coords_fit : fits m.coord (run_at xs (i + 1) coords) ≡ true
  pub comps_fit : fits m.comp (run_at xs (i + 1 + coords) comps) ≡ true

pub fits_parts : (m : Mesh) (coords comps : ℕ) (xs : List ℕ) (i : ℕ) → record_fits m coords comps xs i ≡ true → Parts m coords comps xs i
fits_parts m coords comps xs i e =
    let first = ltb (get_or xs i 0) (2 ^ m.first) in
    let ys = fits m.coord (run_at xs (i + 1) coords) in
    let zs = fits m.comp (run_at xs (i + 1 + coords) comps) in
    let rest = and_right (leb (i + (1 + coords + comps)) (length xs)) (first && (ys && zs)) e in
    let runs = and_right first (ys && zs) rest in
    record {
      there = leb-true _ _ (and_left (leb (i + (1 + coords + comps)) (length xs)) (first && (ys && zs)) e);
      first = ltb-true _ _ (and_left first (ys && zs) rest);
      coords_fit = and_left ys zs runs;
      comps_fit = and_right ys zs runs;
    }
