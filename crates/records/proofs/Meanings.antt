-- Two meanings of a record's first number: where they agree on the numbers met, the records are alike. Assumes nothing.
use mathlib.Core.Path.{◌≡◌, refl, sym, ap, ap₂, ◌∙◌}
use mathlib.Core.Bool.{Bool, true, false, ◌&&◌, ◌||◌, cond}
use mathlib.Core.List.{List, [], ◌∷◌, ◌++◌}
use mathlib.Core.Option.{Option, none, some, none-ne-some, some-injective}
use Prim.Native.Nat.{ℕ, zero, suc, ◌+◌, ◌*◌, ◌^◌, ◌≤◌, ◌<◌}
use native.Mathlib.Nat.{one-mul, lt_of_not-le, lt_of_lt_of_le}
use native.Mathlib.Decide.{dec_le}
use native.Mathlib.Omega.{arith}
use lib.Dec.{leb, eqb}
use lib.Pow.{pow_mono}
use lib.Seq.{length-take-le}
use borrow.Author.Tests.{leb-true, le-leb}
use lib.ListN.{length, take, drop, replicate, length-append, length-replicate}
use Rattle.lists.specs.Lists.{All, AllBelow, flat}
use Rattle.lists.proofs.Members.{all_take, all_drop}
use Rattle.bits.specs.Bits.{number}
use Rattle.bits.proofs.Digits.{number_below}
use Rattle.records.specs.declared.shape.Kind.{Kind}
use Rattle.records.specs.declared.shape.Kind.TheVariants.{Four, Five, Six, Seven}
use Rattle.records.specs.Following.{follows, ends}
use Rattle.records.specs.Format.{sum, numbers, Meaning, Format, points_after, colours_after, shape_of, widths_of, format_by, whole, next, readings}
use Rattle.records.specs.Flags.{met}
use Rattle.records.proofs.Readings.{length-numbers, next_some, next_none, next_size, readings_none, readings_some}

-- ---- how many numbers follow a record's first number

abbrev pub size_by : Kind → ℕ → ℕ → ℕ
size_by Four n f = 2 + n
size_by Five n f = 1 + n
size_by Six n f = 2 * points_after 8 f + colours_after f * n
size_by Seven n f = 2 * points_after 12 f + colours_after f * n

module _ (coord comp n : ℕ) where
  length-widths : (coords colours : ℕ) → length (replicate coords coord ++ replicate (colours * n) comp) ≡ coords + colours * n
  length-widths coords colours = rw (length-append, length-replicate coords coord, length-replicate (colours * n) comp)

  pub patch_size_lem : (t : Bool) (coords colours : ℕ) (ws : List ℕ) → widths_of coord comp n (cond t (follows coords colours) ends) ≡ some ws
      → length ws ≡ coords + colours * n
  patch_size_lem true coords colours ws e = rw (← some-injective _ ws e) (length-widths coords colours)
  patch_size_lem false coords colours ws e = absurd (none-ne-some ws e)

  pub widths_size : (kind : Kind) (started : Bool) (f : ℕ) (ws : List ℕ) → widths_of coord comp n (shape_of kind started f) ≡ some ws
      → length ws ≡ size_by kind n f
  widths_size Four started f ws e = patch_size_lem true 2 1 ws e ∙ ap (2 +◌) (one-mul n)
  widths_size Five started f ws e = patch_size_lem true 1 1 ws e ∙ ap (1 +◌) (one-mul n)
  widths_size Six started f ws e = patch_size_lem (eqb f 0 || (started && leb f 3)) (2 * points_after 8 f) (colours_after f) ws e
  widths_size Seven started f ws e = patch_size_lem (eqb f 0 || (started && leb f 3)) (2 * points_after 12 f) (colours_after f) ws e

-- ---- two lists of numbers whose records differ in their first numbers alone

-- a record of both: its first number in the one and in the other, and what follows it in both
pub record Pair : Type 0 where
  pub left : ℕ
  pub right : ℕ
  pub after : List ℕ

pub record Alike (flag flag' : Meaning) (size : ℕ → ℕ) (xs ys : List ℕ) : Type 0 where
  pub pairs : List Pair
  pub lefts : xs ≡ flat (λ (p : Pair). p.left ∷ p.after) pairs
  pub rights : ys ≡ flat (λ (p : Pair). p.right ∷ p.after) pairs
  pub same : All (λ (p : Pair). (flag p.left ≡ flag' p.right) × (length p.after ≡ size (flag p.left))) pairs

module _ (flag flag' : Meaning) (size : ℕ → ℕ) where
  pub alike_none : Alike flag flag' size [] []
  unfolding flat
  alike_none = record { pairs = []; lefts = refl; rights = refl; same = tt }

  pub alike_more : (x y : ℕ) (zs : List ℕ) {xs ys : List ℕ} → flag x ≡ flag' y → length zs ≡ size (flag x) → Alike flag flag' size xs ys
      → Alike flag flag' size (x ∷ (zs ++ xs)) (y ∷ (zs ++ ys))
  unfolding flat
  alike_more x y zs e l a =
      record {
        pairs = record { left = x; right = y; after = zs } ∷ a.pairs;
        lefts = ap (λ (r : List ℕ). x ∷ (zs ++ r)) a.lefts;
        rights = ap (λ (r : List ℕ). y ∷ (zs ++ r)) a.rights;
        same = ((e, l), a.same);
      }

-- ---- what is met

-- the number where a record begins, and what is met after the record
pub met_here : (P : ℕ → Type 0) (F : Format) (k : ℕ) (started : Bool) (b : List ℕ) → All P (met F (suc k) started b) → F.first ≤ length b
    → P (number (take F.first b))
unfolding met
met_here P F k started b a h = (rw (le-leb F.first (length b) h, met) at a).0

pub met_after : (P : ℕ → Type 0) (F : Format) (k : ℕ) (started : Bool) (b vs : List ℕ) → All P (met F (suc k) started b) → next F started b ≡ some vs
    → All P (met F k true (drop (sum vs) b))
unfolding met
met_after P F k started b vs a e =
    let r = next_size F started b vs e in
    (rw (le-leb F.first (length b) (omega arith), e, met) at a).1

-- ---- two readings

module _ (kind : Kind) (first coord comp n : ℕ) (flag flag' : Meaning) where
  abbrev F : Format
  F = format_by flag kind first coord comp n

  abbrev F' : Format
  F' = format_by flag' kind first coord comp n

  -- flags that mean the same give records of the same widths
  pub next_same : (started : Bool) (b c : List ℕ) → length b ≡ length c → (first ≤ length b → flag (number (take first b)) ≡ flag' (number (take first c)))
      → next F started b ≡ next F' started c
  unfolding next
  next_same started b c l h = by_size (dec_le first (length b))
    where
      by_size : Dec (first ≤ length b) → next F started b ≡ next F' started c
      by_size (yes g) = ap₂ (λ (m f : ℕ). whole first m (widths_of coord comp n (shape_of kind started f))) l (h g)
      by_size (no g) =
          let s = lt_of_not-le g in
          next_none F started b (λ ws e. omega arith) ∙ sym (next_none F' started c (λ ws e. omega arith))

  -- one record of each, where the bits after the first number give the same
  pub alike_step : (k : ℕ) (started : Bool) (b c : List ℕ) → length b ≡ length c
      → (first ≤ length b → flag (number (take first b)) ≡ flag' (number (take first c)))
      → ((ws : List ℕ) → next F started b ≡ some (first ∷ ws) → (numbers ws (drop first b) ≡ numbers ws (drop first c))
      × Alike flag flag' (size_by kind n) (readings F k true (drop (first + sum ws) b)) (readings F' k true (drop (first + sum ws) c)))
      → Alike flag flag' (size_by kind n) (readings F (suc k) started b) (readings F' (suc k) started c)
  unfolding numbers sum
  alike_step k started b c l h go = by_next (next F started b) refl
    where
      by_next : (o : Option (List ℕ)) → next F started b ≡ o
          → Alike flag flag' (size_by kind n) (readings F (suc k) started b) (readings F' (suc k) started c)
      by_next none e =
          rw (readings_none F (suc k) started b e, readings_none F' (suc k) started c (sym (next_same started b c l h) ∙ e))
          (alike_none flag flag' (size_by kind n))
      by_next (some vs) e =
          let r = next_some F started b vs e in
          let ws : List ℕ = r.0 in
          let q : next F started b ≡ some (first ∷ ws) = e ∙ ap some r.2 in
          let g = go ws q in
          rw (
            readings_some F k started b (first ∷ ws) q,
            readings_some F' k started c (first ∷ ws) (sym (next_same started b c l h) ∙ q),
            ← g.0,
          )
          (alike_more flag flag' (size_by kind n) (number (take first b)) (number (take first c)) (numbers ws (drop first b))
          (h (omega arith)) (length-numbers ws (drop first b) ∙ widths_size coord comp n kind started (flag (number (take first b))) ws r.1) g.1)

  -- where the flags met mean the same, the records are alike
  pub met_alike : (k : ℕ) (started : Bool) (b : List ℕ) → All (λ (x : ℕ). flag x ≡ flag' x) (met F k started b)
      → Alike flag flag' (size_by kind n) (readings F k started b) (readings F' k started b)
  unfolding readings sum
  met_alike zero started b a = alike_none flag flag' (size_by kind n)
  met_alike (suc k) started b a =
      alike_step k started b b refl (met_here (λ (x : ℕ). flag x ≡ flag' x) F k started b a)
      (λ ws e. (refl, met_alike k true (drop (first + sum ws) b) (met_after (λ (x : ℕ). flag x ≡ flag' x) F k started b (first ∷ ws) a e)))

-- ---- numbers met

-- what holds of every number of `first` bits holds of every number met
module _ (P : ℕ → Type 0) (F : Format) (p : (b : List ℕ) → AllBelow 2 b → F.first ≤ length b → P (number (take F.first b))) where
  met_all : (k : ℕ) (started : Bool) (b : List ℕ) → AllBelow 2 b → All P (met F k started b)
  unfolding met
  met_all zero started b h = tt
  met_all (suc k) started b h =
      by_size (leb F.first (length b)) refl (next F started b) (λ vs. met_all k true (drop (sum vs) b) (all_drop (λ (x : ℕ). x < 2) (sum vs) b h))
    where
      by_size : (t : Bool) → leb F.first (length b) ≡ t → (o : Option (List ℕ)) → ((vs : List ℕ) → All P (met F k true (drop (sum vs) b)))
          → All P (cond t (number (take F.first b) ∷ elim o [ none ↦ [] | some vs ↦ met F k true (drop (sum vs) b) ]) [])
      by_size false e o ih = tt
      by_size true e none ih = (p b h (leb-true F.first (length b) e), tt)
      by_size true e (some vs) ih = (p b h (leb-true F.first (length b) e), ih vs)

-- the first `w` of some bits are a number below 2 ^ w
first_below : (w : ℕ) (b : List ℕ) → AllBelow 2 b → w ≤ length b → number (take w b) < 2 ^ w
first_below w b h l = rw (length-take-le w b l) at (number_below (take w b) (all_take (λ (x : ℕ). x < 2) w b h))

pub met_below : (F : Format) (k : ℕ) (started : Bool) (b : List ℕ) → AllBelow 2 b → All (λ (x : ℕ). x < 2 ^ F.first) (met F k started b)
met_below F = met_all (λ (x : ℕ). x < 2 ^ F.first) F (first_below F.first)

-- a flag of two bits or fewer is below 4
pub narrow_met : (F : Format) → F.first ≤ 2 → (k : ℕ) (started : Bool) (b : List ℕ) → AllBelow 2 b → All (λ (x : ℕ). x < 4) (met F k started b)
narrow_met F w = met_all (λ (x : ℕ). x < 4) F (λ b h l. lt_of_lt_of_le (first_below F.first b h l) (pow_mono w))
