-- The refusals, row by row: what a call has passed that was not refused. Assumes nothing.
use mathlib.Core.Path.{◌≡◌, refl}
use mathlib.Core.Bool.{true, false, not}
use mathlib.Core.List.{List, []}
use mathlib.Core.Option.{Option, none, some}
use Prim.Native.Nat.{ℕ, ◌≤◌}
use native.Mathlib.Omega.{arith}
use borrow.Author.Tests.{ltb-false, not-false}
use lib.Dec.{ltb}
use lib.ListN.{length}
use Rattle.answers.specs.declared.Refusal.TheVariants.{Layout, Components, Length, Room, Thin}
use Rattle.answers.specs.Limits.{most_components, most_numbers}
use Rattle.answers.specs.Outcome.{wrote, refuse_if, fitted}
use Rattle.answers.proofs.Outcomes.{passed}
use Rattle.records.specs.declared.shape.Kind.{Kind}
use Rattle.records.specs.Layout.{widths_readable}
use Rattle.records.specs.Format.{format}
use Rattle.packing.specs.Packed.{bytes, packed}
use Rattle.packing.specs.Writer.{thin, in_bytes, raw_write}

-- what an accepted call has passed
pub record Accepted (kind : Kind) (first coord comp n : ℕ) (xs : List ℕ) (k : ℕ) (bs : List ℕ) : Type 0 where
  pub widths : widths_readable first coord comp ≡ true
  pub components : n ≤ most_components
  pub short : length xs ≤ most_numbers
  pub thick : thin kind first coord comp n ≡ false
  pub bits : List ℕ
  pub are : packed (format kind first coord comp n) false [] xs ≡ some bits
  pub in_bytes_lem : bs ≡ bytes bits
  pub count : k ≡ length (bytes bits)

in_bytes_some : (o : Option (List ℕ)) (room k : ℕ) (bs : List ℕ) → in_bytes o room ≡ wrote k bs
    → (bits : List ℕ) × (o ≡ some bits) × (bs ≡ bytes bits) × (k ≡ length (bytes bits))
unfolding in_bytes fitted
in_bytes_some none room k bs e = absurd (let z : ◌≡◌ {A = ℕ} 0 1 = cc in omega arith)
in_bytes_some (some bits) room k bs e =
    let p = passed (ltb room (length (bytes bits))) (Room (length (bytes bits))) (wrote (length (bytes bits)) (bytes bits)) e in
    let q = p.1 in
    (bits, refl, cc, cc)

pub accepted : (kind : Kind) (first coord comp n : ℕ) (xs : List ℕ) (room k : ℕ) (bs : List ℕ)
    → raw_write kind first coord comp n xs room ≡ wrote k bs → Accepted kind first coord comp n xs k bs
unfolding raw_write
accepted kind first coord comp n xs room k bs e =
    let o = in_bytes (packed (format kind first coord comp n) false [] xs) room in
    let o3 = refuse_if (thin kind first coord comp n) Thin o in
    let o2 = refuse_if (ltb most_numbers (length xs)) Length o3 in
    let o1 = refuse_if (ltb most_components n) Components o2 in
    let p0 = passed (not (widths_readable first coord comp)) Layout o1 e in
    let p1 = passed (ltb most_components n) Components o2 p0.1 in
    let p2 = passed (ltb most_numbers (length xs)) Length o3 p1.1 in
    let p3 = passed (thin kind first coord comp n) Thin o p2.1 in
    let b = in_bytes_some (packed (format kind first coord comp n) false [] xs) room k bs p3.1 in
    record {
      widths = not-false (widths_readable first coord comp) p0.0;
      components = ltb-false most_components n p1.0;
      short = ltb-false most_numbers (length xs) p2.0;
      thick = p3.0;
      bits = b.0;
      are = b.1;
      in_bytes_lem = b.2;
      count = b.3;
    }
