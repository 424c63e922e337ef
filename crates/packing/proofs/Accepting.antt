-- What an accepted list says: each number fits, and no number takes more than 32 bits. Assumes nothing.
use mathlib.Core.Path.{◌≡◌, refl, sym}
use mathlib.Core.Bool.{Bool, true, false, cond}
use mathlib.Core.List.{List, [], ◌∷◌, ◌++◌}
use mathlib.Core.Option.{Option, none, some, none-ne-some, some-injective}
use Prim.Native.Nat.{ℕ, ◌*◌, ◌^◌, ◌≤◌, ◌<◌}
use native.Mathlib.Omega.{arith}
use lib.Dec.{ltb}
use borrow.Author.Tests.{ltb-true}
use lib.ListN.{length, replicate, length-append}
use Rattle.lists.specs.Lists.{All, AllBelow}
use Rattle.lists.proofs.Members.{all_append, all_replicate}
use Rattle.bits.specs.Bits.{bits_of}
use Rattle.bits.proofs.Digits.{length-bits, bits_below}
use Rattle.records.specs.declared.shape.Kind.{Kind}
use Rattle.records.specs.Format.{Format, format, shape_of}
use Rattle.packing.specs.Packed.{prefixed, field, packed}
use Rattle.packing.proofs.Shapes.{follows_some}

-- a number that is accepted
pub record Field (w x : ℕ) (o : Option (List ℕ)) (bits : List ℕ) : Type 0 where
  pub rest : List ℕ
  pub after : o ≡ some rest
  pub is : bits ≡ bits_of w x ++ rest
  pub fits : x < 2 ^ w

pub field_some : (w x : ℕ) (o : Option (List ℕ)) (bits : List ℕ) → field w x o ≡ some bits → Field w x o bits
unfolding field
field_some w x o bits e = go (ltb x (2 ^ w)) o refl e
  where
    go : (t : Bool) (o : Option (List ℕ)) → ltb x (2 ^ w) ≡ t → cond t (prefixed (bits_of w x) o) none ≡ some bits → Field w x o bits
    go true (some r) q e = record { rest = r; after = refl; is = sym (some-injective _ _ e); fits = ltb-true x (2 ^ w) q }
    go true none q e = absurd (none-ne-some bits e)
    go false o q e = absurd (none-ne-some bits e)

-- a record that is accepted begins with a number at which the mesh does not end
pub record_some : (F : Format) (started : Bool) (x : ℕ) (xs bits : List ℕ) → packed F started [] (x ∷ xs) ≡ some bits
    → (due : List ℕ) × (F.more started x ≡ some due) × Field F.first x (packed F true due xs) bits
unfolding packed
record_some F started x xs bits e = go (F.more started x) refl
  where
    go : (o : Option (List ℕ)) → F.more started x ≡ o
        → (due : List ℕ) × (F.more started x ≡ some due) × Field F.first x (packed F true due xs) bits
    go none q = absurd (none-ne-some bits (rw (q, packed) at e))
    go (some due) q = (due, q, field_some F.first x (packed F true due xs) bits (rw (q, packed) at e))

-- ---- how many bits, and that they are bits

abbrev IsFew : ℕ → Type 0
IsFew w = w ≤ 32

abbrev IsBit : ℕ → Type 0
IsBit b = b < 2

pub record Bits (xs bits : List ℕ) : Type 0 where
  pub few : length bits ≤ 32 * length xs
  pub below : AllBelow 2 bits

bits_more : (w x : ℕ) (xs bits rest : List ℕ) → w ≤ 32 → bits ≡ bits_of w x ++ rest → Bits xs rest → Bits (x ∷ xs) bits
bits_more w x xs bits rest h e b =
    rw e
    (record {
      few = omega (arith, b.few, length-append (bits_of w x) rest, length-bits w x);
      below = all_append IsBit (bits_of w x) rest (bits_below w x) b.below;
    })

module _ (F : Format) (first : F.first ≤ 32) (more : (started : Bool) (x : ℕ) (due : List ℕ) → F.more started x ≡ some due → All IsFew due) where
  packed_bits : (started : Bool) (due xs bits : List ℕ) → All IsFew due → packed F started due xs ≡ some bits → Bits xs bits
  unfolding packed
  packed_bits started [] [] bits a e = rw (← some-injective [] bits e) (record { few = omega arith; below = tt })
  packed_bits started (w ∷ due) [] bits a e = absurd (none-ne-some bits e)
  packed_bits started [] (x ∷ xs) bits a e =
      let r = record_some F started x xs bits e in
      let f = r.2 in
      bits_more F.first x xs bits f.rest first f.is (packed_bits true r.0 xs f.rest (more started x r.0 r.1) f.after)
  packed_bits started (w ∷ due) (x ∷ xs) bits a e =
      let f = field_some w x (packed F started due xs) bits e in
      bits_more w x xs bits f.rest a.0 f.is (packed_bits started due xs f.rest a.1 f.after)

-- an accepted list takes at most 32 bits for each number
pub accepted_bits : (kind : Kind) (first coord comp n : ℕ) (xs bits : List ℕ) → first ≤ 32 → coord ≤ 32 → comp ≤ 32
    → packed (format kind first coord comp n) false [] xs ≡ some bits → Bits xs bits
accepted_bits kind first coord comp n xs bits f c p e =
    packed_bits (format kind first coord comp n) f
    (λ started x due q.
    let r = follows_some coord comp n (shape_of kind started x) due q in
    rw r.3 (all_append IsFew (replicate r.0 coord) (replicate (r.1 * n) comp) (all_replicate IsFew r.0 coord c) (all_replicate IsFew (r.1 * n) comp p)))
    false [] xs bits tt e
