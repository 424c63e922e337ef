-- Numbers as text, digit by digit. Assumes nothing.
use Prim.Native.Nat.{ℕ, zero, suc, ◌+◌, ◌-◌, ◌*◌, ◌/◌, ◌%◌, ◌^◌, ◌≤◌, ◌<◌}
use mathlib.Core.Path.{◌≡◌, refl, ap}
use mathlib.Core.Bool.{Bool, true, false, cond}
use mathlib.Core.List.{List, [], ◌∷◌, ◌++◌}
use native.Mathlib.Nat.{div-one, div-div-eq-div-mul}
use Rattle.std.proofs.lemmas.Nat.{pow-add}
use native.Mathlib.Omega.{arith}
use lib.Dec.{ltb}
use lib.ListN.{length, length-append}
use lib.Ieee.{Float, nan, inf, fin, binary64, is_nan, to_bits}
use borrow.Author.Tests.{lt-ltb, le-ltb, ltb-false, ltb-true}
use denote.Enum.Declared.{tag_of}
use Rattle.records.specs.contracts.shape.Kind.{the_type}
use Rattle.records.specs.declared.shape.Kind.{Kind}
use Rattle.records.specs.declared.shape.Kind.TheVariants.{Four, Five, Six, Seven}
use Rattle.msf.specs.Listing.{type_of}
use Rattle.msf.specs.Text.{glyph, hex, decimal_to, decimal, float_text}

-- ---- decimal

-- how many digits there may be does not matter where they are enough
decimal_same : (j k v : ℕ) → v < j → v < k → decimal_to j v ≡ decimal_to k v
unfolding decimal_to
decimal_same zero k v h g = absurd (omega arith)
decimal_same (suc j) zero v h g = absurd (omega arith)
decimal_same (suc j) (suc k) v h g = go (ltb v 10) refl (λ l. decimal_same j k (v / 10) (omega arith) (omega arith))
  where
    -- with so many digits before the last
    digits : Bool → List ℕ → List ℕ
    digits b front = cond b (glyph v ∷ []) (front ++ (glyph (v % 10) ∷ []))

    go : (b : Bool) → ltb v 10 ≡ b → (10 ≤ v → decimal_to j (v / 10) ≡ decimal_to k (v / 10)) → digits b (decimal_to j (v / 10)) ≡ digits b (decimal_to k (v / 10))
    go true e f = refl
    go false e f = ap (digits false) (f (ltb-false v 10 e))

pub decimal_one : (v : ℕ) → v < 10 → decimal v ≡ glyph v ∷ []
unfolding decimal decimal_to
decimal_one v h = simp (lt-ltb v 10 h)

-- a mesh type's number has one digit
pub kind_digit : (kind : Kind) → decimal (type_of kind) ≡ glyph (tag_of the_type kind + 4) ∷ []
kind_digit Four = decimal_one 4 (omega arith)
kind_digit Five = decimal_one 5 (omega arith)
kind_digit Six = decimal_one 6 (omega arith)
kind_digit Seven = decimal_one 7 (omega arith)

pub decimal_more : (v : ℕ) → 10 ≤ v → decimal v ≡ decimal (v / 10) ++ (glyph (v % 10) ∷ [])
unfolding decimal decimal_to
decimal_more v h = simp (le-ltb v 10 h) (rw (decimal_same v (suc (v / 10)) (v / 10) (omega arith) (omega arith)))

pub length-decimal_one : (v : ℕ) → v < 10 → length (decimal v) ≡ 1
length-decimal_one v h = rw (decimal_one v h) refl

pub length-decimal_more : (v : ℕ) → 10 ≤ v → length (decimal v) ≡ length (decimal (v / 10)) + 1
length-decimal_more v h = rw (decimal_more v h) (length-append (decimal (v / 10)) (glyph (v % 10) ∷ []))

-- one digit more for numbers ten times as large
longer : (m k v : ℕ) → ((u : ℕ) → u < m → length (decimal u) ≤ k) → v < 10 * m → length (decimal v) ≤ k + 1
longer m k v short h =
    elim (ltb v 10) as (λ b. ltb v 10 ≡ b → length (decimal v) ≤ k + 1) [
      | true ↦ (λ e. omega (arith, length-decimal_one v (ltb-true v 10 e)))
      | false ↦ (λ e. let g : 10 ≤ v = ltb-false v 10 e in omega (arith, length-decimal_more v g, short (v / 10) (omega arith)))
    ] refl

pub length-decimal : (v : ℕ) → v < 1000 → length (decimal v) ≤ 3
length-decimal v h = longer 100 2 v (λ u a. longer 10 1 u (λ w b. omega (arith, length-decimal_one w b)) a) h

-- ---- base 16

-- the digits above the k lowest
unfoldable pub high_digits : ℕ → ℕ → List ℕ
high_digits v k = hex (16 - k) (v / 2 ^ (4 * k))

pub no_digits : (v : ℕ) → high_digits v 16 ≡ []
unfolding high_digits hex
no_digits v = refl

pub digits_more : (v k : ℕ) → k < 16 → high_digits v k ≡ high_digits v (k + 1) ++ (glyph (v / 2 ^ (4 * k) % 16) ∷ [])
unfolding high_digits hex
digits_more v k h =
    let e : 16 - k ≡ suc (16 - (k + 1)) = omega arith in
    let q : v / 2 ^ (4 * k) / 16 ≡ v / 2 ^ (4 * (k + 1)) = rw (div-div-eq-div-mul, ← (pow-add 2 (4 * k) 4)) (ap (λ (n : ℕ). v / 2 ^ n) (omega arith)) in
    rw (e, q) refl

pub all_digits : (v : ℕ) → high_digits v 0 ≡ hex 16 v
unfolding high_digits
all_digits v = rw div-one refl

-- ---- floats

pub float_digits : (x : Float) → is_nan x ≡ false → float_text x ≡ hex 16 (to_bits binary64 x)
unfolding is_nan float_text
float_digits nan h = cc
float_digits (inf s) h = refl
float_digits (fin s m e) h = refl

pub float_nan : (x : Float) → is_nan x ≡ true → float_text x ≡ 110 ∷ 97 ∷ 110 ∷ []
unfolding is_nan float_text
float_nan nan h = refl
float_nan (inf s) h = cc
float_nan (fin s m e) h = cc
