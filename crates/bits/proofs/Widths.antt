-- What a readable width says. Assumes nothing.
use Rattle.std.proofs.Common.{◌≡◌, ℕ, ◌≤◌, Bool, true, false, T, ◌&&◌, sym, refl, subst, leb, leb-true}
use Rattle.bits.specs.Reading.{readable}

pub both_true : (a b : Bool) → a && b ≡ true → (a ≡ true) × (b ≡ true)
both_true true b e = (refl, e)
both_true false b e = absurd (subst T (sym e) tt)

pub record Width (w : ℕ) : Type 0 where
  pub some_bits : 1 ≤ w
  pub few_bits : w ≤ 32

pub width_readable : (w : ℕ) → readable w ≡ true → Width w
width_readable w e =
    let t = both_true (leb 1 w) (leb w 32) e in
    record { some_bits = leb-true 1 w t.0; few_bits = leb-true w 32 t.1 }
