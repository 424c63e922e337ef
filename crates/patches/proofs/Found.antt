-- What stands at a place, by the tests that the code makes. Assumes nothing.
use Prim.Native.Nat.{ℕ, zero, suc, ◌+◌, ◌*◌, ◌≤◌, ◌<◌}
use mathlib.Core.Path.{◌≡◌, refl, ap, ◌∙◌}
use mathlib.Core.Bool.{Bool, true, false, cond}
use native.Mathlib.Omega.{arith}
use borrow.Author.Tests.{leb-true, leb-false, le-leb, lt-leb}
use lib.Dec.{leb}
use Rattle.std.specs.Prelude.{Option, Some, None}
use Rattle.records.specs.declared.shape.Shape.{Shape}
use Rattle.rows.specs.declared.Place.{Place}
use Rattle.rows.specs.Inner.Sources.{masked, flag_at}
use Rattle.rows.proofs.Callers.{flag_there, flag_stands}
use Rattle.patches.specs.declared.finding.Records.{Records}
use Rattle.patches.specs.Inner.Forms.{own_of}
use Rattle.patches.specs.Inner.Records.{size_of, flag_meant, most_after, found_at}
use Rattle.patches.proofs.EachForm.{Follows}

pub joined_size : (m : Records) (f : ℕ) → 1 ≤ f
    → size_of m f ≡ m.input.layout.flag + (own_of m.form * (2 * m.input.layout.coord) + 2 * (m.input.layout.n * m.input.layout.comp))
unfolding size_of
joined_size m zero h = absurd (omega arith)
joined_size m (suc f) h = refl

-- a record takes its flag at least
pub record_moves : (m : Records) (f : ℕ) → m.input.layout.flag ≤ size_of m f
unfolding size_of
record_moves m f = omega arith

-- ---- what stands at a place

both_end : (b : Bool) → cond {A = Option (ℕ × Place)} b None None ≡ None
both_end true = refl
both_end false = refl

-- what is left of a flag by the mask is what it means
pub flag_read : (m : Records) (pos : ℕ) {f : ℕ} → pos + m.input.layout.flag ≤ m.limit → f ≡ flag_at m.input.source m.input.layout.flag pos
    → masked m.mask f ≡ flag_meant m pos
flag_read m pos h e =
    let L = m.input.layout in
    ap (masked m.mask) e
    ∙ flag_there m.input.source m.mask L.flag pos m.mask_there
    (flag_stands m.input.source L.flag pos m.flagged L.flag_few m.input.short (omega (arith, h, m.all_places)))

module _ (m : Records) (started : Bool) (pos : ℕ) where
  -- not even a flag
  pub found_nothing : m.limit < pos + m.input.layout.flag → None ≡ found_at m started pos
  unfolding found_at
  found_nothing h =
      let g : ℕ = flag_meant m pos in
      simp (lt-leb (pos + size_of m g) m.limit (omega (arith, record_moves m g)), both_end)

  module _ (f : ℕ) (e : f ≡ flag_meant m pos) where
    pub found_over : most_after started < f → None ≡ found_at m started pos
    unfolding found_at
    found_over h = simp (← e, lt-leb f (most_after started) h)

    module _ {shape : Shape} (w : Follows (own_of m.form) started f shape) where
      -- where the record ends
      abbrev next : ℕ
      next = pos + m.input.layout.flag + (shape.coords * m.input.layout.coord + shape.colours * (m.input.layout.n * m.input.layout.comp))

      next_is : next ≡ pos + size_of m f
      unfolding size_of
      next_is = rw (w.coords_are, w.colours_are) (omega arith)

      pub found_cut : m.limit < next → None ≡ found_at m started pos
      unfolding found_at
      found_cut h = simp (← e, lt-leb (pos + size_of m f) m.limit (rw next_is at h), both_end)

      pub found_record : next ≤ m.limit → Some (f, record { 0 = next }) ≡ found_at m started pos
      unfolding found_at
      found_record h = rw next_is (simp (← e, le-leb f (most_after started) w.allowed, le-leb (pos + size_of m f) m.limit (rw next_is at h)))

-- a record that is found is complete, and its flag may come
pub record RecordWhole (m : Records) (started : Bool) (pos f : ℕ) (next : Place) : Type 0 where
  pub flagged : f ≡ flag_meant m pos
  pub allowed : f ≤ most_after started
  pub after : next.0 ≡ pos + size_of m f
  pub within : next.0 ≤ m.limit

by_tests : {A : Type 0} (a b : Bool) (x y : A) → Some y ≡ cond a (cond b (Some x) None) None → (a ≡ true) × (b ≡ true) × (y ≡ x)
by_tests true true x y p = (refl, refl, (cc))
by_tests true false x y p = absurd (cc)
by_tests false b x y p = absurd (cc)

end_tests : {A : Type 0} (a b : Bool) (x : A) → None ≡ cond a (cond b (Some x) None) None → a ≡ true → b ≡ false
end_tests true true x p q = absurd (cc)
end_tests true false x p q = refl
end_tests false b x p q = absurd (cc)

module _ (m : Records) (started : Bool) (pos : ℕ) where
  -- the record of the flag that stands there
  abbrev it : ℕ × Place
  it = (flag_meant m pos, record { 0 = pos + size_of m (flag_meant m pos) })

  pub found_whole : (f : ℕ) (next : Place) → Some (f, next) ≡ found_at m started pos → RecordWhole m started pos f next
  unfolding found_at
  found_whole f next e =
      let found : ℕ × Place = (f, next) in
      let t = by_tests (leb (flag_meant m pos) (most_after started)) (leb it.1.0 m.limit) it found e in
      let g : f ≡ flag_meant m pos = ap (λ (r : ℕ × Place). r.0) t.2 in
      let k : next.0 ≡ it.1.0 = ap (λ (r : ℕ × Place). r.1.0) t.2 in
      record { flagged = g; allowed = rw g (leb-true _ _ t.0); after = rw g k; within = rw k (leb-true _ _ t.1) }

  -- where none is, a flag that may come has no complete record
  pub found_none : None ≡ found_at m started pos → flag_meant m pos ≤ most_after started → m.limit < pos + size_of m (flag_meant m pos)
  unfolding found_at
  found_none e h =
      let most : ℕ = most_after started in
      leb-false _ _ (end_tests (leb (flag_meant m pos) most) (leb it.1.0 m.limit) it e (le-leb (flag_meant m pos) most h))
