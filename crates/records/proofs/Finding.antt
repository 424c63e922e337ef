-- The record at a place, and where there is none. Assumes nothing.
use Prim.Native.Nat.{ℕ, ◌+◌, ◌*◌, ◌≤◌, ◌<◌}
use mathlib.Core.Path.{◌≡◌, refl, sym, ◌∙◌}
use mathlib.Core.Bool.{Bool, false}
use mathlib.Core.List.{List}
use mathlib.Core.Option.{some, none, some-injective, none-ne-some}
use native.Mathlib.Omega.{arith}
use lib.ListN.{length, take, drop, replicate, length-append, length-replicate}
use Rattle.bits.specs.Bits.{number, stream, field_at}
use Rattle.records.specs.declared.shape.Kind.{Kind}
use Rattle.records.specs.declared.shape.Kind.TheVariants.{Six}
use Rattle.records.specs.Following.{Following, follows, ends}
use Rattle.records.specs.declared.mesh.Mesh.{Mesh}
use Rattle.records.specs.Format.{sum, shape_of, widths_of, format, next}
use Rattle.records.specs.Inner.Walk.{format_of, widths_after, Follow, record_size, Standing}
use Rattle.records.proofs.Readings.{length_from, sum-append, sum-replicate, next_none, next_fits}

-- ---- what follows a record's first number

pub sum-after : (m : Mesh) (coords comps : ℕ) → sum (widths_after m coords comps) ≡ coords * m.coord + comps * m.comp
sum-after m coords comps =
    rw (sum-append (replicate coords m.coord) (replicate comps m.comp), sum-replicate coords m.coord, sum-replicate comps m.comp)

pub length-after : (m : Mesh) (coords comps : ℕ) → length (widths_after m coords comps) ≡ coords + comps
length-after m coords comps = rw (length-append, length-replicate coords m.coord, length-replicate comps m.comp)

-- the widths of what follows
pub follow_more : {m : Mesh} {started : Bool} {x coords comps : ℕ} → Follow m started x coords comps
    → (format_of m).more started x ≡ some (widths_after m coords comps)
follow_more e = rw (e.shape, ← e.comps_are)

pub end_more : (m : Mesh) (started : Bool) (x : ℕ) → shape_of m.kind started x ≡ ends → (format_of m).more started x ≡ none
end_more m started x e = rw e

-- ---- whether there is a record

module _ (kind : Kind) (first coord comp n : ℕ) (s : List ℕ) (started : Bool) (p : ℕ) (within : p ≤ 8 * length s) (lead : ℕ)
    (value : lead ≡ field_at s p first) where
  more_is : {h : Following} → h ≡ shape_of kind started lead
      → (format kind first coord comp n).more started (number (take first (drop p (stream s)))) ≡ widths_of coord comp n h
  unfolding field_at
  more_is e = rw (e, value)

  -- of any widths and components, also of those that no mesh has
  pub mesh_ends : ends ≡ shape_of kind started lead → next (format kind first coord comp n) started (drop p (stream s)) ≡ none
  mesh_ends e =
      next_none (format kind first coord comp n) started (drop p (stream s)) (λ ws q. absurd (none-ne-some ws (sym (more_is e) ∙ q)))

-- so does one with a flag of 33 bits, numbers of no bits and 33 components, which no mesh has, where its first flag is 3
pub ends_unreadable : (s : List ℕ) → 3 ≡ field_at s 0 33 → next (format Six 33 0 0 33) false (drop 0 (stream s)) ≡ none
ends_unreadable s value = mesh_ends Six 33 0 0 33 s false 0 (omega arith) 3 value refl

module _ (m : Mesh) (s : List ℕ) (started : Bool) (p : ℕ) (within : p ≤ 8 * length s) where
  -- not even its first number
  pub no_first_number : 8 * length s < p + m.first → next (format_of m) started (drop p (stream s)) ≡ none
  no_first_number h = next_none (format_of m) started (drop p (stream s)) (λ ws e. omega (arith, length_from s p within))

  module _ (lead : ℕ) (value : lead ≡ field_at s p m.first) where
    module _ {coords comps : ℕ} (e : Follow m started lead coords comps) where
      widths_is : widths_of m.coord m.comp m.n (follows coords e.colours) ≡ some (widths_after m coords comps)
      widths_is = rw (← e.comps_are)

      more_rest : (format_of m).more started (number (take m.first (drop p (stream s)))) ≡ some (widths_after m coords comps)
      more_rest = more_is m.kind m.first m.coord m.comp m.n s started p within lead value (sym e.shape) ∙ widths_is

      pub record_cut : 8 * length s < p + record_size m coords comps → next (format_of m) started (drop p (stream s)) ≡ none
      record_cut h =
          next_none (format_of m) started (drop p (stream s))
          (λ ws q.
          let same : widths_after m coords comps ≡ ws = some-injective _ _ (sym more_rest ∙ q) in
          rw (← same) (omega (arith, length_from s p within, sum-after m coords comps)))

      pub record_stands : (end : ℕ) → end ≡ p + record_size m coords comps → end ≤ 8 * length s
          → Standing m s started p coords comps end
      record_stands end b h =
          record {
            widths =
                next_fits (format_of m) started (drop p (stream s)) (widths_after m coords comps) more_rest
                (omega (arith, length_from s p within, sum-after m coords comps));
            ends = b;
            whole = h;
          }
