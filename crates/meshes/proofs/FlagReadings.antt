-- What a flag means shows in the mesh alone, and there only where two meanings differ on a number met. The upper bits of a flag do not show where its
-- two low bits are meant. Assumes nothing.
use Prim.Native.Nat.{ℕ, ◌^◌, ◌<◌}
use mathlib.Core.Path.{◌≡◌, refl, sym, ap, ◌∙◌}
use mathlib.Core.Bool.{Bool, true, false}
use mathlib.Core.List.{List}
use native.Mathlib.Nat.{lt_of_lt_of_le, mod-eq_of_lt}
use native.Mathlib.Omega.{arith}
use lib.Pow.{pow_mono}
use lib.ListN.{length}
use lib.Ieee.{Float}
use Rattle.lists.specs.Lists.{All}
use Rattle.bits.specs.Bits.{stream}
use Rattle.bits.proofs.Streams.{length-stream, stream_below}
use Rattle.decode.specs.Decode.{Ranges}
use Rattle.std.specs.Prelude.{Some}
use Rattle.records.specs.declared.shape.Kind.{Kind}
use Rattle.records.specs.declared.shape.Kind.TheVariants.{Four, Six, Seven}
use Rattle.records.specs.Layout.{layout_readable}
use Rattle.records.specs.Format.{Meaning, two_low_bits, Format, format_by, readings, raw_reading}
use Rattle.records.specs.Flags.{met, cleared}
use Rattle.records.proofs.Layouts.{layout_widths}
use Rattle.records.proofs.Meanings.{size_by, Alike, met_alike, met_below}
use Rattle.records.proofs.Cleared.{length-cleared, cleared_alike}
use Rattle.rules.specs.Triangles.{Rule, triangles}
use Rattle.rules.specs.Patches.{Table}
use Rattle.rules.specs.Meshes.{Source, Finished, type4_mesh, patch_mesh}
use Rattle.rules.proofs.Lists.{all_map}
use Rattle.rules.proofs.Alike.{alike_type4_mesh, alike_patch_mesh}
use Rattle.meshes.specs.Decoded.{by_decode}
use Rattle.meshes.specs.Outcomes.{Stream, raw_of, decode_of, parsed}

-- what is made of the raw numbers
abbrev pub Mesh : Type 0
Mesh = Source ℕ Float → ℕ → List ℕ → Finished Float

-- raw numbers whose flags mean the same make the same mesh
abbrev pub Kept : Kind → Mesh → Type 0
Kept kind mesh =
    (meaning meaning' : Meaning) (R : Ranges) (n : ℕ) (xs ys : List ℕ) → Alike meaning meaning' (size_by kind n) xs ys
    → mesh (by_decode meaning R) n xs ≡ mesh (by_decode meaning' R) n ys

pub type4_kept : (r : Rule) → Kept Four (type4_mesh (triangles r))
type4_kept r meaning meaning' R n xs ys a = alike_type4_mesh n meaning meaning' xs ys a r (by_decode meaning R).point (by_decode meaning R).colour

pub type6_kept : (T : Table) → Kept Six (patch_mesh T 8)
type6_kept T meaning meaning' R n xs ys a = alike_patch_mesh 8 n meaning meaning' T xs ys a (by_decode meaning R).point (by_decode meaning R).colour

pub type7_kept : (T : Table) → Kept Seven (patch_mesh T 12)
type7_kept T meaning meaning' R n xs ys a = alike_patch_mesh 12 n meaning meaning' T xs ys a (by_decode meaning R).point (by_decode meaning R).colour

same_length : (s t : List ℕ) → length (stream s) ≡ length (stream t) → length s ≡ length t
same_length s t e = omega (arith, length-stream s, length-stream t)

module _ (kind : Kind) (coord comp flag : ℕ) (entries : List Float) (n : ℕ) where
  abbrev pub by : Meaning → Stream
  by meaning = record { kind = kind; meaning = meaning; flag = Some flag; coord = coord; comp = comp; entries = entries; n = n }

  abbrev F : Meaning → Format
  F meaning = format_by meaning kind flag coord comp n

  abbrev readable : Bool
  readable = layout_readable coord comp (Some flag) (length entries)

  -- every call is refused alike, so the mesh of an accepted one decides
  pub same_outcome : (mesh : Mesh) (meaning meaning' : Meaning) (s t : List ℕ) → length s ≡ length t
      → (readable ≡ true → mesh (decode_of (by meaning)) n (raw_of (by meaning) s) ≡ mesh (decode_of (by meaning')) n (raw_of (by meaning') t))
      → (room : ℕ) → parsed (by meaning) mesh s room ≡ parsed (by meaning') mesh t room
  unfolding parsed
  same_outcome mesh meaning meaning' s t l h room = go readable refl
    where
      go : (b : Bool) → readable ≡ b → parsed (by meaning) mesh s room ≡ parsed (by meaning') mesh t room
      go false e = rw e
      go true e = rw (h e, l)

  -- the bits of bytes with the upper bits of each flag cleared
  abbrev pub clear : List ℕ → List ℕ
  clear s = cleared (F two_low_bits) (length (stream s)) false (stream s)

  length-clear : (s : List ℕ) → length (clear s) ≡ length (stream s)
  length-clear s = length-cleared (F two_low_bits) (length (stream s)) false (stream s)

  module _ (mesh : Mesh) (kept : Kept kind mesh) where
    -- meanings that agree on every number met
    pub met_outcome : (meaning meaning' : Meaning) (s : List ℕ)
        → All (λ (x : ℕ). meaning x ≡ meaning' x) (met (F meaning) (length (stream s)) false (stream s))
        → (room : ℕ) → parsed (by meaning) mesh s room ≡ parsed (by meaning') mesh s room
    unfolding raw_reading
    met_outcome meaning meaning' s a =
        same_outcome mesh meaning meaning' s s refl
        (λ e. kept meaning meaning' _ n _ _ (met_alike kind flag coord comp n meaning meaning' (length (stream s)) false (stream s) a))

    -- or on every number of 32 bits, as no flag has more
    pub word_outcome : (meaning meaning' : Meaning) → ((x : ℕ) → x < 2 ^ 32 → meaning x ≡ meaning' x)
        → (s : List ℕ) (room : ℕ) → parsed (by meaning) mesh s room ≡ parsed (by meaning') mesh s room
    unfolding raw_reading
    word_outcome meaning meaning' h s =
        same_outcome mesh meaning meaning' s s refl
        (λ e.
        let w = layout_widths (Some flag) coord comp (length entries) e in
        let xs : List ℕ = met (F meaning) (length (stream s)) false (stream s) in
        kept meaning meaning' _ n _ _
        (met_alike kind flag coord comp n meaning meaning' (length (stream s)) false (stream s)
        (all_map (λ (x : ℕ). x < 2 ^ flag) (λ (x : ℕ). meaning x ≡ meaning' x) xs
        (λ x l. h x (lt_of_lt_of_le l (pow_mono w.of_first.few_bits)))
        (met_below (F meaning) (length (stream s)) false (stream s) (stream_below s)))))

    -- a mesh by the two low bits of its flags is that of the bits with the upper ones cleared, by any meaning that leaves flags below 4 alone
    cleared_mesh : (meaning : Meaning) → ((x : ℕ) → x < 4 → meaning x ≡ x) → (R : Ranges) (s : List ℕ)
        → mesh (by_decode two_low_bits R) n (raw_reading (F two_low_bits) s)
        ≡ mesh (by_decode meaning R) n (readings (F meaning) (length (clear s)) false (clear s))
    unfolding raw_reading
    cleared_mesh meaning fixed R s =
        kept two_low_bits meaning R n _ _
        (rw (length-clear s)
        (cleared_alike kind flag coord comp n meaning fixed (length (stream s)) false (stream s) (stream_below s)))

    pub cleared_outcome : (meaning : Meaning) → ((x : ℕ) → x < 4 → meaning x ≡ x) → (s t : List ℕ) → stream t ≡ clear s
        → (room : ℕ) → parsed (by two_low_bits) mesh s room ≡ parsed (by meaning) mesh t room
    unfolding raw_reading
    cleared_outcome meaning fixed s t e =
        same_outcome mesh two_low_bits meaning s t
        (same_length s t (sym (ap length e ∙ length-clear s)))
        (λ g. cleared_mesh meaning fixed _ s ∙ ap (λ (b : List ℕ). mesh (decode_of (by meaning)) n (readings (F meaning) (length b) false b)) (sym e))

    -- so bytes that differ in the upper bits of flags alone have the same mesh
    pub unseen_outcome : (s t : List ℕ) → clear s ≡ clear t → (room : ℕ) → parsed (by two_low_bits) mesh s room ≡ parsed (by two_low_bits) mesh t room
    unseen_outcome s t e =
        same_outcome mesh two_low_bits two_low_bits s t (same_length s t (sym (length-clear s) ∙ ap length e ∙ length-clear t))
        (λ g.
        cleared_mesh two_low_bits (λ x l. mod-eq_of_lt l) _ s
        ∙ ap (λ (b : List ℕ). mesh (decode_of (by two_low_bits)) n (readings (F two_low_bits) (length b) false b)) e
        ∙ sym (cleared_mesh two_low_bits (λ x l. mod-eq_of_lt l) _ t))
