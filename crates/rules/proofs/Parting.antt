-- Types 6 and 7: the mesh by whole flags is a beginning of the mesh by their two low bits, and exactly where the two are equal. Assumes nothing.
use mathlib.Core.Path.{◌≡◌, refl, ap, ◌∙◌}
use mathlib.Core.Logic.{◌↔◌}
use mathlib.Core.Bool.{Bool, false}
use mathlib.Core.List.{List, [], ◌∷◌, ◌++◌, append_assoc, append-nil}
use mathlib.Core.Option.{Option, none, some}
use Prim.Native.Nat.{ℕ, suc, ◌+◌, ◌≤◌, ◌<◌}
use native.Mathlib.Omega.{arith}
use lib.ListN.{length, length-append}
use Rattle.lists.specs.Lists.{flat, All}
use Rattle.bits.specs.Bits.{stream}
use Rattle.records.specs.declared.shape.Kind.{Kind}
use Rattle.records.specs.declared.shape.Kind.TheVariants.{Six, Seven}
use Rattle.records.specs.Format.{Meaning, whole_number, two_low_bits, Format, format_by, next, readings, raw_reading}
use Rattle.records.specs.Flags.{Left, left}
use Rattle.records.proofs.Readings.{next_some, readings_none}
use Rattle.records.proofs.Meanings.{Pair, Alike}
use Rattle.records.proofs.Parting.{PatchKind, type6, type7, readings_part, part_alike}
use Rattle.rules.specs.Patches.{sides}
use Rattle.rules.specs.Meshes.{Finished, size_after, pieces, patches, patch_mesh}
use Rattle.rules.proofs.Meshes.{MeshBegins, pieces_none, patch_mesh_begins}
use Rattle.rules.proofs.RawReading.{patch_format, pieces_reading, type6_each_gives, type7_each_gives}
use Rattle.rules.proofs.Alike.{right_of, one_piece, alike_pieces, alike_patch_mesh}

-- ---- the records of a list

-- whole records, then more
module _ (own n : ℕ) (flag flag' : Meaning) (rest : List ℕ) where
  pairs_then : (ps : List Pair)
      → All (λ (p : Pair). (flag p.left ≡ flag' p.right) × (length p.after ≡ size_after own n (flag p.left))) ps
      → pieces 0 flag' own n (flat right_of ps ++ rest) ≡ pieces 0 flag' own n (flat right_of ps) ++ pieces 0 flag' own n rest
  unfolding flat
  pairs_then [] a = rw (pieces_none 0 own n flag')
  pairs_then (p ∷ ps) a =
      let l = a.0.1 ∙ ap (size_after own n) a.0.0 in
      rw (
        append_assoc p.after (flat right_of ps) rest,
        one_piece own n flag' p.right p.after (flat right_of ps ++ rest) l,
        one_piece own n flag' p.right p.after (flat right_of ps) l,
        pairs_then ps a.1,
      )

module _ (first coord comp n : ℕ) where
  one_more : (own k : ℕ) (started : Bool) (b vs : List ℕ) → next (patch_format two_low_bits own first coord comp n) started b ≡ some vs
      → 0 < length (pieces 0 two_low_bits own n (readings (patch_format two_low_bits own first coord comp n) (suc k) started b))
  one_more own k started b vs e =
      let r = next_some (patch_format two_low_bits own first coord comp n) started b vs e in
      rw (pieces_reading two_low_bits own first coord comp n k started b r.0 r.1 (e ∙ ap some r.2)) (omega arith)

  -- a record that is found is a record of the list
  found_more : {kind : Kind} {own : ℕ} → PatchKind kind own → (k : ℕ) (started : Bool) (b vs : List ℕ)
      → next (format_by two_low_bits kind first coord comp n) started b ≡ some vs
      → 0 < length (pieces 0 two_low_bits own n (readings (format_by two_low_bits kind first coord comp n) (suc k) started b))
  found_more type6 = one_more 8
  found_more type7 = one_more 12

  each_gives : {kind : Kind} {own : ℕ} → PatchKind kind own → (flag : Meaning) (s : List ℕ)
      → let xs : List ℕ = raw_reading (format_by flag kind first coord comp n) s in
      length (patches 0 sides flag own n xs) ≡ length (pieces 0 flag own n xs)
  each_gives type6 flag = type6_each_gives flag first coord comp n
  each_gives type7 flag = type7_each_gives flag first coord comp n

  ported_alike : {kind : Kind} {own : ℕ} → PatchKind kind own → (k : ℕ) (started : Bool) (b : List ℕ)
      → let xs : List ℕ = readings (format_by whole_number kind first coord comp n) k started b in Alike whole_number two_low_bits (size_after own n) xs xs
  ported_alike type6 = part_alike Six first coord comp n type6
  ported_alike type7 = part_alike Seven first coord comp n type7

-- ---- the two meshes

module _ {kind : Kind} {own : ℕ} (t : PatchKind kind own) (first coord comp n : ℕ) (h : 1 ≤ first) (s : List ℕ) where
  abbrev F : Format
  F = format_by whole_number kind first coord comp n

  abbrev F' : Format
  F' = format_by two_low_bits kind first coord comp n

  -- where the reading by whole flags ends
  abbrev e : Left
  e = left F (length (stream s)) false (stream s)

  -- and what the two low bits read from there
  abbrev rest : List ℕ
  rest = readings F' (suc (length (stream s))) e.started e.bits

  goes_on : raw_reading F' s ≡ raw_reading F s ++ rest
  unfolding raw_reading
  goes_on = readings_part kind first coord comp n h (length (stream s)) (suc (length (stream s))) false (stream s) (omega arith) (omega arith)

  alike : Alike whole_number two_low_bits (size_after own n) (raw_reading F s) (raw_reading F s)
  unfolding raw_reading
  alike = ported_alike first coord comp n t (length (stream s)) false (stream s)

  -- each record that the two low bits read from there is one patch more
  counts : length (patches 0 sides two_low_bits own n (raw_reading F' s))
      ≡ length (patches 0 sides whole_number own n (raw_reading F s)) + length (pieces 0 two_low_bits own n rest)
  counts =
      rw (
        each_gives first coord comp n t two_low_bits s,
        each_gives first coord comp n t whole_number s,
        alike_pieces own n whole_number two_low_bits (raw_reading F s) (raw_reading F s) alike,
        goes_on,
        alike.rights,
        pairs_then own n whole_number two_low_bits rest alike.pairs alike.same,
        length-append,
      )

  module _ {B : Type 0} (point colour : List ℕ → List B) where
    abbrev ported : Finished B
    ported = patch_mesh sides own (record { missing = 0; flag = whole_number; point = point; colour = colour }) n (raw_reading F s)

    abbrev published : Finished B
    published = patch_mesh sides own (record { missing = 0; flag = two_low_bits; point = point; colour = colour }) n (raw_reading F' s)

    -- the same records, by either meaning
    same_flags : ported ≡ patch_mesh sides own (record { missing = 0; flag = two_low_bits; point = point; colour = colour }) n (raw_reading F s)
    same_flags = alike_patch_mesh own n whole_number two_low_bits sides (raw_reading F s) (raw_reading F s) alike point colour

    -- the ported mesh is a beginning of the published one
    pub ported_begins : MeshBegins ported published
    ported_begins = rw same_flags (patch_mesh_begins _ n (record { rest = rest; is = goes_on }) sides own)

    -- where the published reading finds no whole record at that end either, the two are equal
    pub part_same : next F' e.started e.bits ≡ none → ported ≡ published
    part_same q = rw (goes_on, readings_none F' (suc (length (stream s))) e.started e.bits q, append-nil) same_flags

    -- and only there have they equally many patches
    pub part_exactly : (ported.count ≡ published.count) ↔ (next F' e.started e.bits ≡ none)
    unfolding patch_mesh
    part_exactly = (by_next (next F' e.started e.bits) refl, λ q. ap (λ (m : Finished B). m.count) (part_same q))
      where
        by_next : (o : Option (List ℕ)) → next F' e.started e.bits ≡ o → ported.count ≡ published.count → next F' e.started e.bits ≡ none
        by_next none q c = q
        by_next (some vs) q c = absurd (omega (arith, counts, found_more first coord comp n t (length (stream s)) e.started e.bits vs q))
