-- The coordinates that a raw reading of Type 6 has in its patches are below 2 ^ w, for their width w. Assumes nothing.
use mathlib.Core.Path.{◌≡◌, refl, sym, ap, ◌∙◌}
use mathlib.Core.Bool.{Bool, true, false, ◌&&◌, ◌||◌, cond}
use mathlib.Core.List.{List, [], ◌∷◌, ◌++◌}
use mathlib.Core.Option.{Option, none, some, none-ne-some, some-injective}
use Prim.Native.Nat.{ℕ, zero, suc, ◌+◌, ◌*◌, ◌^◌, ◌≤◌, ◌<◌}
use native.Mathlib.Omega.{arith}
use lib.Dec.{leb, eqb}
use lib.Pow.{pow_mono}
use lib.ListN.{length, get_or, take, drop, replicate, length-take, length-replicate, get_or-append}
use Rattle.lists.specs.Lists.{All, AllBelow}
use Rattle.lists.proofs.Members.{all_append, all_take, all_drop}
use Rattle.lists.proofs.Parts.{part_of_two}
use Rattle.bits.specs.Bits.{number, stream}
use Rattle.bits.proofs.Digits.{number_below}
use Rattle.bits.proofs.Streams.{stream_below}
use Rattle.records.specs.declared.shape.Kind.TheVariants.{Six}
use Rattle.records.specs.Following.{follows, ends}
use Rattle.records.specs.Format.{sum, numbers, Format, points_after, colours_after, widths_of, format, next, readings, raw_reading, whole_number}
use Rattle.records.proofs.Readings.{length-numbers, numbers_then, next_some, readings_none}
use Rattle.rules.specs.Patches.{Patch, Piece, Places, sides, at}
use Rattle.rules.specs.Meshes.{groups, piece, pieces, patches}
use Rattle.rules.proofs.Lists.{all_joined, all_at}
use Rattle.rules.proofs.Patches.{mesh_has}
use Rattle.rules.proofs.Meshes.{pieces_none}
use Rattle.rules.proofs.RawReading.{pieces_reading}

pub all_get_d : {A : Type 0} (P : A → Type 0) (d : A) (l : List A) (i : ℕ) → All P l → i < length l → P (get_or l i d)
all_get_d P d [] i a h = absurd (omega arith)
all_get_d P d (x ∷ l) zero a h = a.0
all_get_d P d (x ∷ l) (suc i) a h = all_get_d P d l i a.1 (omega arith)

-- ---- numbers of one width

number_small : (w : ℕ) (b : List ℕ) → AllBelow 2 b → number (take w b) < 2 ^ w
number_small w b a =
    let short : length (take w b) ≤ w = rw length-take (omega arith) in
    let p : 2 ^ length (take w b) ≤ 2 ^ w = pow_mono short in
    omega (arith, number_below (take w b) (all_take _ w b a))

run_small : (a w : ℕ) (b : List ℕ) → AllBelow 2 b → AllBelow (2 ^ w) (numbers (replicate a w) b)
unfolding numbers
run_small zero w b h = tt
run_small (suc a) w b h = (number_small w b h, run_small a w (drop w b) (all_drop _ w b h))

-- the points that a list begins with
groups_small : (m k : ℕ) (front back : List ℕ) → AllBelow m front → 2 * k ≤ length front → All (AllBelow m) (groups 0 (front ++ back) 0 k 2)
unfolding groups
groups_small m k front back a h =
    all_joined _ k _ (λ i l. (rw part_of_two (there (0 + i * 2) (omega arith), (there (0 + i * 2 + 1) (omega arith), tt)), tt))
  where
    there : (i : ℕ) → i < length front → get_or (front ++ back) i 0 < m
    there i l = rw (get_or-append front back 0 i l) (all_get_d _ 0 front i a l)

-- ---- the patches of a raw reading

-- every coordinate of a patch is below m
abbrev pub PointsBelow : ℕ → Patch (List ℕ) (List ℕ) → Type 0
PointsBelow m p = All (AllBelow m) p.points

module _ (first w comp n : ℕ) where
  abbrev F : Format
  F = format Six first w comp n

  -- what follows a flag: coordinates first
  widths_after_lem : (started : Bool) (f : ℕ) (ws : List ℕ) → F.more started f ≡ some ws
      → ws ≡ replicate (2 * points_after 8 f) w ++ replicate (colours_after f * n) comp
  widths_after_lem started f ws e = go (eqb f 0 || (started && leb f 3)) e
    where
      go : (t : Bool) → widths_of w comp n (cond t (follows (2 * points_after 8 f) (colours_after f)) ends) ≡ some ws
          → ws ≡ replicate (2 * points_after 8 f) w ++ replicate (colours_after f * n) comp
      go true e = sym (some-injective _ ws e)
      go false e = absurd (none-ne-some ws e)

  piece_below : (f : ℕ) (b : List ℕ) → AllBelow 2 b
      → PointsBelow (2 ^ w) (piece 0 8 n f (numbers (replicate (2 * points_after 8 f) w ++ replicate (colours_after f * n) comp) b)).body
  piece_below f b h =
      let a : ℕ = 2 * points_after 8 f in
      rw (numbers_then (replicate a w) (replicate (colours_after f * n) comp) b)
      (groups_small (2 ^ w) (points_after 8 f) (numbers (replicate a w) b) _ (run_small a w b h)
      (omega (arith, length-numbers (replicate a w) b, length-replicate a w)))

  abbrev found : ℕ → Bool → List ℕ → List (Piece (List ℕ) (List ℕ))
  found k started b = pieces 0 whole_number 8 n (readings F k started b)

  abbrev Below : List (Piece (List ℕ) (List ℕ)) → Type 0
  Below qs = All (λ (q : Piece (List ℕ) (List ℕ)). PointsBelow (2 ^ w) q.body) qs

  pieces_below : (k : ℕ) (started : Bool) (b : List ℕ) → AllBelow 2 b → Below (found k started b)
  unfolding readings
  pieces_below zero started b h = rw (pieces_none 0 8 n whole_number) tt
  pieces_below (suc k) started b h =
      go (next F started b) refl (λ c l. pieces_below k true c l)
    where
      go : (o : Option (List ℕ)) → next F started b ≡ o → ((c : List ℕ) → AllBelow 2 c → Below (found k true c))
          → Below (found (suc k) started b)
      go none e ih = rw (readings_none F (suc k) started b e, pieces_none 0 8 n whole_number) tt
      go (some vs) e ih =
          let r = next_some F started b vs e in
          let x : ℕ = number (take first b) in
          rw (pieces_reading whole_number 8 first w comp n k started b r.0 r.1 (e ∙ ap some r.2)) (
            rw (widths_after_lem started x r.0 r.1) (piece_below x (drop first b) (all_drop _ first b h)),
            ih (drop (first + sum r.0) b) (all_drop _ (first + sum r.0) b h),
          )

  pub coordinates_below : (s : List ℕ) → All (PointsBelow (2 ^ w)) (patches 0 sides whole_number 8 n (raw_reading (format Six first w comp n) s))
  unfolding patches raw_reading
  coordinates_below s =
      mesh_has sides (λ (side : Places). Unit {0}) (λ (f : ℕ). PointsBelow (2 ^ w)) (PointsBelow (2 ^ w)) (tt, (tt, (tt, tt)))
      (λ o a. a)
      (λ b side f o a u c. all_append _ (at b.points side.points) o.points (all_at _ b.points side.points a) c)
      none (found (length (stream s)) false (stream s)) tt
      (pieces_below (length (stream s)) false (stream s) (stream_below s))
