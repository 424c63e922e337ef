-- The records of a patch mesh, one by one, by the places where they stand: what bytes and a list both promise. Assumes nothing.
use Prim.Native.Nat.{ℕ, ◌+◌, ◌*◌, ◌≤◌, ◌<◌}
use mathlib.Core.Path.{◌≡◌, refl, sym, ap, ◌∙◌}
use mathlib.Core.Bool.{Bool, true, false}
use mathlib.Core.List.{List, [], ◌∷◌, map}
use mathlib.Core.Option.{Option, none, some}
use lib.ListN.{length, length-map}
use lib.Ieee.{Float}
use Rattle.lists.specs.Lists.{flat, All}
use Rattle.colour.specs.Inner.Places.{Numbers, points_at, colours_at}
use Rattle.rules.specs.Patches.{Patch, Piece, Table, mesh, patch_row}
use Rattle.records.specs.Format.{points_after, colours_after}
use Rattle.rules.specs.Meshes.{Source, Finished, piece, pieces, patches, patch_mesh}
use Rattle.rules.specs.Inner.Sides.{Fits}
use Rattle.rules.proofs.Patches.{each, each_piece, flat_map, mesh_decoded, patch_row-decoded}
use Rattle.rules.proofs.Meshes.{Numbered, piece_numbered}
use Rattle.rules.proofs.RawReading.{there}
use Rattle.rules.proofs.Rows.{length-patch_mesh}
use Rattle.meshes.proofs.Standing.{SourceReads, Stands, points_are, colours_are}

-- a record, and a patch, whose points and colours are rows
abbrev pub RowPiece : Type 0
RowPiece = Piece (List Float) (List Float)

abbrev pub RowPatch : Type 0
RowPatch = Patch (List Float) (List Float)

-- the patch as it is written
abbrev pub row_of : RowPatch → List Float
row_of p = patch_row (λ (row : List Float). row) (λ (row : List Float). row) p

-- what a record with flag f brings: its own points and colours, as they are written
pub record Brings (own n f : ℕ) (points colours : List Float) (q : RowPiece) : Type 0 where
  pub flagged : q.flag ≡ f
  pub points_are : flat (λ (row : List Float). row) q.body.points ≡ points
  pub colours_are : flat (λ (row : List Float). row) q.body.colours ≡ colours
  pub numbered : Numbered (points_after own f) (colours_after f) (8 + n) q.body

-- the highest flag that may come: 0 at first, 3 once there is a patch
abbrev pub highest : {P : Type 0} → Option P → ℕ
highest none = 0
highest (some p) = 3

-- how many places a record with a flag takes, so many of them for the flag
abbrev pub record_places : ℕ → ℕ → ℕ → ℕ → ℕ → ℕ → ℕ
record_places own lead coord comp n f = lead + (points_after own f * (2 * coord) + colours_after f * (n * comp))

-- M is the mesh of records that stand in so many places, one after the other: flag and N have the flag and the numbers at a place. `from` has the
-- records from a place on, once there is a patch or not.
pub record Records (T : Table) (own lead coord comp n limit : ℕ) (flag : ℕ → ℕ) (N : Numbers) (M : Finished Float) : Type 0 where
  pub from : Bool → ℕ → List RowPiece
  pub count_is : M.count ≡ length (mesh T none (from false 0))
  pub numbers_are : M.numbers ≡ flat row_of (mesh T none (from false 0))
  pub length_is : All (Fits (4 + own)) T → length M.numbers ≡ M.count * ((4 + own) * 2 + 4 * (8 + n))
  -- a whole record whose flag may come
  pub more : (b : Option RowPatch) (p f : ℕ) → f ≡ flag p → f ≤ highest b → p + record_places own lead coord comp n f ≤ limit
      → (q : RowPiece) × (from (there b) p ≡ q ∷ from true (p + record_places own lead coord comp n f))
      × Brings own n f (points_at N coord (points_after own f) (p + lead))
      (colours_at N comp n (colours_after f) (p + lead + points_after own f * (2 * coord))) q
  -- where no whole record stands, or one whose flag may not come, the mesh ends
  pub ends : (b : Option RowPatch) (p : ℕ) → p ≤ limit → (flag p ≤ highest b → limit < p + record_places own lead coord comp n (flag p))
      → mesh T b (from (there b) p) ≡ []

-- ---- records made rows

all_mapped : {A B : Type 0} (f : A → B) (P : A → Type 0) (Q : B → Type 0) → ((x : A) → P x → Q (f x)) → (l : List A) → All P l → All Q (map f l)
all_mapped f P Q h [] a = tt
all_mapped f P Q h (x ∷ l) a = (h x a.0, all_mapped f P Q h l a.1)

module _ {A : Type 0} {S : Source A Float} (reads : SourceReads S) (own n : ℕ) where
  -- the records of a list of numbers
  abbrev pub row_pieces : List A → List RowPiece
  row_pieces xs = map (each_piece S.point S.colour) (pieces S.missing S.flag own n xs)

  -- a record whose numbers stand at a place
  piece_brings : (N : Numbers) (xs : List A) (coord comp f p : ℕ) → Stands reads N xs coord comp (2 * points_after own f) (colours_after f * n) 0 p
      → Brings own n f (points_at N coord (points_after own f) p) (colours_at N comp n (colours_after f) (p + points_after own f * (2 * coord)))
      (each_piece S.point S.colour (piece S.missing own n f xs))
  piece_brings N xs coord comp f p h =
      let o : Patch (List A) (List A) = (piece S.missing own n f xs).body in
      let k = piece_numbered S.missing S.flag own n f xs in
      record {
        flagged = refl;
        points_are = flat_map _ S.point o.points ∙ points_are reads N xs coord comp (points_after own f) (colours_after f) n p h;
        colours_are = flat_map _ S.colour o.colours ∙ colours_are reads N xs coord comp (points_after own f) (colours_after f) n p h;
        numbered = (
          (length-map o.points S.point ∙ k.0.0, length-map o.colours S.colour ∙ k.0.1),
          (
            all_mapped S.point _ _ reads.point_sized o.points k.1.0,
            all_mapped S.colour _ _ (reads.colour_sized n) o.colours k.1.1,
          ),
        );
      }

  -- `rest` has the numbers from a place on: the mesh of all of them, where each whole record is read off and the mesh ends where it is to
  pub records_of : (T : Table) (lead coord comp limit : ℕ) (flag : ℕ → ℕ) (N : Numbers) (rest : Bool → ℕ → List A)
      → ((b : Option RowPatch) (p f : ℕ) → f ≡ flag p → f ≤ highest b → p + record_places own lead coord comp n f ≤ limit
      → (xs : List A)
      × (pieces S.missing S.flag own n (rest (there b) p)
      ≡ piece S.missing own n f xs ∷ pieces S.missing S.flag own n (rest true (p + record_places own lead coord comp n f)))
      × Stands reads N xs coord comp (2 * points_after own f) (colours_after f * n) 0 (p + lead))
      → ((b : Option RowPatch) (p : ℕ) → p ≤ limit → (flag p ≤ highest b → limit < p + record_places own lead coord comp n (flag p))
      → mesh T b (row_pieces (rest (there b) p)) ≡ [])
      → Records T own lead coord comp n limit flag N (patch_mesh T own S n (rest false 0))
  unfolding patch_mesh patches
  records_of T lead coord comp limit flag N rest step ends =
      let qs : List (Piece (List A) (List A)) = pieces S.missing S.flag own n (rest false 0) in
      let id : List Float → List Float = λ (row : List Float). row in
      let rows = mesh_decoded S.point S.colour T none qs in
      record {
        from = λ started p. row_pieces (rest started p);
        count_is = sym (ap length rows ∙ length-map (mesh T none qs) (each S.point S.colour));
        numbers_are = sym (ap (flat row_of) rows ∙ patch_row-decoded S.point S.colour id id (mesh T none qs));
        length_is = λ fit. length-patch_mesh S 2 (8 + n) n reads.point_sized (reads.colour_sized n) T own fit (rest false 0);
        more = λ b p f e a h.
            let t = step b p f e a h in (
              each_piece S.point S.colour (piece S.missing own n f t.0),
              ap (map (each_piece S.point S.colour)) t.1,
              piece_brings N t.0 coord comp f (p + lead) t.2,
            );
        ends = ends;
      }
