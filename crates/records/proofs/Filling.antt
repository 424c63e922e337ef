-- The walks that write the records of a mesh. Assumes nothing.
use Prim.Native.Nat.{ℕ, ◌+◌, ◌*◌, ◌≤◌, ◌<◌}
use mathlib.Core.Path.{◌≡◌, refl, sym, ap, ◌∙◌}
use mathlib.Core.Bool.{Bool, true, false}
use mathlib.Core.List.{List, [], ◌∷◌}
use Rattle.std.specs.Prelude.{Option, Some, None, IsSome}
use mathlib.Core.Option.{none}
use native.Mathlib.Nat.{one-mul, lt_of_not-le}
use native.Mathlib.Decide.{dec_le}
use native.Mathlib.Omega.{arith}
use lib.ListN.{length, get_or, drop, replicate, length-append}
use Rattle.lists.specs.Writing.{Written}
use Rattle.lists.proofs.Walking.{Going}
use Rattle.lists.proofs.Writing.{written_length}
use Rattle.lists.proofs.Walking.{going_start, going_step, going_end}
use Rattle.answers.specs.Limits.{most_bytes}
use Rattle.bits.specs.Bits.{stream, field_at}
use Rattle.records.specs.Following.{ends}
use Rattle.records.specs.declared.mesh.Mesh.{Mesh}
use Rattle.records.specs.declared.mesh.Rest.{Rest}
use Rattle.records.specs.Format.{shape_of, next, raw_reading}
use Rattle.records.specs.Inner.Walk.{format_of, Follow, RestAfter, Run, numbers_at, widths_after, record_size, Standing, Vertices, Counted}
use Rattle.records.proofs.Finding.{no_first_number, mesh_ends, record_cut, record_stands}
use Rattle.records.proofs.Runs.{run_of_one, record_written}
use Rattle.records.proofs.Walks.{length_record, rest_at, rest_start, rest_none, rest_record}

-- where the mesh does not end, something follows
pub rest_there : (m : Mesh) (started : Bool) (x : ℕ) (r : Option Rest) → RestAfter m started x r → (shape_of m.kind started x ≡ ends → ⊥) → IsSome r
rest_there m started x (Some rest) e n = refl
rest_there m started x None e n = absurd (n e)

pub nothing : (l : List ℕ) → length l ≡ 0 → l ≡ []
nothing [] e = refl
nothing (x ∷ l) e = absurd (omega arith)

-- of count numbers, p are written, and the rest stands from bit at on
pub record Filling (m : Mesh) (s l o : List ℕ) (count p at : ℕ) (started : Bool) : Type 0 where
  pub short : length s ≤ most_bytes
  pub counted : Counted m s count l
  pub within : at ≤ 8 * length s
  pub same : length o ≡ length l
  pub going : Going (raw_reading (format_of m) s) l o p (rest_at m s started at)

-- the next record: it stands at bit at, it is part of the reading, and there is room for it
pub record Turn (m : Mesh) (s o : List ℕ) (count p at : ℕ) (started : Bool) (coords comps : ℕ) : Type 0 where
  pub standing : Standing m s started at coords comps (at + record_size m coords comps)
  pub within : p + (1 + coords + comps) ≤ count
  pub room : p + (1 + coords + comps) ≤ length o

pub fill_start : {m : Mesh} {s l : List ℕ} {count : ℕ} → length s ≤ most_bytes → Counted m s count l → Filling m s l l count 0 0 false
fill_start {m} {s} {l} b h =
    record { short = b; counted = h; within = omega arith; same = refl; going = rw (← rest_start) (going_start _ l) }

module _ {m : Mesh} {s l o : List ℕ} {count p at : ℕ} {started : Bool} (w : Filling m s l o count p at started) where
  left : count ≡ p + length (rest_at m s started at)
  left =
      omega (
        arith,
        w.counted.is,
        ap length w.going.split,
        length-append w.going.done (rest_at m s started at),
        w.going.written.after,
      )

  pub fill_end : count ≤ p → Written l o 0 (raw_reading (format_of m) s) p
  fill_end h = going_end (rw (nothing (rest_at m s started at) (omega (arith, left))) at w.going)

  turn : {coords comps : ℕ} → Standing m s started at coords comps (at + record_size m coords comps)
      → Turn m s o count p at started coords comps
  turn {coords} {comps} st =
      let end : ℕ = at + record_size m coords comps in
      let e = rest_record st in
      let n : p + (1 + coords + comps) ≤ count =
      omega (
        arith,
        left,
        ap length e,
        length-append (numbers_at s at (m.first ∷ widths_after m coords comps)) (rest_at m s true end),
        length_record m s at coords comps,
      ) in
      record { standing = st; within = n; room = omega (arith, w.counted.room, w.same) }

  module _ (h : p < count) where
    -- so the reading does not end here
    goes_on : next (format_of m) started (drop at (stream s)) ≡ none → ⊥
    goes_on e = omega (arith, left, ap length (rest_none m s started at e))

    first_there : Dec (at + m.first ≤ 8 * length s) → at + m.first ≤ 8 * length s
    first_there (yes g) = g
    first_there (no g) = absurd (goes_on (no_first_number m s started at w.within (lt_of_not-le g)))

    -- the record's first number is there, and there is room for it
    pub first_run : (Run s at m.first 1) × (p + 1 ≤ length o)
    first_run =
        let there = first_there (dec_le (at + m.first) (8 * length s)) in (
          record { some_bits = m.first_some; few_bits = m.first_few; whole = omega arith },
          omega (arith, w.counted.room, w.same),
        )

    module _ {lead coords comps : ℕ} (value : lead ≡ field_at s at m.first) (e : Follow m started lead coords comps) where
      record_turn : Dec (at + record_size m coords comps ≤ 8 * length s) → Turn m s o count p at started coords comps
      record_turn (yes g) = turn (record_stands m s started at w.within lead value e _ refl g)
      record_turn (no g) = absurd (goes_on (record_cut m s started at w.within lead value e (lt_of_not-le g)))

    pub vertex_turn : {coords : ℕ} → Vertices m coords → Turn m s o count p at started coords m.n
    vertex_turn {coords} v =
        let e : Follow m started (field_at s at m.first) coords m.n =
        record { colours = 1; shape = v.shape started (field_at s at m.first); comps_are = sym (one-mul m.n) } in
        record_turn refl e (dec_le _ (8 * length s))

    -- a patch's flag has been written
    module _ {o' : List ℕ} {q : ℕ} (v : Written o o' p (numbers_at s at (replicate 1 m.first)) q) where
      pub patch_goes_on : shape_of m.kind started (get_or o' p 0) ≡ ends → ⊥
      patch_goes_on e = goes_on (mesh_ends m.kind m.first m.coord m.comp m.n s started at w.within _ (run_of_one s at m.first v) (sym e))

      pub patch_turn : {coords comps : ℕ} → Follow m started (get_or o' p 0) coords comps → Turn m s o count p at started coords comps
      patch_turn e = record_turn (run_of_one s at m.first v) e (dec_le _ (8 * length s))

  module _ {coords comps : ℕ} (t : Turn m s o count p at started coords comps) where
    -- a turn writes the record, which ends at place
    pub turn_done : {o' : List ℕ} {place : ℕ} → place ≡ at + record_size m coords comps
        → Written o o' p (numbers_at s at (m.first ∷ widths_after m coords comps)) (p + (1 + coords + comps))
        → Filling m s l o' count (p + (1 + coords + comps)) place true
    turn_done e x =
        let st = t.standing in
        let n = written_length x in
        rw e
        (record {
          short = w.short;
          counted = w.counted;
          within = st.whole;
          same = n ∙ w.same;
          going = going_step (numbers_at s at (m.first ∷ widths_after m coords comps)) _ (rw (rest_record st) at w.going) x;
        })

    -- of a patch its first number, which ends at after, and then the rest
    module _ {o' : List ℕ} {after : ℕ} (a : after ≡ at + 1 * m.first) (v : Written o o' p (numbers_at s at (replicate 1 m.first)) (p + 1)) where
      pub patch_room : (after + (coords * m.coord + comps * m.comp) ≤ 8 * length s) × (p + 1 + (coords + comps) ≤ length o')
      patch_room = (omega (arith, t.standing.whole), omega (arith, t.room, written_length v))

      pub patch_done : {o'' : List ℕ} {place : ℕ} → place ≡ after + (coords * m.coord + comps * m.comp)
          → Written o' o'' (p + 1) (numbers_at s after (widths_after m coords comps)) (p + 1 + (coords + comps))
          → Filling m s l o'' count (p + (1 + coords + comps)) place true
      patch_done b u =
          let f : after ≡ at + m.first = omega arith in
          let g : p + (1 + coords + comps) ≡ p + 1 + (coords + comps) = omega arith in
          turn_done (omega arith) (rw g (record_written m s at coords comps v (rw f at u)))
