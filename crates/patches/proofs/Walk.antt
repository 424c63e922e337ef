-- The two walks over the records of a mesh: counting the patches, and writing them. Assumes nothing.
use Prim.Native.Nat.{ℕ, ◌+◌, ◌-◌, ◌*◌, ◌≤◌}
use mathlib.Core.Path.{◌≡◌, refl, ap, ◌∙◌}
use mathlib.Core.Bool.{Bool, true, false}
use mathlib.Core.List.{List, ◌++◌}
use mathlib.Core.Option.{Option, none, some}
use native.Mathlib.Omega.{arith}
use lib.ListN.{length, take, drop}
use lib.Seq.{length-take-le}
use lib.Ieee.{Float}
use Rattle.std.specs.Prelude.{Some, None}
use Rattle.lists.specs.Lists.{flat}
use Rattle.lists.specs.Writing.{put, Written}
use Rattle.lists.proofs.Walking.{Going}
use Rattle.lists.proofs.Writing.{written_length}
use Rattle.lists.proofs.Walking.{going_start, going_room, going_step, going_end}
use Rattle.decode.specs.Decode.{Ranges}
use Rattle.rows.specs.declared.Place.{Place}
use Rattle.rules.specs.Patches.{mesh}
use Rattle.rules.proofs.Patches.{Before}
use Rattle.rules.proofs.RawReading.{there}
use Rattle.meshes.proofs.PatchRecords.{RowPatch, row_of}
use Rattle.patches.specs.declared.finding.Records.{Records}
use Rattle.patches.specs.Inner.Forms.{table_of}
use Rattle.patches.specs.Inner.Records.{most_after, found_at, patch_size, row_at, finished_of}
use Rattle.patches.proofs.EachForm.{table_fits}
use Rattle.patches.proofs.Found.{found_whole}
use Rattle.patches.proofs.Records.{Promised, promised, rest_ends}
use Rattle.patches.proofs.NextPatch.{Filled, length-row, PatchStands, Next, next_patch}

-- ---- what a walk knows

module _ (m : Records) (R : Ranges) where
  -- at a place, with so many patches before it
  pub record Count (count pos : ℕ) (started : Bool) : Type 0 where
    pub records : Promised m R
    pub before : Option RowPatch
    pub top : started ≡ there before
    pub filled : Before (Filled m) before
    pub total : (finished_of m R).count ≡ count + length (mesh (table_of m.form) before (records.kept.from (there before) pos))

  -- at a place, with p numbers written, the last patch right before
  pub record Walk (l o : List Float) (p pos : ℕ) (started : Bool) : Type 0 where
    pub records : Promised m R
    pub before : Option RowPatch
    pub top : started ≡ there before
    pub filled : Before (Filled m) before
    pub last : Before (λ (b : RowPatch). (patch_size m ≤ p) × PatchStands b o (p - patch_size m)) before
    pub same : length o ≡ length l
    pub room : length (finished_of m R).numbers ≤ length l
    pub going : Going (finished_of m R).numbers l o p (flat row_of (mesh (table_of m.form) before (records.kept.from (there before) pos)))

module _ (m : Records) (R : Ranges) where
  -- each patch takes as many numbers
  pub finished_length : length (finished_of m R).numbers ≡ (finished_of m R).count * patch_size m
  finished_length = (promised m R).kept.length_is (table_fits m.form)

  -- ---- counting

  pub count_start : Count m R 0 0 false
  count_start =
      let w = promised m R in
      record { records = w; before = none; top = refl; filled = tt; total = omega (arith, w.kept.count_is) }

module _ {m : Records} {R : Ranges} where
  pub count_end : {count pos : ℕ} {started : Bool} → Count m R count pos started → pos ≤ m.limit → None ≡ found_at m started pos
      → count ≡ (finished_of m R).count
  count_end {count} {pos} {started} w h e = omega (arith, w.total, ap length (rest_ends w.records w.before pos h (rw w.top at e)))

  pub count_step : {count pos : ℕ} {started : Bool} (f : ℕ) (next : Place) → Count m R count pos started → Some (f, next) ≡ found_at m started pos
      → Count m R (count + 1) next.0 true
  count_step {count} {pos} {started} f next w e =
      let t = next_patch w.records w.before w.filled pos f next (rw w.top at e) in
      record {
        records = w.records;
        before = some t.new;
        top = refl;
        filled = t.filled;
        total = omega (arith, w.total, ap length t.gives);
      }

  -- ---- writing

  pub walk_start : {l : List Float} → length (finished_of m R).numbers ≤ length l → Walk m R l l 0 0 false
  walk_start {l} h =
      let w = promised m R in
      record {
        records = w;
        before = none;
        top = refl;
        filled = tt;
        last = tt;
        same = refl;
        room = h;
        going = rw (← w.kept.numbers_are) (going_start _ l);
      }

  module _ {l o : List Float} {p pos : ℕ} {started : Bool} (w : Walk m R l o p pos started) where
    pub walk_end : pos ≤ m.limit → None ≡ found_at m started pos → Written l o 0 (finished_of m R).numbers p
    unfolding flat
    walk_end h e = going_end (rw (rest_ends w.records w.before pos h (rw w.top at e)) at w.going)

    module _ (f : ℕ) (next : Place) (e : Some (f, next) ≡ found_at m started pos) where
      allowed : f ≤ most_after (there w.before)
      allowed = rw w.top at (found_whole m started pos f next e).allowed

      pub walk_flag : f ≤ 3
      walk_flag = go w.before allowed
        where
          go : (b : Option RowPatch) → f ≤ most_after (there b) → f ≤ 3
          go none a = omega arith
          go (some b) a = a

      -- a joined patch has one before it
      pub walk_joined : 1 ≤ f → patch_size m ≤ p
      walk_joined h = go w.before w.last allowed
        where
          go : (b : Option RowPatch) → Before (λ (b : RowPatch). (patch_size m ≤ p) × PatchStands b o (p - patch_size m)) b → f ≤ most_after (there b)
              → patch_size m ≤ p
          go none k a = absurd (omega arith)
          go (some b) k a = k.0

      new_patch : Next w.records w.before pos f next
      new_patch = next_patch w.records w.before w.filled pos f next (rw w.top at e)

      goes_on : Going (finished_of m R).numbers l o p
          (row_of new_patch.new ++ flat row_of (mesh (table_of m.form) (some new_patch.new) (w.records.kept.from true next.0)))
      unfolding flat
      goes_on = rw new_patch.gives at w.going

      -- there is room for it
      pub walk_room : p + patch_size m ≤ length o
      walk_room = rw (length-row m new_patch.new new_patch.filled) at (going_room (row_of new_patch.new) _ goes_on w.room)

      row_is : row_of new_patch.new ≡ row_at m R o (p - patch_size m) f pos
      row_is = new_patch.row o (p - patch_size m) (stands w.before w.last)
        where
          stands : (b : Option RowPatch) → Before (λ (b : RowPatch). (patch_size m ≤ p) × PatchStands b o (p - patch_size m)) b
              → Before (λ (b : RowPatch). PatchStands b o (p - patch_size m)) b
          stands none k = tt
          stands (some b) k = k.1

      pub walk_step : {o' : List Float} {q : ℕ} → Written o o' p (row_at m R o (p - patch_size m) f pos) q → Walk m R l o' q next.0 true
      unfolding put
      walk_step {o'} {q} v =
          let n = new_patch in
          let x : List Float = row_of n.new in
          let k : Written o o' p x q = rw (← row_is) at v in
          let size : length x ≡ patch_size m = length-row m n.new n.filled in
          let i = written_length k in
          let place : q - patch_size m ≡ p = omega (arith, k.after) in
          record {
            records = w.records;
            before = some n.new;
            top = refl;
            filled = n.filled;
            last = (
              omega (arith, k.after),
              record {
                front = take p o;
                back = drop (p + length x) o;
                place = rw place (length-take-le p o (omega (arith, k.room)));
                split = k.held;
              },
            );
            same = i ∙ w.same;
            room = w.room;
            going = going_step x _ goes_on k;
          }
