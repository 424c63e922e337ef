-- Numbers side by side at a place, written one after the other. Assumes nothing.
use Prim.Native.Nat.{ℕ, zero, suc, ◌+◌, ◌-◌, ◌*◌, ◌≤◌, ◌<◌}
use mathlib.Core.Path.{◌≡◌, refl, ap}
use mathlib.Core.List.{List, [], ◌∷◌, ◌++◌}
use native.Mathlib.Nat.{add-zero, add_assoc, one-mul}
use native.Mathlib.Numerals.{add-one}
use native.Mathlib.Omega.{arith}
use lib.ListN.{length, get_or, take, drop, set, replicate, length-set, length-replicate, get_or-replicate, take-append-drop, get_or-append}
use lib.Seq.{take_all, take-suc, drop-cons, drop-drop, length-take-le, get_or-append-add, get_or_at}
use Rattle.lists.specs.Lists.{All}
use Rattle.lists.specs.Writing.{put, Written}
use Rattle.lists.proofs.Members.{all_drop, all_replicate}
use Rattle.lists.proofs.Writing.{written_none, written_set, written_then}
use Rattle.answers.specs.Limits.{most_bytes}
use Rattle.bits.specs.declared.BitPos.{BitPos}
use Rattle.std.specs.Prelude.{Some, None}
use Rattle.bits.specs.Bits.{stream, field_at}
use Rattle.bits.specs.Reading.{read_at}
use Rattle.bits.proofs.Answers.{found, ended}
use Rattle.records.specs.declared.mesh.Mesh.{Mesh}
use Rattle.records.specs.Format.{sum, numbers}
use Rattle.records.specs.Inner.Walk.{Run, numbers_at, widths_after, record_size}
use Rattle.bits.proofs.Widths.{Width}
use Rattle.records.proofs.Layouts.{record_widths}
use Rattle.records.proofs.Readings.{sum-append, sum-replicate, numbers_then}
use Rattle.records.proofs.Finding.{sum-after, length-after}

-- some widths, then others
pub numbers_at_then : (s : List ℕ) (p : ℕ) (vs ws : List ℕ) → numbers_at s p (vs ++ ws) ≡ numbers_at s p vs ++ numbers_at s (p + sum vs) ws
unfolding numbers_at
numbers_at_then s p vs ws = rw (numbers_then vs ws (drop p (stream s)), drop-drop)

-- ---- numbers of given widths, one after the other

-- so many of them stand at bit p: each width can be read, and all their bits are there
pub record There (s : List ℕ) (p : ℕ) (ws : List ℕ) (count : ℕ) : Type 0 where
  pub sized : length ws ≡ count
  pub widths : All Width ws
  pub whole : p + sum ws ≤ 8 * length s
  pub short : length s ≤ most_bytes

-- k of them are written, from index q on, and the next one stands at bit at
pub record Upto (s : List ℕ) (p : ℕ) (ws : List ℕ) (count : ℕ) (l o : List ℕ) (q k at : ℕ) : Type 0 where
  pub there : There s p ws count
  pub room : q + count ≤ length l
  pub within : k ≤ count
  pub place : at ≡ p + sum (take k ws)
  pub same : length o ≡ length l
  pub written : Written l o q (numbers_at s p (take k ws)) (q + k)

pub upto_start : {s : List ℕ} {p : ℕ} {ws : List ℕ} {count : ℕ} (l : List ℕ) (q : ℕ) → There s p ws count → q + count ≤ length l
    → Upto s p ws count l l q 0 p
unfolding numbers_at numbers sum
upto_start l q t h =
    record {
      there = t;
      room = h;
      within = omega arith;
      place = omega arith;
      same = refl;
      written = rw add-zero (written_none l q (omega arith));
    }

module _ {s : List ℕ} {p : ℕ} {ws : List ℕ} {count : ℕ} {l o : List ℕ} {q k at : ℕ} (u : Upto s p ws count l o q k at) where
  pub upto_end : count ≤ k → (at ≡ p + sum ws) × Written l o q (numbers_at s p ws) (q + count)
  upto_end h =
      let e : k ≡ count = omega (arith, u.within) in
      let f = take_all count ws (omega (arith, u.there.sized)) in
      (rw (e, f) at u.place, rw (e, f) at u.written)

  module _ (h : k < count) {w : ℕ} (e : w ≡ get_or ws k 0) where
    more : k < length ws
    more = omega (arith, u.there.sized)

    take_more : take (k + 1) ws ≡ take k ws ++ (w ∷ [])
    take_more = rw (e, add-one, take-suc ws k 0 more)

    sum_more : sum (take (k + 1) ws) ≡ sum (take k ws) + w
    unfolding sum
    sum_more = rw (take_more, sum-append) (omega arith)

    width : Width w
    width = let a = rw (drop-cons ws k 0 more) at (all_drop Width k ws u.there.widths) in rw e a.0

    -- the next number is there
    pub upto_goes_on : None ≡ read_at s at w → ⊥
    upto_goes_on f =
        omega (
          arith,
          ended s at w width.some_bits width.few_bits (omega (arith, u.there.short)) f,
          u.there.whole,
          u.place,
          sum_more,
          sum-append (take (k + 1) ws) (drop (k + 1) ws),
          ap sum (take-append-drop (k + 1) ws),
        )

    pub upto_step : (v : ℕ) (next : BitPos) → Some (v, next) ≡ read_at s at w → Upto s p ws count l (set o (q + k) v) q (k + 1) next.0
    unfolding numbers_at field_at numbers
    upto_step v next f =
        let r = found s at w width.some_bits v next f in
        record {
          there = u.there;
          room = u.room;
          within = omega arith;
          place = omega (arith, r.next, u.place, sum_more);
          same = rw length-set u.same;
          written =
              rw (← add_assoc, take_more, numbers_at_then s p (take k ws) (w ∷ []), ← u.place, ← r.value)
              (written_set (q + k) v refl (omega (arith, u.room)) u.written);
        }

-- ---- a run of one width

pub run_there : {s : List ℕ} {p width count : ℕ} → Run s p width count → length s ≤ most_bytes → There s p (replicate count width) count
run_there {s} {p} {width} {count} r h =
    record {
      sized = length-replicate count width;
      widths = all_replicate Width count width (record { some_bits = r.some_bits; few_bits = r.few_bits });
      whole = rw sum-replicate r.whole;
      short = h;
    }

-- a run of one number can be read back
pub run_of_one : (s : List ℕ) (p width : ℕ) {l o : List ℕ} {q r : ℕ} → Written l o q (numbers_at s p (replicate 1 width)) r
    → get_or o q 0 ≡ field_at s p width
unfolding numbers_at numbers field_at put
run_of_one s p width {l} {o} {q} {r} w =
    rw w.held (get_or_at (take q l) (field_at s p width) (drop (q + 1) l) 0 q (length-take-le q l (omega (arith, w.room))))

-- ---- a record: its first number, its coordinates, its components

pub record_there : (m : Mesh) {s : List ℕ} (p coords comps : ℕ) → length s ≤ most_bytes
    → p + record_size m coords comps ≤ 8 * length s → There s p (m.first ∷ widths_after m coords comps) (1 + coords + comps)
unfolding sum
record_there m p coords comps short h =
    record {
      sized = omega (arith, length-after m coords comps);
      widths =
          record_widths coords comps
          (record {
            of_first = record { some_bits = m.first_some; few_bits = m.first_few };
            of_coord = record { some_bits = m.coord_some; few_bits = m.coord_few };
            of_comp = record { some_bits = m.comp_some; few_bits = m.comp_few };
          });
      whole = omega (arith, sum-after m coords comps);
      short = short;
    }

-- the widths of its numbers after the first
module _ (m : Mesh) (coords comps : ℕ) where
  pub coord_at : (k : ℕ) → 1 ≤ k → k ≤ coords → m.coord ≡ get_or (m.first ∷ widths_after m coords comps) k 0
  coord_at zero z h = absurd (omega arith)
  coord_at (suc k) z h =
      let n : k < length (replicate coords m.coord) = omega (arith, length-replicate coords m.coord) in
      rw (get_or-append (replicate coords m.coord) (replicate comps m.comp) 0 k n, get_or-replicate coords k m.coord 0 (omega arith))

  pub comp_at : (k : ℕ) → coords < k → k < 1 + coords + comps → m.comp ≡ get_or (m.first ∷ widths_after m coords comps) k 0
  comp_at zero z h = absurd (omega arith)
  comp_at (suc k) z h =
      let n : k ≡ length (replicate coords m.coord) + (k - coords) = omega (arith, length-replicate coords m.coord) in
      rw (n, get_or-append-add, get_or-replicate comps (k - coords) m.comp 0 (omega arith))

module _ (m : Mesh) (s : List ℕ) (p coords comps : ℕ) {l o o' : List ℕ} {q r t : ℕ} where
  pub rest_written : Written l o q (numbers_at s p (replicate coords m.coord)) r
      → Written o o' r (numbers_at s (p + coords * m.coord) (replicate comps m.comp)) t
      → Written l o' q (numbers_at s p (widths_after m coords comps)) t
  rest_written v w =
      rw (numbers_at_then s p (replicate coords m.coord) (replicate comps m.comp), sum-replicate) (written_then v w)

  pub record_written : Written l o q (numbers_at s p (replicate 1 m.first)) r
      → Written o o' r (numbers_at s (p + m.first) (widths_after m coords comps)) t
      → Written l o' q (numbers_at s p (m.first ∷ widths_after m coords comps)) t
  record_written v w =
      rw (numbers_at_then s p (replicate 1 m.first) (widths_after m coords comps), sum-replicate 1 m.first, one-mul) (written_then v w)
