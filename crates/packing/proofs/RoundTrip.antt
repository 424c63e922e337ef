-- The raw reading of an accepted list's bits gives the list back, and nothing more. Assumes nothing.
use mathlib.Core.Path.{◌≡◌, refl, sym, ap, ◌∙◌, subst}
use mathlib.Core.Bool.{Bool, true, false}
use mathlib.Core.List.{List, [], ◌∷◌, ◌++◌, append_assoc}
use mathlib.Core.Option.{Option, some, none-ne-some, some-injective}
use Prim.Native.Nat.{ℕ, zero, suc, ◌+◌, ◌*◌, ◌≤◌, ◌<◌}
use native.Mathlib.Nat.{mul-le-mul, le_refl}
use native.Mathlib.Omega.{arith}
use borrow.Author.Tests.{ltb-false}
use lib.ListN.{length, take, drop, replicate, length-append}
use lib.Seq.{take_at, drop_at, drop-drop}
use Rattle.lists.specs.Lists.{AllBelow}
use Rattle.bits.specs.Bits.{bits_of, number}
use Rattle.bits.proofs.Digits.{length-bits, number_of_bits}
use Rattle.records.specs.declared.shape.Kind.{Kind}
use Rattle.records.specs.declared.shape.Kind.TheVariants.{Four, Five, Six, Seven}
use Rattle.std.specs.Prelude.{Some, None}
use Rattle.records.specs.Following.{Following, follows}
use Rattle.records.specs.Format.{Format, format, patch_shape, shape_of, sum, numbers, next, readings, raw_reading}
use Rattle.records.proofs.Shapes.{every_patch}
use Rattle.records.proofs.Readings.{sum-append, sum-replicate, next_fits, next_none, readings_none, readings_some}
use Rattle.packing.specs.Packed.{bytes, packed}
use Rattle.packing.specs.Writer.{thin}
use Rattle.packing.proofs.Shapes.{follows_some}
use Rattle.packing.proofs.Filling.{filler, length-filler, stream_bytes}
use Rattle.packing.proofs.Accepting.{Field, field_some, record_some}

-- ---- one number, and the rest of a record

-- an accepted number is read back from its bits, whatever stands after them
module _ {w x : ℕ} {o : Option (List ℕ)} {bits : List ℕ} (f : Field w x o bits) (pad : List ℕ) where
  split : bits ++ pad ≡ bits_of w x ++ (f.rest ++ pad)
  split = ap (λ (b : List ℕ). b ++ pad) f.is ∙ append_assoc (bits_of w x) f.rest pad

  read_first : number (take w (bits ++ pad)) ≡ x
  read_first = rw (split, take_at (bits_of w x) (f.rest ++ pad) w (length-bits w x)) (number_of_bits w x f.fits)

  read_rest : drop w (bits ++ pad) ≡ f.rest ++ pad
  read_rest = rw split (drop_at (bits_of w x) (f.rest ++ pad) w (length-bits w x))

  read_length : length bits ≡ w + length f.rest
  read_length = ap length f.is ∙ length-append (bits_of w x) f.rest ∙ ap (λ (k : ℕ). k + length f.rest) (length-bits w x)

-- the numbers that a record begun still wants are read back; zs comes after them
record Back (F : Format) (started : Bool) (due xs bits pad : List ℕ) : Type 0 where
  zs : List ℕ
  rest : List ℕ
  left : packed F started [] zs ≡ some rest
  are : xs ≡ numbers due (bits ++ pad) ++ zs
  after : drop (sum due) (bits ++ pad) ≡ rest ++ pad
  size : length bits ≡ sum due + length rest

read_due : (F : Format) (started : Bool) (due xs bits pad : List ℕ) → packed F started due xs ≡ some bits → Back F started due xs bits pad
unfolding packed numbers sum
read_due F started [] xs bits pad e = record { zs = xs; rest = bits; left = e; are = refl; after = refl; size = omega arith }
read_due F started (w ∷ due) [] bits pad e = absurd (none-ne-some bits e)
read_due F started (w ∷ due) (x ∷ xs) bits pad e =
    let f = field_some w x (packed F started due xs) bits e in
    let b = read_due F started due xs f.rest pad f.after in
    record {
      zs = b.zs;
      rest = b.rest;
      left = b.left;
      are = rw (read_first f pad, read_rest f pad) (ap (λ (l : List ℕ). x ∷ l) b.are);
      after = sym (drop-drop (sum due) w (bits ++ pad)) ∙ ap (drop (sum due)) (read_rest f pad) ∙ b.after;
      size = omega (arith, read_length f pad, b.size);
    }

-- ---- a list, record by record

-- every record takes 8 bits at least, so that the zeros that fill the last byte hold none
abbrev pub Thick : Format → Type 0
Thick F = (started : Bool) (x : ℕ) (due : List ℕ) → F.more started x ≡ some due → 8 ≤ F.first + sum due

-- fewer than 8 bits hold no record
quiet : (F : Format) → Thick F → (k : ℕ) (started : Bool) (b : List ℕ) → length b < 8 → readings F k started b ≡ []
quiet F th k started b h =
    readings_none F k started b (next_none F started b (λ due e. omega (arith, th started (number (take F.first b)) due e)))

nothing_packed : (F : Format) (started : Bool) (bits : List ℕ) → packed F started [] [] ≡ some bits → [] ≡ bits
unfolding packed
nothing_packed F started bits e = some-injective [] bits e

readings_packed : (F : Format) → Thick F → (k : ℕ) (started : Bool) (xs bits pad : List ℕ) → packed F started [] xs ≡ some bits → length pad < 8
    → length (bits ++ pad) ≤ k → readings F k started (bits ++ pad) ≡ xs
unfolding numbers sum
readings_packed F th zero started [] bits pad e h l = rw (← nothing_packed F started bits e) (quiet F th zero started pad h)
readings_packed F th (suc k) started [] bits pad e h l = rw (← nothing_packed F started bits e) (quiet F th (suc k) started pad h)
readings_packed F th zero started (x ∷ xs) bits pad e h l =
    let r = record_some F started x xs bits e in
    let b = read_due F true r.0 xs r.2.rest pad r.2.after in
    absurd (omega (arith, l, length-append bits pad, read_length r.2 pad, b.size, th started x r.0 r.1))
readings_packed F th (suc k) started (x ∷ xs) bits pad e h l =
    let r = record_some F started x xs bits e in
    let due = r.0 in
    let f = r.2 in
    let b = read_due F true due xs f.rest pad f.after in
    let all = length-append bits pad in
    let here : next F started (bits ++ pad) ≡ some (F.first ∷ due) =
    next_fits F started (bits ++ pad) due (ap (F.more started) (read_first f pad) ∙ r.1) (omega (arith, all, read_length f pad, b.size)) in
    let on : drop (F.first + sum due) (bits ++ pad) ≡ b.rest ++ pad =
    sym (drop-drop (sum due) F.first (bits ++ pad)) ∙ ap (drop (sum due)) (read_rest f pad) ∙ b.after in
    readings_some F k started (bits ++ pad) (F.first ∷ due) here
    ∙ rw (read_first f pad, read_rest f pad, on)
    (ap (λ (l : List ℕ). x ∷ (numbers due (f.rest ++ pad) ++ l))
    (readings_packed F th k true b.zs b.rest pad b.left h
    (omega (arith, l, all, length-append b.rest pad, read_length f pad, b.size, th started x due r.1))))
    ∙ ap (λ (l : List ℕ). x ∷ l) (sym b.are)

-- the bytes of an accepted list are read back as the list
pub read_back : (F : Format) → Thick F → (xs bits : List ℕ) → AllBelow 2 bits → packed F false [] xs ≡ some bits → raw_reading F (bytes bits) ≡ xs
unfolding raw_reading
read_back F th xs bits p e =
    rw (stream_bytes bits p)
    (readings_packed F th (length (bits ++ filler (length bits))) false xs bits (filler (length bits)) e (length-filler (length bits))
    (le_refl (length (bits ++ filler (length bits)))))

-- ---- the four mesh types

module _ (first coord comp n : ℕ) (c : 1 ≤ coord) where
  -- a record of the shape takes 8 bits at least
  abbrev Whole : Following → Type 0
  Whole (Some shape) = 8 ≤ first + (shape.coords * coord + shape.colours * n * comp)
  Whole None = Unit {0}

  whole_patch : (own : ℕ) (started : Bool) (x : ℕ) → 4 ≤ own → Whole (patch_shape own started x)
  whole_patch own started x h = every_patch Whole own started x (omega (arith, mul-le-mul h c)) (omega (arith, mul-le-mul h c)) tt

  whole_shape : (kind : Kind) (started : Bool) (x : ℕ) → thin kind first coord comp n ≡ false → Whole (shape_of kind started x)
  unfolding thin
  whole_shape Four started x t = omega (arith, ltb-false (first + (2 * coord + n * comp)) 8 t)
  whole_shape Five started x t = omega (arith, ltb-false (first + (coord + n * comp)) 8 t)
  whole_shape Six started x t = whole_patch 8 started x (omega arith)
  whole_shape Seven started x t = whole_patch 12 started x (omega arith)

  pub thick : (kind : Kind) → thin kind first coord comp n ≡ false → Thick (format kind first coord comp n)
  thick kind t started x due e =
      let r = follows_some coord comp n (shape_of kind started x) due e in
      let w : Whole (follows r.0 r.1) = subst Whole r.2 (whole_shape kind started x t) in
      rw r.3
      (omega (arith, w, sum-append (replicate r.0 coord) (replicate (r.1 * n) comp), sum-replicate r.0 coord, sum-replicate (r.1 * n) comp))
