-- Demand 3: what a raw writer accepts is read back, no two lists share bytes, and a cut gives a beginning. Assumes nothing.
use mathlib.Core.Path.{◌≡◌, sym, ap, ap₂, ◌∙◌, subst}
use mathlib.Core.List.{List, ◌++◌}
use Prim.Native.Nat.{ℕ, ◌≤◌}
use native.Mathlib.Nat.{le_refl, le_trans}
use native.Mathlib.Omega.{arith}
use borrow.Author.Tests.{le-ltb}
use lib.ListN.{length, take, drop, length-append}
use lib.Seq.{take_at, take_all, take-append-le}
use Rattle.lists.specs.Lists.{Begins}
use Rattle.lists.proofs.Members.{begins_of_take}
use Rattle.answers.specs.Outcome.{Answer}
use Rattle.answers.specs.declared.Told.{Told}
use Rattle.answers.specs.Limits.{most_components, most_bytes}
use Rattle.answers.specs.Outcome.{told, Outcome, wrote, fitted, Done}
use Rattle.answers.proofs.OneOutcome.{not_refused}
use Rattle.records.specs.declared.shape.Kind.{Kind}
use Rattle.records.specs.Format.{format, raw_reading}
use Rattle.records.specs.Raw.{raw_read}
use Rattle.records.proofs.Layouts.{widths_readable_lem}
use Rattle.records.proofs.Readings.{cut_begins}
use Rattle.packing.specs.Writer.{raw_write}
use Rattle.packing.proofs.Filling.{length-bytes}
use Rattle.packing.proofs.Accepting.{accepted_bits}
use Rattle.packing.proofs.Refusing.{accepted}
use Rattle.packing.proofs.RoundTrip.{read_back, thick}

module _ (kind : Kind) (first coord comp n : ℕ) where
  -- the bytes of an accepted list give exactly that list
  pub reads_back : (xs : List ℕ) (room k : ℕ) (bs : List ℕ) → raw_write kind first coord comp n xs room ≡ wrote k bs
      → raw_reading (format kind first coord comp n) bs ≡ xs
  reads_back xs room k bs e =
      let a = accepted kind first coord comp n xs room k bs e in
      let w = widths_readable_lem first coord comp a.widths in
      let b = accepted_bits kind first coord comp n xs a.bits w.of_first.few_bits w.of_coord.few_bits w.of_comp.few_bits a.are in
      rw a.in_bytes_lem
      (read_back (format kind first coord comp n) (thick first coord comp n w.of_coord.some_bits kind a.thick) xs a.bits b.below a.are)

  -- no two different accepted lists share bytes
  pub no_two_share : (xs ys : List ℕ) (room room' k k' : ℕ) (bs : List ℕ) → raw_write kind first coord comp n xs room ≡ wrote k bs
      → raw_write kind first coord comp n ys room' ≡ wrote k' bs → xs ≡ ys
  no_two_share xs ys room room' k k' bs e f = sym (reads_back xs room k bs e) ∙ reads_back ys room' k' bs f

  -- a cut of any bytes gives a beginning of what the whole gives
  pub any_cut : (s : List ℕ) (k : ℕ) → Begins (raw_reading (format kind first coord comp n) (take k s)) (raw_reading (format kind first coord comp n) s)
  any_cut s k = cut_begins (format kind first coord comp n) s k

  -- a cut of an accepted list's bytes gives a beginning of the list
  pub cut_gives_beginning : (xs : List ℕ) (room k : ℕ) (bs : List ℕ) → raw_write kind first coord comp n xs room ≡ wrote k bs → (cut : ℕ)
      → Begins (raw_reading (format kind first coord comp n) (take cut bs)) xs
  cut_gives_beginning xs room k bs e cut = rw (reads_back xs room k bs e) at (any_cut bs cut)

-- ---- the writer's and the reader's contracts

begins_length : {xs ys : List ℕ} → Begins xs ys → length xs ≤ length ys
begins_length {xs} b = omega (arith, ap length b.is, length-append xs b.rest)

-- an accepted list's bytes are few enough for the raw reader, cut or whole, and with room for the list it gives their reading
read_cut : (kind : Kind) (first coord comp n : ℕ) (xs : List ℕ) (room k : ℕ) (bs : List ℕ) (room' cut : ℕ)
    → raw_write kind first coord comp n xs room ≡ wrote k bs → length xs ≤ room'
    → let ys : List ℕ = raw_reading (format kind first coord comp n) (take cut bs) in
    raw_read kind first coord comp n (take cut bs) room' ≡ wrote (length ys) ys
unfolding raw_read fitted
read_cut kind first coord comp n xs room k bs room' cut e h =
    let a = accepted kind first coord comp n xs room k bs e in
    let w = widths_readable_lem first coord comp a.widths in
    let b = accepted_bits kind first coord comp n xs a.bits w.of_first.few_bits w.of_coord.few_bits w.of_comp.few_bits a.are in
    let whole : length bs ≤ most_bytes = omega (arith, ap length a.in_bytes_lem, length-bytes a.bits, b.few, a.short) in
    let size : length (take cut bs) ≤ most_bytes = omega (arith, begins_length (begins_of_take cut bs)) in
    let few = begins_length (cut_gives_beginning kind first coord comp n xs room k bs e cut) in
    rw (a.widths, le-ltb most_components n a.components, le-ltb most_bytes (length (take cut bs)) size, le-ltb room' _ (le_trans few h))

-- the raw writer accepted xs, and the raw reader is lent the first of the bytes that it wrote, up to a cut, and room for the list
module _ (kind : Kind) (first coord comp n : ℕ) (xs entry exit entry' exit' : List ℕ) (r r' : Answer)
    (d : Done (raw_write kind first coord comp n xs (length entry)) entry r exit) (z : (told r).refused ≡ 0) (h : length xs ≤ length entry') where
  written : (k : ℕ) × (bs : List ℕ) × (raw_write kind first coord comp n xs (length entry) ≡ wrote k bs)
      × ((told r).count ≡ k) × (exit ≡ bs ++ drop (length bs) entry)
  written = not_refused (raw_write kind first coord comp n xs (length entry)) d z

  abbrev bs : List ℕ
  bs = written.1

  size : length bs ≡ (told r).count
  size =
      let a = accepted kind first coord comp n xs (length entry) written.0 bs written.2 in
      ap length a.in_bytes_lem ∙ sym a.count ∙ sym written.3

  abbrev reading : ℕ → List ℕ
  reading cut = raw_reading (format kind first coord comp n) (take cut bs)

  -- it gives the reading of those bytes
  up_to : (cut : ℕ) → cut ≤ (told r).count → Done (raw_read kind first coord comp n (take cut exit) (length entry')) entry' r' exit'
      → Done (wrote (length (reading cut)) (reading cut)) entry' r' exit'
  up_to cut c d' =
      let front : take cut exit ≡ take cut bs = ap (take cut) written.4 ∙ take-append-le cut bs (drop (length bs) entry) (omega (arith, size)) in
      let o : raw_read kind first coord comp n (take cut exit) (length entry') ≡ wrote (length (reading cut)) (reading cut) =
      ap (λ (s : List ℕ). raw_read kind first coord comp n s (length entry')) front
      ∙ read_cut kind first coord comp n xs (length entry) written.0 bs (length entry') cut written.2 h in
      subst (λ (x : Outcome ℕ). Done x entry' r' exit') o d'

  whole_is_list : reading (told r).count ≡ xs
  whole_is_list =
      ap (raw_reading (format kind first coord comp n)) (take_all (told r).count bs (omega (arith, size)))
      ∙ reads_back kind first coord comp n xs (length entry) written.0 bs written.2

  cut_is_beginning : (cut : ℕ) → Begins (reading cut) xs
  cut_is_beginning = cut_gives_beginning kind first coord comp n xs (length entry) written.0 bs written.2

-- the raw reader, lent the bytes that the raw writer wrote and room for the list, answers and leaves the list
pub reader_after_writer : (kind : Kind) (first coord comp n : ℕ) (xs entry exit entry' exit' : List ℕ) (r r' : Answer)
    → Done (raw_write kind first coord comp n xs (length entry)) entry r exit → (told r).refused ≡ 0
    → Done (raw_read kind first coord comp n (take (told r).count exit) (length entry')) entry' r' exit' → length xs ≤ length entry'
    → (told r' ≡ record { refused = 0; count = length xs }) × (exit' ≡ xs ++ drop (length xs) entry')
reader_after_writer kind first coord comp n xs entry exit entry' exit' r r' d z d' h =
    let read = up_to kind first coord comp n xs entry exit entry' exit' r r' d z h (told r).count (le_refl (told r).count) d' in
    let all = whole_is_list kind first coord comp n xs entry exit entry' exit' r r' d z h in
    let done : Done (wrote (length xs) xs) entry' r' exit' = subst (λ (l : List ℕ). Done (wrote (length l) l) entry' r' exit') all read in
    (done.answered, done.held)

-- lent only the first of those bytes, up to any cut, it answers no refusal, and leaves a beginning of the list, with what was there after it
pub cut_reader_after_writer : (kind : Kind) (first coord comp n : ℕ) (xs entry exit entry' exit' : List ℕ) (r r' : Answer) (cut : ℕ)
    → Done (raw_write kind first coord comp n xs (length entry)) entry r exit → (told r).refused ≡ 0 → cut ≤ (told r).count
    → Done (raw_read kind first coord comp n (take cut exit) (length entry')) entry' r' exit' → length xs ≤ length entry'
    → ((told r').refused ≡ 0) × Begins (take (told r').count exit') xs × (exit' ≡ take (told r').count exit' ++ drop (told r').count entry')
cut_reader_after_writer kind first coord comp n xs entry exit entry' exit' r r' cut d z c d' h =
    let done = up_to kind first coord comp n xs entry exit entry' exit' r r' d z h cut c d' in
    let ys : List ℕ = reading kind first coord comp n xs entry exit entry' exit' r r' d z h cut in
    let count : (told r').count ≡ length ys = ap (λ (t : Told). t.count) done.answered in
    let front : take (told r').count exit' ≡ ys = ap (take (told r').count) done.held ∙ take_at ys (drop (length ys) entry') (told r').count (sym count) in (
      ap (λ (t : Told). t.refused) done.answered,
      subst (λ (l : List ℕ). Begins l xs) (sym front) (cut_is_beginning kind first coord comp n xs entry exit entry' exit' r r' d z h cut),
      done.held ∙ ap₂ (λ (l : List ℕ) (k : ℕ). l ++ drop k entry') (sym front) (sym count),
    )
