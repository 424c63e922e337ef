-- What an answer says of the mesh: an accepted one has as many numbers for each triangle or patch, and no more than the output takes. Assumes nothing.
use Prim.Native.Nat.{ℕ, ◌+◌, ◌*◌, ◌/◌, ◌≤◌, ◌<◌}
use mathlib.Core.Path.{◌≡◌}
use mathlib.Core.Bool.{not}
use mathlib.Core.List.{List}
use mathlib.Core.Option.{none}
use native.Mathlib.Omega.{arith}
use borrow.Author.Tests.{ltb-false}
use lib.Dec.{ltb}
use lib.ListN.{length, take, drop, length-append, length-take, length-drop}
use lib.Ieee.{Float}
use Rattle.lists.specs.Lists.{All, Begins}
use Rattle.lists.proofs.Pieces.{length_part}
use Rattle.answers.specs.declared.Refusal.{Refusal}
use Rattle.answers.specs.declared.Refusal.TheVariants.{Layout, Components, Length, Room, Record, Thin, File}
use Rattle.std.specs.Prelude.{Ok, Err}
use Rattle.answers.specs.Limits.{most_components, most_bytes}
use Rattle.answers.specs.Outcome.{number_of, Outcome, refused, wrote, fitted, Done}
use Rattle.answers.proofs.Outcomes.{passed}
use Rattle.answers.proofs.OneOutcome.{one_answer}
use Rattle.records.specs.declared.shape.Kind.{Kind}
use Rattle.records.specs.declared.shape.Kind.TheVariants.{Four, Five, Six, Seven}
use Rattle.records.specs.Format.{whole_number}
use Rattle.records.specs.Layout.{layout_readable}
use Rattle.decode.specs.Decode.{Ranges}
use Rattle.rules.specs.Triangles.{FlagRule}
use Rattle.rules.specs.Lattice.{lattice}
use Rattle.rules.specs.Patches.{sides}
use Rattle.rules.specs.Meshes.{Source, Finished, flags, vertex4, vertex5, vertex_row, type4_mesh, type5_mesh, patch_mesh}
use Rattle.rules.specs.Ported.{binary_reader}
use Rattle.rules.specs.Inner.Sides.{Fits}
use Rattle.rules.proofs.Rows.{length-patch_mesh}
use Rattle.rules.proofs.Tables.{sides_fit}
use Rattle.meshes.specs.Decoded.{by_decode}
use Rattle.meshes.specs.Outcomes.{Stream, raw_of, decode_of, parsed, ported_reader}
use Rattle.meshes.proofs.Standing.{reads_decode}
use Rattle.triangles.proofs.Writing.{length-mesh}
use Rattle.msf.specs.Inner.Kinds.{stride_of}
use Rattle.msf.specs.File.{most_answer}

-- ---- refusals and answers

pub refusal_small : (r : Refusal) → number_of r < 1000
refusal_small Layout = omega arith
refusal_small Components = omega arith
refusal_small Length = omega arith
refusal_small (Room needed) = omega arith
refusal_small Record = omega arith
refusal_small Thin = omega arith
refusal_small File = omega arith

-- so many triangles or patches were written, and the output begins with their numbers
pub record Begun {A : Type 0} (o : Outcome A) (count : ℕ) (exit : List A) : Type 0 where
  pub numbers : List A
  pub is : o ≡ wrote count numbers
  pub begins : Begins numbers exit

module _ {A : Type 0} {entry exit : List A} where
  -- the outcome of a call that refused
  pub outcome_refused : (o : Outcome A) (r : Refusal) → Done o entry (Err r) exit → o ≡ refused r
  outcome_refused (refused q) r d =
      let e : Err r ≡ Err q = one_answer (Err r) (Err q) d.answered in
      cc
  outcome_refused (wrote k xs) r d =
      let e : Err r ≡ Ok k = one_answer (Err r) (Ok k) d.answered in
      let z : ◌≡◌ {A = ℕ} 0 1 = cc in
      absurd (omega arith)

  -- and of one that wrote
  pub outcome_wrote : (o : Outcome A) {count : ℕ} → Done o entry (Ok count) exit → Begun o count exit
  outcome_wrote (refused q) {count} d =
      let e : Ok count ≡ Err q = one_answer (Ok count) (Err q) d.answered in
      let z : ◌≡◌ {A = ℕ} 0 1 = cc in
      absurd (omega arith)
  outcome_wrote (wrote k xs) {count} d =
      let e : Ok count ≡ Ok k = one_answer (Ok count) (Ok k) d.answered in
      record {
        numbers = xs;
        is = cc;
        begins = record { rest = drop (length xs) entry; is = d.held };
      }

-- ---- the numbers of each mesh

module _ (R : Ranges) (n : ℕ) (xs : List ℕ) where
  length_vertex : (ys : List ℕ) → length ys ≡ n + 2 → length (vertex_row (by_decode whole_number R) ys) ≡ 10 + n
  length_vertex ys e =
      let point = (reads_decode whole_number R).point_sized (take 2 ys) (simp length-take (omega arith)) in
      let colour = (reads_decode whole_number R).colour_sized n (drop 2 ys) (simp length-drop (omega arith)) in
      omega (arith, length-append ((by_decode whole_number R).point (take 2 ys)) ((by_decode whole_number R).colour (drop 2 ys)))

  length_type4 : (rule : FlagRule) → length (type4_mesh rule (by_decode whole_number R) n xs).numbers ≡ (type4_mesh rule (by_decode whole_number R) n xs).count * (3 * (10 + n))
  unfolding type4_mesh vertex4
  length_type4 rule =
      length-mesh (λ (i : ℕ). vertex_row (by_decode whole_number R) (vertex4 0 n xs i)) (10 + n)
      (λ i. length_vertex (vertex4 0 n xs i) (length_part 0 xs (i * (n + 3) + 1) (n + 2)))
      (rule (flags 0 whole_number n xs))

  length_type5 : (row : ℕ) → length (type5_mesh row (by_decode whole_number R) n xs).numbers ≡ (type5_mesh row (by_decode whole_number R) n xs).count * (3 * (10 + n))
  unfolding type5_mesh vertex5
  length_type5 row =
      length-mesh (λ (i : ℕ). vertex_row (by_decode whole_number R) (vertex5 0 n xs i)) (10 + n)
      (λ i. length_vertex (vertex5 0 n xs i) (length_part 0 xs (i * (n + 2)) (n + 2)))
      (lattice (length xs / (n + 2)) row)

  length-patches : (own : ℕ) → All (Fits (4 + own)) sides
      → length (patch_mesh sides own (by_decode whole_number R) n xs).numbers ≡ (patch_mesh sides own (by_decode whole_number R) n xs).count * ((4 + own) * 2 + 4 * (8 + n))
  length-patches own fit =
      length-patch_mesh (by_decode whole_number R) 2 (8 + n) n (reads_decode whole_number R).point_sized ((reads_decode whole_number R).colour_sized n) sides own fit xs

-- ---- accepted meshes

-- so many numbers for each triangle or patch, and there is room for them
pub record Sized (stride n count : ℕ) (xs : List Float) : Type 0 where
  pub long : length xs ≡ count * stride
  pub few : n ≤ most_components
  pub fits : length xs ≤ most_answer

parsed_sized : (m : Stream) (mesh : Source ℕ Float → ℕ → List ℕ → Finished Float) (s : List ℕ) (stride : ℕ) {count : ℕ} {xs : List Float}
    → let M : Finished Float = mesh (decode_of m) m.n (raw_of m s) in
    length M.numbers ≡ M.count * stride → parsed m mesh s most_answer ≡ wrote count xs → Sized stride m.n count xs
unfolding parsed fitted
parsed_sized m mesh s stride {count} {xs} h e =
    let M : Finished Float = mesh (decode_of m) m.n (raw_of m s) in
    let ys : List Float = M.numbers in
    let layout = passed (not (layout_readable m.coord m.comp m.flag (length m.entries))) Layout _ e in
    let few = passed (ltb most_components m.n) Components _ layout.1 in
    let short = passed (ltb most_bytes (length s)) Length _ few.1 in
    let room = passed (ltb most_answer (length ys)) (Room (length ys)) _ short.1 in
    let same : ys ≡ xs = cc room.1 in
    let counts : M.count ≡ count = cc room.1 in
    record {
      long = rw (← same, ← counts) h;
      few = ltb-false _ _ few.0;
      fits = rw (← same) (ltb-false _ _ room.0);
    }

pub reader_sized : (kind : Kind) (s : List ℕ) (coord comp flag : ℕ) (entries : List Float) (n row : ℕ) {count : ℕ} {xs : List Float}
    → ported_reader kind s coord comp flag entries n row most_answer ≡ wrote count xs → Sized (stride_of kind n) n count xs
unfolding ported_reader
reader_sized Four s coord comp flag entries n row e = parsed_sized _ (type4_mesh (binary_reader none 0)) _ _ (length_type4 _ _ _ (binary_reader none 0)) e
reader_sized Five s coord comp flag entries n row e = parsed_sized _ (type5_mesh row) _ _ (length_type5 _ _ _ row) e
reader_sized Six s coord comp flag entries n row e = parsed_sized _ (patch_mesh sides 8) _ _ (length-patches _ _ _ 8 sides_fit.0) e
reader_sized Seven s coord comp flag entries n row e = parsed_sized _ (patch_mesh sides 12) _ _ (length-patches _ _ _ 12 sides_fit.1) e
