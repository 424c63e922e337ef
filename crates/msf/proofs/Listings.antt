-- An answer decides the listing. Assumes nothing.
use Prim.Native.Nat.{ℕ, ◌*◌, ◌≤◌, ◌<◌}
use mathlib.Core.Path.{◌≡◌, refl, ap, ◌∙◌}
use mathlib.Core.List.{List, [], ◌∷◌, ◌++◌}
use native.Mathlib.Nat.{mul-le-mul_left}
use native.Mathlib.Omega.{arith}
use lib.ListN.{take}
use lib.Seq.{take_at}
use lib.Ieee.{Float}
use Rattle.answers.specs.Outcome.{number_of, Answer, Done}
use Rattle.answers.specs.declared.Refusal.{Refusal}
use Rattle.std.specs.Prelude.{Ok, Err, IfOk}
use Rattle.records.specs.declared.shape.Kind.{Kind}
use Rattle.records.specs.declared.shape.Kind.TheVariants.{Four, Five, Six, Seven}
use Rattle.msf.specs.declared.header.Header.{Header}
use Rattle.msf.specs.Text.{decimal}
use Rattle.msf.specs.Listing.{line, mesh_lines, type_of, refused_line, listing}
use Rattle.msf.specs.Inner.Headers.{answer_to}
use Rattle.msf.specs.Inner.Kinds.{stride_of, IsListable}
use Rattle.msf.proofs.Answers.{outcome_refused, Begun, outcome_wrote, Sized, reader_sized}

-- the count of triangles or patches has three digits at most
count_low : (kind : Kind) (n count : ℕ) → count * stride_of kind n ≤ 8192 → count < 1000
count_low kind n count h = omega (arith, mul-le-mul_left count (wide kind))
  where
    wide : (k : Kind) → 30 ≤ stride_of k n
    wide Four = omega arith
    wide Five = omega arith
    wide Six = omega arith
    wide Seven = omega arith

module _ (h : Header) {entry exit : List Float} where
  pub refused_listing : (q : Refusal) → Done (answer_to h) entry (Err q) exit → refused_line (number_of q) ≡ listing h.kind h.components (answer_to h)
  unfolding listing
  refused_listing q d = rw (outcome_refused (answer_to h) q d) refl

  module _ {count : ℕ} (d : Done (answer_to h) entry (Ok count) exit) where
    begun : Begun (answer_to h) count exit
    begun = outcome_wrote (answer_to h) d

    sized : Sized (stride_of h.kind h.components) h.components count begun.numbers
    unfolding answer_to
    sized = reader_sized h.kind h.data.now h.coord h.comp h.flag _ h.components h.row begun.is

    pub mesh_listable : IsListable h.kind h.components count
    mesh_listable =
        let z = sized in
        let room : count * stride_of h.kind h.components ≤ 8192 = rw (← z.long) z.fits in
        record { few = z.few; low = count_low h.kind h.components count room; room = room }

    -- the numbers that were written
    pub mesh_listing : (numbers : List Float) → numbers ≡ take (count * stride_of h.kind h.components) exit
        → line (decimal (type_of h.kind) ∷ decimal count ∷ []) ++ mesh_lines h.kind h.components numbers count ≡ listing h.kind h.components (answer_to h)
    unfolding listing
    mesh_listing numbers e =
        let front : numbers ≡ begun.numbers = e ∙ ap (take (count * stride_of h.kind h.components)) begun.begins.is ∙ take_at begun.numbers begun.begins.rest _ sized.long in
        rw (begun.is, front) refl

  pub listable : (r : Answer) → Done (answer_to h) entry r exit → IfOk r (IsListable h.kind h.components)
  listable (Ok count) d = mesh_listable d
  listable (Err q) d = tt
