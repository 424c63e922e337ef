-- The function of a number, and what a call of it comes to. Assumes nothing.
use Rattle.std.proofs.Common.{◌≡◌, ℕ, ◌+◌, ◌-◌, ◌<◌, ◌≤◌, Bool, true, false, cond, eqb, List, refl, sym, subst, ne_eqb, arith}
use Rattle.std.specs.Prelude.{Option, Some, None, option_map, Ok, Err}
use Rattle.std.specs.Result.{result_ok}
use Rattle.std.proofs.lemmas.Bool.Decides.{nat_tests}
use lib.Ieee.{Float}
use Rattle.answers.specs.declared.Told.{Told}
use Rattle.answers.specs.Outcome.{Tells}
use Rattle.records.specs.declared.shape.Kind.{Kind}
use Rattle.records.specs.declared.shape.Kind.TheVariants.{Four, Five, Six, Seven}
use Rattle.records.specs.declared.shape.UnknownKind.{UnknownKind}
use Rattle.records.specs.Kinds.{kind_numbered}
use Rattle.meshes.specs.Outcomes.{ported_reader}
use Rattle.replay.specs.declared.calls.Function.{Function}
use Rattle.replay.specs.declared.calls.Function.TheVariants.{Reader, Builder}
use Rattle.replay.specs.declared.calls.Call.{Call}
use Rattle.replay.specs.Calls.{function_of, builder_outcome, outcome_of, outcome}

-- the functions of the four types, picked by four tests
four : (f : Kind → Function) (e : UnknownKind) (a b c d : Bool)
    → option_map f (result_ok (cond a (Ok Four) (cond b (Ok Five) (cond c (Ok Six) (cond d (Ok Seven) (Err e))))))
    ≡ cond a (Some (f Four)) (cond b (Some (f Five)) (cond c (Some (f Six)) (cond d (Some (f Seven)) None)))
four f e true b c d = refl
four f e false true c d = refl
four f e false false true d = refl
four f e false false false true = refl
four f e false false false false = refl

ten_more : (x k m : ℕ) → 10 ≤ x → k + 10 ≡ m → eqb (x - 10) k ≡ eqb x m
ten_more x k m h e = grind (arith, nat_tests)

module _ (x : ℕ) (o : Option Kind) where
  pub reader_numbered : x < 10 → o ≡ result_ok (kind_numbered x) → option_map Reader o ≡ function_of x
  unfolding function_of
  reader_numbered h e =
      rw (e, ne_eqb x 14 (omega arith), ne_eqb x 15 (omega arith), ne_eqb x 16 (omega arith), ne_eqb x 17 (omega arith))
      (four Reader (record { 0 = x }) (eqb x 4) (eqb x 5) (eqb x 6) (eqb x 7))

  pub builder_numbered : 10 ≤ x → o ≡ result_ok (kind_numbered (x - 10)) → option_map Builder o ≡ function_of x
  unfolding function_of
  builder_numbered h e =
      rw (
        e,
        ten_more x 4 14 h refl,
        ten_more x 5 15 h refl,
        ten_more x 6 16 h refl,
        ten_more x 7 17 h refl,
        ne_eqb x 4 (omega arith),
        ne_eqb x 5 (omega arith),
        ne_eqb x 6 (omega arith),
        ne_eqb x 7 (omega arith),
      ) (four Builder (record { 0 = x - 10 }) (eqb x 14) (eqb x 15) (eqb x 16) (eqb x 17))

module _ (call : Call) (s : List ℕ) (entries vs : List Float) (room : ℕ) {entry exit : List Float} {t : Told} {kind : Kind} where
  pub done_reader : call.function ≡ Reader kind
      → Tells (ported_reader kind s call.coord call.comp call.flag entries call.n call.row room) entry t exit
      → Tells (outcome call s entries vs room) entry t exit
  unfolding outcome
  done_reader e d = subst (λ (f : Function). Tells (outcome_of f call s entries vs room) entry t exit) (sym e) d

  pub done_builder : call.function ≡ Builder kind → Tells (builder_outcome kind call vs room) entry t exit
      → Tells (outcome call s entries vs room) entry t exit
  unfolding outcome
  done_builder e d = subst (λ (f : Function). Tells (outcome_of f call s entries vs room) entry t exit) (sym e) d
