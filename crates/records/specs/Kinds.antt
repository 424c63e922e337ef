-- The mesh types by their numbers in ISO 32000-1.
use Rattle.std.specs.Prelude.{ℕ, cond, eqb, Result, Ok, Err}
use Rattle.records.specs.declared.shape.Kind.{Kind}
use Rattle.records.specs.declared.shape.Kind.TheVariants.{Four, Five, Six, Seven}
use Rattle.records.specs.declared.shape.UnknownKind.{UnknownKind}

-- the type that has a number; or the number, which no type has
abbrev pub kind_numbered : ℕ → Result Kind UnknownKind
kind_numbered t =
    cond (eqb t 4) (Ok Four) (cond (eqb t 5) (Ok Five) (cond (eqb t 6) (Ok Six) (cond (eqb t 7) (Ok Seven) (Err (record { 0 = t })))))
