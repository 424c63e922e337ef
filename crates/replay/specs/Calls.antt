-- The eight ported functions, by the number that a stored file has for each, and what each comes to.
use Rattle.std.specs.Prelude.{ℕ, ◌*◌, cond, List, [], ◌==◌, Float, Option, Some, None}
use Rattle.answers.specs.Outcome.{Outcome}
use Rattle.records.specs.declared.shape.Kind.{Kind}
use Rattle.records.specs.declared.shape.Kind.TheVariants.{Four, Five, Six, Seven}
use Rattle.rules.specs.Ported.{list_builder}
use Rattle.rules.specs.Patches.{sides, list_sides}
use Rattle.meshes.specs.Outcomes.{ported_reader, build4, build5, build6, build7}
use Rattle.replay.specs.declared.calls.Function.{Function}
use Rattle.replay.specs.declared.calls.Function.TheVariants.{Reader, Builder}
use Rattle.replay.specs.declared.calls.Call.{Call}

unfoldable pub function_of : ℕ → Option Function
function_of x =
    cond (x == 4) (Some (Reader Four))
    (cond (x == 5) (Some (Reader Five))
    (cond (x == 6) (Some (Reader Six))
    (cond (x == 7) (Some (Reader Seven))
    (cond (x == 14) (Some (Builder Four))
    (cond (x == 15) (Some (Builder Five))
    (cond (x == 16) (Some (Builder Six))
    (cond (x == 17) (Some (Builder Seven))
    None)))))))

-- how many bytes an input takes: a reader's length counts bytes, a builder's numbers
abbrev pub bytes_of : Function → ℕ → ℕ
bytes_of (Reader kind) size = size
bytes_of (Builder kind) size = 8 * size

-- a builder over the numbers vs
abbrev pub builder_outcome : Kind → Call → List Float → ℕ → Outcome Float
builder_outcome Four c vs room = build4 (list_builder [] 0) vs c.n room
builder_outcome Five c vs room = build5 vs c.n c.row room
builder_outcome Six c vs room = build6 sides vs c.n room
builder_outcome Seven c vs room = build7 list_sides vs c.n room

abbrev pub outcome_of : Function → Call → List ℕ → List Float → List Float → ℕ → Outcome Float
outcome_of (Reader kind) c s entries vs room = ported_reader kind s c.coord c.comp c.flag entries c.n c.row room
outcome_of (Builder kind) c s entries vs room = builder_outcome kind c vs room

unfoldable pub outcome : Call → List ℕ → List Float → List Float → ℕ → Outcome Float
outcome c s entries vs room = outcome_of c.function c s entries vs room
