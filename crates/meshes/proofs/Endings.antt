-- How a call of a reader or of a builder ends: refused, whatever its mesh, or with the mesh that its input makes. Assumes nothing.
use Prim.Native.Nat.{ℕ, ◌≤◌, ◌<◌}
use mathlib.Core.Path.{◌≡◌}
use mathlib.Core.Bool.{Bool, true, false}
use mathlib.Core.List.{List}
use borrow.Author.Tests.{lt-ltb, le-ltb}
use lib.ListN.{length}
use lib.Ieee.{Float}
use Rattle.answers.specs.declared.Refusal.TheVariants.{Layout, Components, Length}
use Rattle.answers.specs.Limits.{most_components, most_bytes, most_numbers}
use Rattle.answers.specs.Outcome.{refused}
use Rattle.records.specs.Layout.{layout_readable}
use Rattle.rules.specs.Meshes.{Source, Finished}
use Rattle.meshes.specs.Decoded.{as_listed}
use Rattle.meshes.specs.Outcomes.{fitted_mesh, Stream, raw_of, decode_of, parsed, built}

module _ (m : Stream) (mesh : Source ℕ Float → ℕ → List ℕ → Finished Float) (s : List ℕ) (room : ℕ) where
  abbrev layout : Bool
  layout = layout_readable m.coord m.comp m.flag (length m.entries)

  pub unreadable : layout ≡ false → parsed m mesh s room ≡ refused Layout
  unfolding parsed
  unreadable e = rw e

  module _ (e : layout ≡ true) where
    pub many_components : most_components < m.n → parsed m mesh s room ≡ refused Components
    unfolding parsed
    many_components h = rw e (simp (lt-ltb _ _ h))

    module _ (few : m.n ≤ most_components) where
      pub too_long : most_bytes < length s → parsed m mesh s room ≡ refused Length
      unfolding parsed
      too_long h = rw e (simp (le-ltb _ _ few, lt-ltb _ _ h))

      pub accepted : length s ≤ most_bytes → parsed m mesh s room ≡ fitted_mesh (mesh (decode_of m) m.n (raw_of m s)) room
      unfolding parsed
      accepted h = rw e (simp (le-ltb _ _ few, le-ltb _ _ h))

module _ (mesh : Source Float Float → ℕ → List Float → Finished Float) (n : ℕ) (vs : List Float) (room : ℕ) where
  pub list_components : most_components < n → built mesh n vs room ≡ refused Components
  unfolding built
  list_components h = simp (lt-ltb _ _ h)

  module _ (few : n ≤ most_components) where
    pub list_too_long : most_numbers < length vs → built mesh n vs room ≡ refused Length
    unfolding built
    list_too_long h = simp (le-ltb _ _ few, lt-ltb _ _ h)

    pub list_accepted : length vs ≤ most_numbers → built mesh n vs room ≡ fitted_mesh (mesh as_listed n vs) room
    unfolding built
    list_accepted h = simp (le-ltb _ _ few, le-ltb _ _ h)
