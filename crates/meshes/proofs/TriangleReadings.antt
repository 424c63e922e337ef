-- How the ported and the published reading of triangles go together. Assumes nothing.
use Prim.Native.Nat.{ℕ}
use mathlib.Core.Path.{◌≡◌, ap, ◌∙◌}
use mathlib.Core.Logic.{◌↔◌}
use mathlib.Core.List.{List, []}
use mathlib.Core.Option.{none}
use lib.ListN.{length}
use lib.Ieee.{Float, nan}
use Rattle.decode.specs.Decode.{flag_of}
use Rattle.records.specs.Format.{whole_number}
use Rattle.rules.specs.Triangles.{FlagRule, start, triangle_before, last_three, triangles}
use Rattle.rules.specs.Ported.{binary_reader, list_builder}
use Rattle.rules.proofs.Properties.{flags_used, NoTwoTwos}
use Rattle.rules.specs.Meshes.{Source, flags, type4_mesh}
use Rattle.rules.proofs.Ported.{binary_reader_lem, list_builder_lem}
use Rattle.rules.proofs.TwoRules.{same_where, counts_equal}
use Rattle.meshes.specs.Decoded.{as_listed}
use Rattle.meshes.specs.Outcomes.{parsed, parse4, built, build4}

-- two rules that give the flags the same triangles make the same mesh
by_triangles : {A B : Type 0} (rule rule' : FlagRule) (S : Source A B) (n : ℕ) (xs : List A)
    → rule (flags S.missing S.flag n xs) ≡ rule' (flags S.missing S.flag n xs) → type4_mesh rule S n xs ≡ type4_mesh rule' S n xs
unfolding type4_mesh
by_triangles rule rule' S n xs e = rw e

-- ---- from bytes

pub type4_ported : (s : List ℕ) (coord comp flag : ℕ) (entries : List Float) (n room : ℕ)
    → parse4 whole_number (binary_reader none 0) s coord comp flag entries n room ≡ parse4 whole_number (triangles triangle_before) s coord comp flag entries n room
unfolding parsed
type4_ported s coord comp flag entries n room = rw (by_triangles (binary_reader none 0) (triangles triangle_before) _ n _ (binary_reader_lem _))

-- ---- from a list

module _ (vs : List Float) (n : ℕ) where
  abbrev fs : List ℕ
  fs = flags nan flag_of n vs

  by_rules : (rule rule' : FlagRule) (room : ℕ) → rule fs ≡ rule' fs → build4 rule vs n room ≡ build4 rule' vs n room
  unfolding built
  by_rules rule rule' room e = rw (by_triangles rule rule' as_listed n vs e)

  pub list4_ported : (room : ℕ) → build4 (list_builder [] 0) vs n room ≡ build4 (triangles last_three) vs n room
  list4_ported room = by_rules (list_builder [] 0) (triangles last_three) room (list_builder_lem fs)

  -- the two readings always give equally many triangles
  pub list4_counts : (type4_mesh (list_builder [] 0) as_listed n vs).count ≡ (type4_mesh (triangles triangle_before) as_listed n vs).count
  unfolding type4_mesh
  list4_counts = ap length (list_builder_lem fs) ∙ counts_equal fs

  -- they are the same triangles exactly where no triangle comes by flag 2 right after one that came by flag 2; there the outcome is the same
  pub list4_same_where : (list_builder [] 0 fs ≡ triangles triangle_before fs) ↔ NoTwoTwos (flags_used start 0 fs)
  list4_same_where = rw (list_builder_lem fs) (same_where fs)

  pub list4_same : (room : ℕ) → NoTwoTwos (flags_used start 0 fs) → build4 (list_builder [] 0) vs n room ≡ build4 (triangles triangle_before) vs n room
  list4_same room h = by_rules (list_builder [] 0) (triangles triangle_before) room (list4_same_where.1 h)
