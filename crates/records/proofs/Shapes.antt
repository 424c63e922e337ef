-- What can follow a record's first number, in each mesh type. Assumes nothing.
use mathlib.Core.Path.{◌≡◌, refl, sym, ap, subst}
use mathlib.Core.Bool.{Bool, true, false, ◌&&◌, cond}
use Prim.Native.Nat.{ℕ, zero, suc, ◌+◌, ◌*◌, ◌≤◌, ◌<◌}
use native.Mathlib.Nat.{mul-le-mul}
use native.Mathlib.Omega.{arith}
use borrow.Author.Tests.{ne_eqb, le-leb, lt-leb}
use lib.Dec.{leb, eqb-suc-zero}
use Rattle.records.specs.declared.shape.Kind.{Kind}
use Rattle.records.specs.declared.shape.Kind.TheVariants.{Four, Five, Six, Seven}
use Rattle.records.specs.declared.mesh.Mesh.{Mesh}
use Rattle.std.specs.Prelude.{Some, None}
use Rattle.records.specs.Following.{Following, follows, ends}
use Rattle.records.specs.Format.{patch_shape, shape_of}

-- what holds of a first patch, of a joined one and of the end holds of every patch
pub every_patch : (P : Following → Type 0) (own : ℕ) (started : Bool) (x : ℕ) → P (follows (2 * (4 + own)) 4) → P (follows (2 * own) 2) → P ends
    → P (patch_shape own started x)
every_patch P own started zero first joined last = first
every_patch P own started (suc x) first joined last = rw (eqb-suc-zero x) (go (started && leb (suc x) 3))
  where
    go : (t : Bool) → P (cond t (follows (2 * own) 2) ends)
    go true = joined
    go false = last

-- a patch by its flag
module _ (own : ℕ) (started : Bool) (x : ℕ) where
  pub first_patch : x ≡ 0 → follows (2 * (4 + own)) 4 ≡ patch_shape own started x
  first_patch e = ap (patch_shape own started) (sym e)

  pub none_joined : (x ≡ 0 → ⊥) → started ≡ false → ends ≡ patch_shape own started x
  none_joined n s = rw (ne_eqb x 0 n, s)

  pub flag_ends : (x ≡ 0 → ⊥) → started ≡ true → 3 < x → ends ≡ patch_shape own started x
  flag_ends n s h = rw (ne_eqb x 0 n, s, lt-leb x 3 h)

pub joined_patch : (own : ℕ) (started : Bool) (x : ℕ) → (x ≡ 0 → ⊥) → started ≡ true → x ≤ 3 → follows (2 * own) 2 ≡ patch_shape own started x
joined_patch own started zero n s h = absurd (n refl)
joined_patch own started (suc x) n s h = rw (eqb-suc-zero x, s, le-leb (suc x) 3 h)

-- no record has more than 32 coordinates and four colours
abbrev Few : Following → Type 0
Few (Some shape) = (shape.coords ≤ 32) × (shape.colours ≤ 4)
Few None = Unit {0}

few_shape : (kind : Kind) (started : Bool) (x : ℕ) → Few (shape_of kind started x)
few_shape Four started x = (omega arith, omega arith)
few_shape Five started x = (omega arith, omega arith)
few_shape Six started x = every_patch Few 8 started x (omega arith, omega arith) (omega arith, omega arith) tt
few_shape Seven started x = every_patch Few 12 started x (omega arith, omega arith) (omega arith, omega arith) tt

-- what follows a record's first number
pub record Small (m : Mesh) (coords colours : ℕ) : Type 0 where
  pub coords_few : coords ≤ 32
  pub comps_few : colours * m.n ≤ 128

pub small : (m : Mesh) (started : Bool) (x : ℕ) {coords colours : ℕ} → follows coords colours ≡ shape_of m.kind started x
    → Small m coords colours
small m started x {coords} {colours} e =
    let f : Few (follows coords colours) = subst Few (sym e) (few_shape m.kind started x) in
    record { coords_few = f.0; comps_few = mul-le-mul f.1 m.n_few }
