-- What each form of patches has: three sides, each of which is there in a patch, and what follows a flag. Assumes nothing.
use Prim.Native.Nat.{ℕ, zero, suc, ◌+◌, ◌*◌, ◌≤◌, ◌<◌}
use mathlib.Core.Path.{◌≡◌, refl, ap}
use mathlib.Core.Bool.{Bool, true, false, ◌&&◌, cond}
use native.Mathlib.Omega.{arith}
use borrow.Author.Tests.{leb-true, leb-false}
use lib.Dec.{leb, eqb-suc-zero}
use lib.ListN.{length}
use Rattle.std.specs.Prelude.{Some, None}
use Rattle.lists.specs.Lists.{All}
use Rattle.records.specs.declared.shape.Shape.{Shape}
use Rattle.records.specs.Following.{follows, ends}
use Rattle.records.specs.Format.{Meaning, points_after, colours_after, patch_shape, shape_of, format_by}
use Rattle.rules.specs.Inner.Sides.{Fits}
use Rattle.rules.proofs.RawReading.{patch_format}
use Rattle.rules.proofs.Tables.{sides_fit}
use Rattle.patches.specs.declared.forms.Form.{Form}
use Rattle.patches.specs.declared.forms.Form.TheVariants.{Coons, Tensor, Grid}
use Rattle.patches.specs.Inner.Forms.{kind_of, own_of, table_of}
use Rattle.patches.specs.Inner.Records.{most_after}

pub three_sides : (form : Form) → length (table_of form) ≡ 3
three_sides Coons = refl
three_sides Tensor = refl
three_sides Grid = refl

pub table_fits : (form : Form) → All (Fits (4 + own_of form)) (table_of form)
table_fits Coons = sides_fit.0
table_fits Tensor = sides_fit.1
table_fits Grid = sides_fit.2

pub own_few : (form : Form) → own_of form ≤ 12
own_few Coons = omega arith
own_few Tensor = omega arith
own_few Grid = omega arith

pub format_is : (form : Form) (meaning : Meaning) (first coord comp n : ℕ)
    → format_by meaning (kind_of form) first coord comp n ≡ patch_format meaning (own_of form) first coord comp n
format_is Coons meaning first coord comp n = refl
format_is Tensor meaning first coord comp n = refl
format_is Grid meaning first coord comp n = refl

-- ---- what follows a flag, which may come

pub record Follows (own : ℕ) (started : Bool) (f : ℕ) (shape : Shape) : Type 0 where
  pub allowed : f ≤ most_after started
  pub coords_are : shape.coords ≡ 2 * points_after own f
  pub colours_are : shape.colours ≡ colours_after f

same_shape : (own f : ℕ) (started : Bool) (shape : Shape) → f ≤ most_after started → Some shape ≡ follows (2 * points_after own f) (colours_after f)
    → Follows own started f shape
same_shape own f started shape a e =
    let s : shape ≡ record { coords = 2 * points_after own f; colours = colours_after f } = cc in
    record { allowed = a; coords_are = ap (λ (x : Shape). x.coords) s; colours_are = ap (λ (x : Shape). x.colours) s }

-- by what decides whether a joined patch may come
module _ (own f : ℕ) (shape : Shape) where
  by_tests : (started b : Bool) → leb (suc f) 3 ≡ b → Some shape ≡ cond (started && b) (follows (2 * own) 2) ends → Follows own started (suc f) shape
  by_tests true true t e = same_shape own (suc f) true shape (leb-true _ _ t) e
  by_tests true false t e = absurd (cc)
  by_tests false b t e = absurd (cc)

  pub shape_follows_suc : (started : Bool) → Some shape ≡ patch_shape own started (suc f) → Follows own started (suc f) shape
  shape_follows_suc started e = by_tests started (leb (suc f) 3) refl (rw (eqb-suc-zero f) at e)

shape_follows : (own : ℕ) (started : Bool) (f : ℕ) (shape : Shape) → Some shape ≡ patch_shape own started f → Follows own started f shape
shape_follows own started zero shape e = same_shape own 0 started shape (omega arith) e
shape_follows own started (suc f) shape e = shape_follows_suc own f shape started e

shape_ends : (own : ℕ) (started : Bool) (f : ℕ) → None ≡ patch_shape own started f → most_after started < f
shape_ends own started zero e = absurd (cc)
shape_ends own started (suc f) e = by_tests started (leb (suc f) 3) refl (rw (eqb-suc-zero f) at e)
  where
    by_tests : (started b : Bool) → leb (suc f) 3 ≡ b → None ≡ cond (started && b) (follows (2 * own) 2) ends → most_after started < suc f
    by_tests true true t e = absurd (cc)
    by_tests true false t e = leb-false _ _ t
    by_tests false b t e = omega arith

shape_is : (form : Form) (started : Bool) (f : ℕ) → shape_of (kind_of form) started f ≡ patch_shape (own_of form) started f
shape_is Coons started f = refl
shape_is Tensor started f = refl
shape_is Grid started f = refl

module _ (form : Form) (started : Bool) (f : ℕ) where
  pub form_follows : (shape : Shape) → Some shape ≡ shape_of (kind_of form) started f → Follows (own_of form) started f shape
  form_follows shape e = shape_follows (own_of form) started f shape (rw (shape_is form started f) at e)

  pub form_ends : None ≡ shape_of (kind_of form) started f → most_after started < f
  form_ends e = shape_ends (own_of form) started f (rw (shape_is form started f) at e)
