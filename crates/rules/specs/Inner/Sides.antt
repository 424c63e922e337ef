-- What a table's sides need of a patch.
use Rattle.std.specs.Prelude.{◌≡◌, ℕ, length}
use Rattle.lists.specs.Lists.{AllBelow}
use Rattle.rules.specs.Patches.{Patch, Places}

-- so many points and so many colours
abbrev pub Sized : {P C : Type 0} → ℕ → ℕ → Patch P C → Type 0
Sized points colours p = (length p.points ≡ points) × (length p.colours ≡ colours)

-- a side has four points and two colours, all among a patch's so many points and four colours
abbrev pub Fits : ℕ → Places → Type 0
Fits points side = Sized 4 2 side × AllBelow points side.points × AllBelow 4 side.colours
