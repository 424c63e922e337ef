-- What the numbers of a record stand for: raw ones after Decode, those of a list as they are. Document 01, "Numbers and colours".
use Rattle.std.specs.Prelude.{ℕ, ◌+◌, List, [], ◌∷◌, Float}
use Rattle.std.specs.Float.{nan}
use Rattle.decode.specs.Decode.{Ranges, value_of, flag_of}
use Rattle.colour.specs.Colour.{colour_row}
use Rattle.records.specs.Format.{Meaning}
use Rattle.rules.specs.Meshes.{Source}

-- raw numbers after Decode, the first of them of kind k
unfoldable pub decoded : Ranges → ℕ → List ℕ → List Float
decoded R k [] = []
decoded R k (x ∷ xs) = value_of x (R k).scale (R k).min ∷ decoded R (k + 1) xs

-- a raw number is the flag that it means; kind 0 is x, kind 1 is y, and kind 2 is the first component
abbrev pub by_decode : Meaning → Ranges → Source ℕ Float
by_decode flag R =
    record {
      missing = 0;
      flag = flag;
      point = λ xs. decoded R 0 xs;
      colour = λ xs. colour_row (decoded R 2 xs);
    }

abbrev pub as_listed : Source Float Float
as_listed = record { missing = nan; flag = flag_of; point = λ xs. xs; colour = colour_row }
