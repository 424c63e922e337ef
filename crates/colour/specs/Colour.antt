-- A colour out of its components, and its row of 8 + n numbers: document 01, "Numbers and colours" and "Refusal numbers".
use Rattle.std.specs.Prelude.{List, [], ◌∷◌, ◌++◌, Option, Some, None, Float}
use Rattle.decode.specs.Floats.{float0, float1}
use Rattle.colour.specs.Light.{clamp_of, light_of}
use Rattle.colour.specs.declared.DeviceColor.{DeviceColor}
use Rattle.colour.specs.declared.Cmyk.{Cmyk}

abbrev pub rgb_of : Float → Float → Float → DeviceColor
rgb_of r g b = record { r = r; g = g; b = b; inks = None }

abbrev pub gray_of : Float → DeviceColor
gray_of gray = rgb_of gray gray gray

abbrev pub cmyk_of : Float → Float → Float → Float → DeviceColor
cmyk_of c m y k = record { r = light_of c k; g = light_of m k; b = light_of y k; inks = Some (record { c = c; m = m; y = y; k = k }) }

-- one component is grey, three are RGB, four are CMYK, five or more use the first three as RGB, none or two give black
unfoldable pub colour_of : List Float → DeviceColor
colour_of [] = gray_of float0
colour_of (a ∷ []) = gray_of (clamp_of a)
colour_of (a ∷ (b ∷ [])) = gray_of float0
colour_of (a ∷ (b ∷ (c ∷ []))) = rgb_of (clamp_of a) (clamp_of b) (clamp_of c)
colour_of (a ∷ (b ∷ (c ∷ (d ∷ [])))) = cmyk_of (clamp_of a) (clamp_of b) (clamp_of c) (clamp_of d)
colour_of (a ∷ (b ∷ (c ∷ (d ∷ (e ∷ l))))) = rgb_of (clamp_of a) (clamp_of b) (clamp_of c)

-- mark, c, m, y, k: the mark is 1 with inks, else 0, with 0 for the four inks
abbrev pub ink_numbers : Option Cmyk → List Float
ink_numbers None = float0 ∷ float0 ∷ float0 ∷ float0 ∷ float0 ∷ []
ink_numbers (Some inks) = float1 ∷ inks.c ∷ inks.m ∷ inks.y ∷ inks.k ∷ []

-- r, g, b, mark, c, m, y, k
abbrev pub colour_numbers : DeviceColor → List Float
colour_numbers s = s.r ∷ s.g ∷ s.b ∷ ink_numbers s.inks

-- the row of a colour: its eight numbers, then the raw components, unclamped
unfoldable pub colour_row : List Float → List Float
colour_row comps = colour_numbers (colour_of comps) ++ comps
