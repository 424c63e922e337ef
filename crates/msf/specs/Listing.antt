-- The lines of a listing: document 01, "Dump program". The numbers are a reader's rows.
use Rattle.std.specs.Prelude.{ℕ, ◌+◌, ◌*◌, cond, List, [], ◌∷◌, ◌++◌, map, take, drop, get_or, Float}
use Rattle.std.specs.Float.{nan}
use Rattle.std.specs.Float.Ieee.{eq}
use Rattle.lists.specs.Lists.{joined, part, flat}
use Rattle.answers.specs.Outcome.{number_of, Outcome, refused, wrote}
use Rattle.decode.specs.Floats.{float1}
use Rattle.records.specs.declared.shape.Kind.{Kind}
use Rattle.records.specs.declared.shape.Kind.TheVariants.{Four, Five, Six, Seven}
use Rattle.msf.specs.Text.{decimal, float_text}

-- each word with a space before it
unfoldable pub spaced : List (List ℕ) → List ℕ
spaced words = flat (λ (w : List ℕ). 32 ∷ w) words

-- words with a space between them, and the end of the line
unfoldable pub line : List (List ℕ) → List ℕ
line [] = 10 ∷ []
line (w ∷ ws) = w ++ (spaced ws ++ (10 ∷ []))

-- mark, the inks where it is 1, then the components; row is a colour's 8 + n numbers
unfoldable pub ink_words : List Float → List (List ℕ)
ink_words row =
    cond (eq (get_or row 3 nan) float1)
    (decimal 1 ∷ map float_text (drop 4 row))
    (decimal 0 ∷ map float_text (drop 8 row))

-- r g b mark, the inks where the mark is 1, then the components
unfoldable pub colour_words : List Float → List (List ℕ)
colour_words row = map float_text (take 3 row) ++ ink_words row

-- so many coordinates, then the colour: a vertex has x y, a colour alone none
unfoldable pub row_line : ℕ → List Float → List ℕ
row_line coords row = line (map float_text (take coords row) ++ colour_words (drop coords row))

abbrev pub colour_line : List Float → List ℕ
colour_line = row_line 0

abbrev pub vertex_line : List Float → List ℕ
vertex_line = row_line 2

unfoldable pub point_line : List Float → List ℕ
point_line point = line (map float_text point)

-- a line for each of k rows of m numbers, which begin at index from
unfoldable pub lines : (List Float → List ℕ) → ℕ → List Float → ℕ → ℕ → List ℕ
lines text m xs from k = joined k (λ (i : ℕ). text (part nan xs (from + i * m) m))

-- each patch is so many points, then four colours
unfoldable pub patch_lines : ℕ → ℕ → List Float → ℕ → List ℕ
patch_lines points n xs from = lines point_line 2 xs from points ++ lines colour_line (8 + n) xs (from + 2 * points) 4

unfoldable pub patches_lines : ℕ → ℕ → List Float → ℕ → List ℕ
patches_lines points n xs count = joined count (λ (i : ℕ). patch_lines points n xs (i * (2 * points + 4 * (8 + n))))

unfoldable pub mesh_lines : Kind → ℕ → List Float → ℕ → List ℕ
mesh_lines Four n xs count = lines vertex_line (10 + n) xs 0 (3 * count)
mesh_lines Five n xs count = lines vertex_line (10 + n) xs 0 (3 * count)
mesh_lines Six n xs count = patches_lines 12 n xs count
mesh_lines Seven n xs count = patches_lines 16 n xs count

abbrev pub type_of : Kind → ℕ
type_of Four = 4
type_of Five = 5
type_of Six = 6
type_of Seven = 7

-- `refused N`; or the type and the count, then the mesh
unfoldable pub refused_line : ℕ → List ℕ
refused_line number = line ((114 ∷ 101 ∷ 102 ∷ 117 ∷ 115 ∷ 101 ∷ 100 ∷ []) ∷ decimal number ∷ [])

unfoldable pub listing : Kind → ℕ → Outcome Float → List ℕ
listing kind n (refused r) = refused_line (number_of r)
listing kind n (wrote count xs) = line (decimal (type_of kind) ∷ decimal count ∷ []) ++ mesh_lines kind n xs count
