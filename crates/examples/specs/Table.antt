-- Document 01, "Examples (P is proved)": a row for each fact. Every answer is written as numbers: a float by its bits, a refusal by its number.
use Rattle.std.specs.Prelude.{Some, None, ℕ, Bool, true, false, ◌&&◌, cond, List, [], ◌∷◌, ◌++◌, map, eqb, Float}
use Rattle.lists.specs.Lists.{flat}
use Rattle.std.specs.Float.{nan, binary64}
use Rattle.std.specs.Float.Ieee.{of_bits, to_bits}
use Rattle.answers.specs.declared.Refusal.TheVariants.{Layout}
use Rattle.answers.specs.Outcome.{number_of, Outcome, refused, wrote}
use Rattle.bits.specs.Reading.{BitRead, read_at}
use Rattle.decode.specs.Decode.{flag_of}
use Rattle.colour.specs.declared.DeviceColor.{DeviceColor}
use Rattle.colour.specs.Colour.{colour_of}
use Rattle.records.specs.Layout.{layout_readable}
use Rattle.records.specs.declared.shape.Kind.TheVariants.{Four, Five}
use Rattle.records.specs.Format.{format, raw_reading}
use Rattle.packing.specs.Writer.{raw_write}
use Rattle.rules.specs.Triangles.{Tri, FlagRule, triangle_before, triangles}
use Rattle.rules.specs.Lattice.{lattice}
use Rattle.rules.specs.Ported.{list_builder}
use Rattle.meshes.specs.Outcomes.{build4}

-- an example's number in document 01, what the definitions give, and what document 01 has
pub record Row : Type 0 where
  pub p : ℕ
  pub gives : List ℕ
  pub has : List ℕ

abbrev pub row : ℕ → List ℕ → List ℕ → Row
row p gives has = record { p = p; gives = gives; has = has }

abbrev pub same : List ℕ → List ℕ → Bool
same [] [] = true
same (x ∷ xs) (y ∷ ys) = eqb x y && same xs ys
same [] (y ∷ ys) = false
same (x ∷ xs) [] = false

-- every row has what it gives
abbrev pub all_same : List Row → Bool
all_same [] = true
all_same (r ∷ rs) = same r.gives r.has && all_same rs

-- ---- answers as numbers

-- a number and the place after it; nothing for the end
abbrev pub read_numbers : BitRead → List ℕ
read_numbers (Some read) = read.0 ∷ read.1.0 ∷ []
read_numbers None = []

-- 0 where a layout is readable, else the number of LAYOUT
abbrev pub layout_number : Bool → List ℕ
layout_number ok = cond ok 0 (number_of Layout) ∷ []

-- a refusal's number; or 0, the count and the bytes
abbrev pub outcome_numbers : Outcome ℕ → List ℕ
outcome_numbers (refused r) = number_of r ∷ []
outcome_numbers (wrote count xs) = 0 ∷ count ∷ xs

-- the same of a mesh, each float by its bits
abbrev pub mesh_numbers : Outcome Float → List ℕ
mesh_numbers (refused r) = number_of r ∷ []
mesh_numbers (wrote count xs) = 0 ∷ count ∷ map (to_bits binary64) xs

-- the vertices of triangles, one after the other
abbrev pub vertices : List Tri → List ℕ
vertices ts = flat (λ (t : Tri). t.a ∷ t.b ∷ t.c ∷ []) ts

-- r, g, b
abbrev pub lights : DeviceColor → List ℕ
lights s = to_bits binary64 s.r ∷ to_bits binary64 s.g ∷ to_bits binary64 s.b ∷ []

-- ---- what the rows read

abbrev pub float : ℕ → Float
float bits = of_bits binary64 bits

abbrev pub five_bytes : List ℕ
five_bytes = 0x01 ∷ 0xFF ∷ 0xFF ∷ 0xFF ∷ 0xFE ∷ []

-- every width the same, or the coordinate, the component or the flag another one
abbrev pub widths : ℕ → ℕ → ℕ → List ℕ
widths coord comp flag = layout_number (layout_readable coord comp (Some flag) 4)

-- CMYK 0.25 0 0 0.5
abbrev pub inks : List Float
inks = float 0x3fd0_0000_0000_0000 ∷ float 0 ∷ float 0 ∷ float 0x3fe0_0000_0000_0000 ∷ []

-- the bits of 1.0, 2.0, 5.0 and 6.0; those of 0.0 are 0
abbrev pub bits1 : ℕ
bits1 = 0x3ff0_0000_0000_0000

abbrev pub bits2 : ℕ
bits2 = 0x4000_0000_0000_0000

abbrev pub bits5 : ℕ
bits5 = 0x4014_0000_0000_0000

abbrev pub bits6 : ℕ
bits6 = 0x4018_0000_0000_0000

-- a Type 4 list without components: vertices a to e, each with its flag first
abbrev pub five_vertices : List Float
five_vertices =
    map float (0 ∷ 0 ∷ 0 ∷ 0 ∷ bits1 ∷ 0 ∷ 0 ∷ 0 ∷ bits1 ∷ bits2 ∷ bits5 ∷ bits5 ∷ bits2 ∷ bits6 ∷ bits6 ∷ [])

-- what the list builder that goes by a rule comes to, with room for three triangles
abbrev pub by_rule : FlagRule → List ℕ
by_rule rule = mesh_numbers (build4 rule five_vertices 0 90)

-- a vertex without components: x, y, black, and no inks
abbrev pub black : ℕ → ℕ → List ℕ
black x y = x ∷ y ∷ 0 ∷ 0 ∷ 0 ∷ 0 ∷ 0 ∷ 0 ∷ 0 ∷ 0 ∷ []

abbrev pub vertex_a : List ℕ
vertex_a = black 0 0

abbrev pub vertex_b : List ℕ
vertex_b = black bits1 0

abbrev pub vertex_c : List ℕ
vertex_c = black 0 bits1

abbrev pub vertex_d : List ℕ
vertex_d = black bits5 bits5

abbrev pub vertex_e : List ℕ
vertex_e = black bits6 bits6

-- three triangles, of which the first two are a b c and a c d
abbrev pub and_third : List ℕ → List ℕ
and_third third = 0 ∷ 3 ∷ (vertex_a ++ (vertex_b ++ (vertex_c ++ (vertex_a ++ (vertex_c ++ (vertex_d ++ third))))))

unfoldable pub table : List Row
table =
    -- byte A5: 4 bits 10, then 4 bits 5
    row 1 (read_numbers (read_at (0xA5 ∷ []) 0 4)) (10 ∷ 4 ∷ [])
    ∷ row 1 (read_numbers (read_at (0xA5 ∷ []) 4 4)) (5 ∷ 8 ∷ [])
    -- from bit 7, 32 bits over five bytes
    ∷ row 2 (read_numbers (read_at five_bytes 7 32)) (4294967295 ∷ 39 ∷ [])
    -- 9 bits of one byte; 33 bits of five bytes
    ∷ row 3 (read_numbers (read_at (0xFF ∷ []) 0 9)) []
    ∷ row 3 (read_numbers (read_at five_bytes 0 33)) []
    -- widths 1 and 32 pass, 0 and 33 give LAYOUT
    ∷ row 4 (widths 1 1 1) (0 ∷ [])
    ∷ row 4 (widths 32 32 32) (0 ∷ [])
    ∷ row 4 (widths 0 8 8) (1 ∷ [])
    ∷ row 4 (widths 8 0 8) (1 ∷ [])
    ∷ row 4 (widths 8 8 0) (1 ∷ [])
    ∷ row 4 (widths 33 8 8) (1 ∷ [])
    ∷ row 4 (widths 8 33 8) (1 ∷ [])
    ∷ row 4 (widths 8 8 33) (1 ∷ [])
    -- Decode of 3 entries fails, of 4 passes, with a flag width and without
    ∷ row 4 (layout_number (layout_readable 8 8 (Some 8) 3)) (1 ∷ [])
    ∷ row 4 (layout_number (layout_readable 8 8 None 3)) (1 ∷ [])
    ∷ row 4 (layout_number (layout_readable 8 8 None 4)) (0 ∷ [])
    -- Type 5, widths 1 and 1, one component: THIN, with no room either. Widths 3 and 2: 5 2 3 writes AB
    ∷ row 5 (outcome_numbers (raw_write Five 1 1 1 1 (1 ∷ 1 ∷ 1 ∷ []) 0)) (6 ∷ [])
    ∷ row 5 (outcome_numbers (raw_write Five 3 3 2 1 (5 ∷ 2 ∷ 3 ∷ []) 1)) (0 ∷ 1 ∷ 0xAB ∷ [])
    -- Type 4, flag 2 bits, others 4, one component: 0 9 6 15 writes 25 BC and reads back as one vertex
    ∷ row 6 (outcome_numbers (raw_write Four 2 4 4 1 (0 ∷ 9 ∷ 6 ∷ 15 ∷ []) 2)) (0 ∷ 2 ∷ 0x25 ∷ 0xBC ∷ [])
    ∷ row 6 (raw_reading (format Four 2 4 4 1) (0x25 ∷ 0xBC ∷ [])) (0 ∷ 9 ∷ 6 ∷ 15 ∷ [])
    -- lattice of 6, row length 3; 7 vertices: the same; 5: none
    ∷ row 7 (vertices (lattice 6 3)) (0 ∷ 1 ∷ 3 ∷ 1 ∷ 4 ∷ 3 ∷ 1 ∷ 2 ∷ 4 ∷ 2 ∷ 5 ∷ 4 ∷ [])
    ∷ row 7 (vertices (lattice 7 3)) (vertices (lattice 6 3))
    ∷ row 7 (vertices (lattice 5 3)) []
    -- the third triangle is b d e ported and a d e published
    ∷ row 8 (by_rule (list_builder [] 0)) (and_third (vertex_b ++ (vertex_d ++ vertex_e)))
    ∷ row 8 (by_rule (triangles triangle_before)) (and_third (vertex_a ++ (vertex_d ++ vertex_e)))
    -- list flags NaN, -1, 1.9 are 0, 0, 1
    ∷ row 9 (flag_of nan ∷ flag_of (float 0xbff0_0000_0000_0000) ∷ flag_of (float 0x3ffe_6666_6666_6666) ∷ []) (0 ∷ 0 ∷ 1 ∷ [])
    -- r 0.25, g 0.5, b 0.5
    ∷ row 10 (lights (colour_of inks)) (0x3fd0_0000_0000_0000 ∷ 0x3fe0_0000_0000_0000 ∷ 0x3fe0_0000_0000_0000 ∷ [])
    ∷ []
