-- The words of a line, as the code writes them. Assumes nothing.
use Prim.Native.Nat.{ℕ, suc, ◌+◌, ◌<◌}
use mathlib.Core.Path.{◌≡◌, refl}
use mathlib.Core.Bool.{true, false}
use mathlib.Core.List.{List, [], ◌∷◌, ◌++◌, map, map-append, append_assoc, append-nil}
use native.Mathlib.Omega.{arith}
use lib.ListN.{length, get_or, take, drop}
use lib.Seq.{take-add}
use lib.Ieee.{Float, nan, eq}
use Rattle.std.proofs.lemmas.List.{map_more}
use Rattle.lists.specs.Lists.{flat}
use Rattle.lists.proofs.Pieces.{flat_more, flat_append}
use Rattle.decode.specs.Floats.{float1}
use Rattle.msf.specs.Text.{decimal, float_text, glyph}
use Rattle.msf.specs.Listing.{spaced, line, ink_words, colour_words, row_line, point_line, refused_line}
use Rattle.msf.proofs.Digits.{decimal_one}

-- ---- numbers with spaces before them

pub spaced_append : (a b : List (List ℕ)) → spaced (a ++ b) ≡ spaced a ++ spaced b
unfolding spaced
spaced_append = flat_append (λ (w : List ℕ). 32 ∷ w)

-- one number more
pub spaced_more : (xs : List Float) (i : ℕ) (d : Float) → i < length xs
    → spaced (map float_text (take (i + 1) xs)) ≡ spaced (map float_text (take i xs)) ++ ((32 ∷ []) ++ float_text (get_or xs i d))
unfolding spaced
spaced_more xs i d h = rw (map_more float_text xs i d h) (flat_more (λ (w : List ℕ). 32 ∷ w) (map float_text (take i xs)) (float_text (get_or xs i d)))

-- ---- lines, the first number of which has no space before it

line_words : (x : Float) (xs : List Float) (ws : List (List ℕ))
    → line (map float_text (x ∷ xs) ++ ws) ≡ (float_text x ++ spaced (map float_text xs)) ++ (spaced ws ++ (10 ∷ []))
unfolding line
line_words x xs ws = rw (spaced_append (map float_text xs) ws) (simp append_assoc)

pub point_text : (row : List Float) → 0 < length row
    → point_line row ≡ (float_text (get_or row 0 nan) ++ spaced (map float_text (drop 1 row))) ++ (10 ∷ [])
unfolding point_line line
point_text [] h = absurd (omega arith)
point_text (x ∷ xs) h = simp append_assoc

pub row_text : (coords : ℕ) (row : List Float) → 0 < length row
    → row_line coords row ≡ (float_text (get_or row 0 nan) ++ spaced (map float_text (take (coords + 2) (drop 1 row)))) ++ (spaced (ink_words (drop coords row)) ++ (10 ∷ []))
unfolding row_line colour_words
row_text coords [] h = absurd (omega arith)
row_text coords (x ∷ xs) h =
    let three : coords + 3 ≡ suc (coords + 2) = omega arith in
    let front : take coords (x ∷ xs) ++ take 3 (drop coords (x ∷ xs)) ≡ x ∷ take (coords + 2) xs = rw (← (take-add coords 3 (x ∷ xs)), three) refl in
    rw (← append_assoc, ← map-append, front) (line_words x (take (coords + 2) xs) (ink_words (drop coords (x ∷ xs))))

-- after the mark: the inks where it is 1, then the components
pub ink_words_lem : (row : List Float) → eq (get_or row 3 nan) float1 ≡ true → ink_words row ≡ decimal 1 ∷ map float_text (drop 4 row)
unfolding ink_words
ink_words_lem row e = rw e refl

pub no_ink_words : (row : List Float) → eq (get_or row 3 nan) float1 ≡ false → ink_words row ≡ decimal 0 ∷ map float_text (drop 8 row)
unfolding ink_words
no_ink_words row e = rw e refl

pub marked_text : (mark : ℕ) (ws : List (List ℕ)) → mark < 10
    → spaced (decimal mark ∷ ws) ++ (10 ∷ []) ≡ (((32 ∷ []) ++ (glyph mark ∷ [])) ++ spaced ws) ++ (10 ∷ [])
unfolding spaced flat
marked_text mark ws h = rw (decimal_one mark h)

-- a line of two words
pub two_words : (w v : List ℕ) → line (w ∷ v ∷ []) ≡ ((w ++ (32 ∷ [])) ++ v) ++ (10 ∷ [])
unfolding line spaced flat
two_words w v = simp (append_assoc, append-nil)

pub refused_text : (number : ℕ) → refused_line number ≡ ((114 ∷ 101 ∷ 102 ∷ 117 ∷ 115 ∷ 101 ∷ 100 ∷ 32 ∷ []) ++ decimal number) ++ (10 ∷ [])
unfolding refused_line
refused_text number = two_words _ _
