-- What a read of bits answers: document 01, "Bits".
use Rattle.std.specs.Prelude.{ℕ, ◌+◌, ◌*◌, ◌/◌, ◌^◌, List, Bool, ◌&&◌, cond, length, eqb, leb, ltb, Option, Some, None}
use Rattle.bits.specs.declared.BitPos.{BitPos}
use Rattle.bits.specs.Bits.{field_at}

-- the widths that a layout may have: document 01, LAYOUT
abbrev pub readable : ℕ → Bool
readable w = leb 1 w && leb w 32

-- all of the n bits at bit p exist, and a usize counts the place after them, as it does in any slice of under 2 ^ 61 bytes
abbrev pub exist : List ℕ → ℕ → ℕ → Bool
exist s p n = leb (p + n) (8 * length s) && ltb (p + n) (2 ^ 64)

-- the number that a read finds, and the place after it; or None: the end
abbrev pub BitRead : Type 0
BitRead = Option (ℕ × BitPos)

-- A read of 0 bits gives 0; of 1 to 32 bits gives the number if all bits exist; else the end. With a number comes the place after it.
unfoldable pub read_at : List ℕ → ℕ → ℕ → BitRead
read_at s p n =
    cond (eqb n 0) (Some (0, record { 0 = p }))
    (cond (leb n 32 && exist s p n) (Some (field_at s p n, record { 0 = p + n })) None)

-- the place divided by 8, rounded down, reaches the byte count
abbrev pub exhausted_at : List ℕ → ℕ → Bool
exhausted_at s p = leb (length s) (p / 8)
