-- The flags that a reading of bytes meets and their upper bits, for theorems on what a flag means.
use Rattle.std.specs.Prelude.{Bool, true, cond, List, [], ◌∷◌, ◌++◌, ℕ, zero, suc, ◌-◌, leb, length, take, drop, replicate}
use Rattle.std.proofs.Math.Option.{none, some}
use Rattle.bits.specs.Bits.{number}
use Rattle.records.specs.Format.{sum, Format, next}

-- the numbers read where a record may begin and all bits of its first number are there, of k records at most
unfoldable pub met : Format → ℕ → Bool → List ℕ → List ℕ
met F zero started bits = []
met F (suc k) started bits =
    cond (leb F.first (length bits))
    (number (take F.first bits) ∷ elim (next F started bits) [ none ↦ [] | some ws ↦ met F k true (drop (sum ws) bits) ])
    []

-- the bits of a flag with all but the two low ones cleared
unfoldable pub lowered : List ℕ → List ℕ
lowered flag = replicate (length flag - 2) 0 ++ drop (length flag - 2) flag

-- the bits with the upper bits of each flag cleared at its place, of k records at most
unfoldable pub cleared : Format → ℕ → Bool → List ℕ → List ℕ
cleared F zero started bits = bits
cleared F (suc k) started bits =
    cond (leb F.first (length bits))
    (lowered (take F.first bits)
    ++ elim (next F started bits) [
      | none ↦ drop F.first bits
      | some ws ↦ take (sum ws - F.first) (drop F.first bits) ++ cleared F k true (drop (sum ws) bits)
    ])
    bits

-- where a reading of k records at most ends: whether a record came before, and the bits that are left
pub record Left : Type 0 where
  pub started : Bool
  pub bits : List ℕ

unfoldable pub left : Format → ℕ → Bool → List ℕ → Left
left F zero started bits = record { started = started; bits = bits }
left F (suc k) started bits =
    elim (next F started bits) [
      | none ↦ record { started = started; bits = bits }
      | some ws ↦ left F k true (drop (sum ws) bits)
    ]
