-- The limits of document 01, "Refusal numbers".
use Rattle.std.specs.Prelude.{ℕ}

-- COMPONENTS: more than 32 components
abbrev pub most_components : ℕ
most_components = 32

-- LENGTH: input over 16,777,216 bytes, or over 1,048,576 numbers
abbrev pub most_bytes : ℕ
most_bytes = 16777216

abbrev pub most_numbers : ℕ
most_numbers = 1048576
