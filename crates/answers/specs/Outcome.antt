-- What a call answers, by its numbers, and what a call that writes into a lent output comes to: document 01, "Refusal numbers".
use Rattle.std.specs.Prelude.{ℕ, ◌≡◌, Bool, cond, List, ◌++◌, length, drop, ltb, Result, Ok, Err}
use Rattle.answers.specs.declared.Refusal.{Refusal}
use Rattle.answers.specs.declared.Refusal.TheVariants.{Layout, Components, Length, Room, Record, Thin, File}
use Rattle.answers.specs.declared.Told.{Told}

-- the refusal table
abbrev pub number_of : Refusal → ℕ
number_of Layout = 1
number_of Components = 2
number_of Length = 3
number_of (Room needed) = 4
number_of Record = 5
number_of Thin = 6
number_of File = 7

-- ROOM tells how many places the whole answer needs; no other refusal tells a count
abbrev pub needed_by : Refusal → ℕ
needed_by Layout = 0
needed_by Components = 0
needed_by Length = 0
needed_by (Room needed) = needed
needed_by Record = 0
needed_by Thin = 0
needed_by File = 0

-- how much a call wrote, or its refusal
abbrev pub Answer : Type 0
Answer = Result ℕ Refusal

-- an accepted call answers how much it wrote, a refusal its number
abbrev pub told : Answer → Told
told (Ok n) = record { refused = 0; count = n }
told (Err r) = record { refused = number_of r; count = needed_by r }

-- a refusal; or so many things, which are these elements
pub data Outcome (A : Type 0) : Type 0 where
  refused : Refusal → Outcome A
  wrote : ℕ → List A → Outcome A

module _ {A : Type 0} where
  -- the rows of the refusal table, one after the other
  abbrev pub refuse_if : Bool → Refusal → Outcome A → Outcome A
  refuse_if b r o = cond b (refused r) o

  -- ROOM exactly when the elements need more places than the output has, with the number that they need
  unfoldable pub fitted : ℕ → List A → ℕ → Outcome A
  fitted count xs room = refuse_if (ltb room (length xs)) (Room (length xs)) (wrote count xs)

  -- the one answer, by its numbers
  abbrev pub tells : Outcome A → Told
  tells (refused r) = told (Err r)
  tells (wrote count xs) = told (Ok count)

  -- the one content of the lent output: unchanged by a refusal; else the elements, and after them what was there
  abbrev pub leaves : Outcome A → List A → List A
  leaves (refused r) entry = entry
  leaves (wrote count xs) entry = xs ++ drop (length xs) entry

-- the two numbers are the outcome's, and the output, which held entry, holds what the outcome leaves
pub record Tells {A : Type 0} (o : Outcome A) (entry : List A) (t : Told) (exit : List A) : Type 0 where
  pub answered : t ≡ tells o
  pub held : exit ≡ leaves o entry

-- the call has answered what the outcome tells, by the answer's numbers
abbrev pub Done : {A : Type 0} → Outcome A → List A → Answer → List A → Type 0
Done o entry r exit = Tells o entry (told r) exit
