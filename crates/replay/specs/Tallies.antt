-- How many cases of a file agree, and how many disagree.
use Rattle.std.specs.Prelude.{ℕ, zero, suc, ◌+◌, cond, List, length, drop, nat_lt, Option, Some, None}
use Rattle.replay.specs.declared.Tally.{Tally}
use Rattle.replay.specs.declared.replaying.Seen.{Seen}
use Rattle.replay.specs.declared.replaying.Replayed.{Replayed}
use Rattle.replay.specs.Cases.{replayed}

-- a case more, which agrees where nothing wrong was seen
abbrev pub judged : Option Seen → Tally → Tally
judged None t = record { agree = t.agree + 1; disagree = t.disagree }
judged (Some seen) t = record { agree = t.agree; disagree = t.disagree + 1 }

-- a case more; where one can be read, go on behind it
abbrev pub counted : Option Replayed → Tally → (ℕ → Tally → Tally) → Tally
counted (Some r) t go = go r.size (judged r.wrong t)
counted None t go = record { agree = t.agree; disagree = t.disagree + 1 }

-- t, with up to so many cases that s begins with
unfoldable pub tally_from : ℕ → List ℕ → Tally → Tally
tally_from zero s t = t
tally_from (suc k) s t = cond (nat_lt 0 (length s)) (counted (replayed s) t (λ (n : ℕ). tally_from k (drop n s))) t

-- all cases of the file s, which are no more than its bytes
abbrev pub tally : List ℕ → Tally
tally s = tally_from (length s) s (record { agree = 0; disagree = 0 })
