-- The file that the dump program reads, and what it prints for it: document 01, "Dump program". s is the file's bytes.
use Rattle.std.specs.Prelude.{ℕ, ◌+◌, ◌*◌, Option, None, Some, Bool, ◌&&◌, cond, List, leb, eqb, length, drop, get_or, Float}
use Rattle.answers.specs.declared.Refusal.TheVariants.{File}
use Rattle.answers.specs.Outcome.{number_of, Outcome}
use Rattle.decode.specs.Stored.{big_endian, floats_at}
use Rattle.records.specs.declared.shape.Kind.{Kind}
use Rattle.records.specs.declared.shape.Kind.TheVariants.{Four, Five, Six, Seven}
use Rattle.meshes.specs.Outcomes.{ported_reader}
use Rattle.msf.specs.Listing.{listing, refused_line}

-- the most bytes of a file, and the most numbers of an answer
abbrev pub most_file : ℕ
most_file = 65536

abbrev pub most_answer : ℕ
most_answer = 8192

-- the header's fields: 13 bytes, then the entries of Decode
abbrev pub mark : List ℕ → ℕ
mark s = big_endian s 0 3

abbrev pub version : List ℕ → ℕ
version s = big_endian s 3 2

abbrev pub coord : List ℕ → ℕ
coord s = get_or s 6 0

abbrev pub comp : List ℕ → ℕ
comp s = get_or s 7 0

abbrev pub flag : List ℕ → ℕ
flag s = get_or s 8 0

abbrev pub components : List ℕ → ℕ
components s = get_or s 9 0

abbrev pub row_length : List ℕ → ℕ
row_length s = big_endian s 10 2

abbrev pub entry_count : List ℕ → ℕ
entry_count s = get_or s 12 0

-- where the data begins
abbrev pub data_at : List ℕ → ℕ
data_at s = 13 + 8 * entry_count s

-- Decode's entries
abbrev pub entries : List ℕ → List Float
entries s = floats_at s 13 (entry_count s)

-- the type's kind: 4 to 7
unfoldable pub kind_of : ℕ → Option Kind
kind_of t = cond (eqb t 4) (Some Four) (cond (eqb t 5) (Some Five) (cond (eqb t 6) (Some Six) (cond (eqb t 7) (Some Seven) None)))

-- not too long, long enough for the header and the entries, with the mark `MSF` and version 1
unfoldable pub well_formed : List ℕ → Bool
well_formed s = leb (length s) most_file && (leb 13 (length s) && (eqb (mark s) 5067590 && (eqb (version s) 1 && leb (data_at s) (length s))))

-- what the ported reader of a type answers for the header and the data
unfoldable pub answer_of : Kind → List ℕ → Outcome Float
answer_of kind s =
    ported_reader kind (drop (data_at s) s) (coord s) (comp s) (flag s) (entries s) (components s) (row_length s) most_answer

-- FILE comes before all others
unfoldable pub listing_of_kind : Option Kind → List ℕ → List ℕ
listing_of_kind None s = refused_line (number_of File)
listing_of_kind (Some kind) s = listing kind (components s) (answer_of kind s)

unfoldable pub file_listing : List ℕ → List ℕ
file_listing s = cond (well_formed s) (listing_of_kind (kind_of (get_or s 5 0)) s) (refused_line (number_of File))
