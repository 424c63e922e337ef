-- What it is to have read a file's header, and what the mesh comes to that it heads.
use Rattle.std.specs.Prelude.{ℕ, ◌≡◌, ◌*◌, ◌/◌, true, List, length, get_or, drop, take, Float, Some}
use Rattle.answers.specs.Outcome.{Outcome}
use Rattle.decode.specs.Stored.{floats_at}
use Rattle.meshes.specs.Outcomes.{ported_reader}
use Rattle.msf.specs.File.{coord, comp, flag, components, row_length, entry_count, data_at, kind_of, well_formed, most_answer}
use Rattle.msf.specs.declared.header.Header.{Header}

-- h is the header of the file s, which is one
pub record Heads (s : List ℕ) (h : Header) : Type 0 where
  pub is_file : well_formed s ≡ true
  pub its_kind : kind_of (get_or s 5 0) ≡ Some h.kind
  pub its_coord : h.coord ≡ coord s
  pub its_comp : h.comp ≡ comp s
  pub its_flag : h.flag ≡ flag s
  pub its_components : h.components ≡ components s
  pub its_row : h.row ≡ row_length s
  pub its_entries : h.entries.now ≡ take (8 * entry_count s) (drop 13 s)
  pub its_data : h.data.now ≡ drop (data_at s) s

-- Decode's entries
abbrev pub entries_of : Header → List Float
entries_of h = floats_at h.entries.now 0 (length h.entries.now / 8)

-- what the ported reader answers
unfoldable pub answer_to : Header → Outcome Float
answer_to h = ported_reader h.kind h.data.now h.coord h.comp h.flag (entries_of h) h.components h.row most_answer
