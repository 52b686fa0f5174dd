-- Which of the fields at hand are answered now, and what becomes of the sheet, the places and the output.
use Rattle.std.specs.Prelude.{ℕ, ◌+◌, ◌-◌, ◌≤◌, ◌≡◌, List, [], ◌∷◌, Bool, false, cond, ◌&&◌, ◌||◌, length, ltb, leb}
use Rattle.std.proofs.lemmas.List.Edits.{sets}
use Rattle.sheet.specs.declared.Sheet.{Sheet}
use Rattle.sheet.specs.declared.Answer.{Answer}
use Rattle.sheet.specs.Range.{InRange}
use Rattle.fields.specs.Field.{read_field}
use Rattle.answers.specs.Answers.{answer_bytes, last_of, answer_room}
use Rattle.headers.specs.Headers.{ready_of}
use Rattle.lists.specs.Lists.{span_of, sheet_after, answers_to, bytes_of}
use Rattle.stream.specs.declared.Progress.{Progress}

-- the field at the front of the bytes is answered now: there are bytes, they can be read now or no more follow, and 37 bytes of output
-- are left
unfoldable pub is_next : Bool → ℕ → List ℕ → Bool
is_next ended room f = (ltb 0 (length f) && (ended || ready_of f)) && leb answer_room room

-- of the fields at hand, those that are answered now; none after a 3 (SCOPE 9.4)
unfoldable pub answered_of : Bool → ℕ → List (List ℕ) → Sheet → List (List ℕ)
answered_of ended room [] s = []
answered_of ended room (f ∷ fs) s =
    cond (is_next ended room f)
    (f ∷ cond (last_of (read_field f answer_room s).answer) [] (answered_of ended (room - length (answer_bytes (read_field f answer_room s).answer)) fs (read_field f answer_room s).sheet)) []

-- one of the answers is a 3 (SCOPE 9.4)
unfoldable pub any_last : List Answer → Bool
any_last [] = false
any_last (a ∷ rest) = last_of a || any_last rest

-- from p on a sheet the fields fs are answered, one after the other: the sheet after them, the bytes consumed, and the output with their
-- answers after those that wait there
pub record Progressed (fs : List (List ℕ)) (p : Progress) (s : Sheet) (o : List ℕ) (r : Progress) (s' : Sheet) (o' : List ℕ) : Type 0 where
  pub sheet : s' ≡ sheet_after fs s
  pub consumed : r.consumed ≡ p.consumed + span_of fs
  pub written : r.written ≡ p.written + length (bytes_of (answers_to fs s))
  pub output : o' ≡ sets o p.written (bytes_of (answers_to fs s))
  pub stop : r.stop ≡ (p.stop || any_last (answers_to fs s))

abbrev pub begun : Progress
begun = record { consumed = 0; written = 0; stop = false }

-- what is kept meanwhile, of the sheet, the counts of bytes consumed and written, the input, and the output before and after; an answer
-- has at most 37 bytes
pub record Within (s : Sheet) (read answered : ℕ) (input before after : List ℕ) : Type 0 where
  pub in_range : InRange s
  pub consumed : read ≤ length input
  pub written : answered ≤ length before
  pub room : answer_room ≤ length before
  pub same : length after ≡ length before
