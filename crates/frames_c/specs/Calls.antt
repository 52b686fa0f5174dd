-- Lists of fields on a sheet that is given as its saved bytes: what each call answers, writes and saves.
use Rattle.std.specs.Prelude.{ℕ, List, ◌≡◌, cond, length, ltb, Option, Some, None, Result, Ok, Err}
use Rattle.wire.specs.Bytes.{over}
use Rattle.refusals.specs.declared.Refusal.{Refusal}
use Rattle.sheet.specs.declared.Sheet.{Sheet}
use Rattle.lists.specs.Lists.{fields_of, short, sheet_after, answers_to, bytes_of}
use Rattle.saved_fields.specs.Saved.{saved_bytes}
use Rattle.loading.specs.Loaded.{loaded, due_state}
use Rattle.frames_c.specs.declared.Ran.{Ran}

-- 14 comes first, for an output of under 37 bytes for each field (SCOPE 7.1, 7.2)
abbrev pub due_answer : List ℕ → List ℕ → ℕ → Option ℕ
due_answer state input room = cond (short input room) (Some 14) (due_state state)

-- the place to save into that a call asks for, above the greatest saved size (SCOPE 8.3)
abbrev pub place_room : ℕ
place_room = 8192

-- and for a smaller place
abbrev pub due_run : List ℕ → List ℕ → ℕ → ℕ → Option ℕ
due_run state input room place = cond (ltb place place_room) (Some 14) (due_answer state input room)

-- the answers to a list, and the saved sheet after it (SCOPE 8.1, 9.1)
abbrev pub answered : List ℕ → List ℕ → List ℕ
answered state input = bytes_of (answers_to (fields_of input) (loaded state))

abbrev pub saved_after : List ℕ → List ℕ → List ℕ
saved_after state input = saved_bytes (sheet_after (fields_of input) (loaded state))

-- a count of bytes answered, or a refusal, as the call hands it back where nothing is saved
abbrev pub ran_of : Result ℕ ℕ → Ran
ran_of (Ok written) = record { refusal = 0; written = written; saved = 0 }
ran_of (Err due) = record { refusal = due; written = 0; saved = 0 }

-- a refused call writes and saves nothing
abbrev pub ran_unless : Option ℕ → ℕ → ℕ → Ran
ran_unless None written saved = record { refusal = 0; written = written; saved = saved }
ran_unless (Some due) written saved = record { refusal = due; written = 0; saved = 0 }

abbrev pub over_unless : Option ℕ → List ℕ → List ℕ → List ℕ
over_unless None w o = over w o
over_unless (Some due) w o = o

-- what `frames_answer` ensures: its result and every byte of the output
pub record AnswerDone (state input output : List ℕ) (r : Ran) (output' : List ℕ) : Type 0 where
  pub result : r ≡ ran_unless (due_answer state input (length output)) (length (answered state input)) 0
  pub written : output' ≡ over_unless (due_answer state input (length output)) (answered state input) output

-- what `frames_run` ensures: its result, every byte of the output and every byte of the place to save
pub record RunDone (state input output place : List ℕ) (r : Ran) (output' place' : List ℕ) : Type 0 where
  pub result : r ≡ ran_unless (due_run state input (length output) (length place)) (length (answered state input)) (length (saved_after state input))
  pub written : output' ≡ over_unless (due_run state input (length output) (length place)) (answered state input) output
  pub saved : place' ≡ over_unless (due_run state input (length output) (length place)) (saved_after state input) place

-- what both have in common: the count of bytes answered or the refusal, and the sheet where none is due
abbrev pub count_unless : Option ℕ → ℕ → Result ℕ ℕ
count_unless None written = Ok written
count_unless (Some due) written = Err due

pub record Answered (state input output : List ℕ) (r : Result ℕ ℕ) (s : Sheet) (output' : List ℕ) : Type 0 where
  pub result : r ≡ count_unless (due_answer state input (length output)) (length (answered state input))
  pub sheet : due_answer state input (length output) ≡ None → s ≡ sheet_after (fields_of input) (loaded state)
  pub written : output' ≡ over_unless (due_answer state input (length output)) (answered state input) output

-- how many bytes were saved (SCOPE 8.2)
abbrev pub count_of : Result ℕ Refusal → ℕ
count_of (Ok n) = n
count_of (Err refusal) = 0
