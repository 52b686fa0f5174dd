-- The way the reader goes through a field. Nothing here is to be believed: it is shown to be the reading that `Field` defines.
use Rattle.std.specs.Prelude.{ℕ, List, Option, Some, None, cond, length, take, drop, ltb, eqb}
use Rattle.sheet.specs.declared.Sheet.{Sheet}
use Rattle.sheet.specs.declared.Answered.{Answered}
use Rattle.sheet.specs.declared.Answer.TheVariants as answer
use Rattle.headers.specs.Headers.{Header, header_of, due_header, consumed_of}
use Rattle.answers.specs.Answers.{answer_room, answer_bytes}
use Rattle.fields.specs.declared.Reading.{Reading}
use Rattle.tags.specs.Run.{run_of}

-- the first of the refusals 1, 2 and those of the body
unfoldable pub field_of : Sheet → ℕ → List ℕ → Answered
field_of s tag b = cond (eqb (due_header tag (length b)) 0) (run_of s tag b) (record { answer = answer.Refused (due_header tag (length b)); sheet = s })

abbrev pub reading : ℕ → Answered → Reading
reading n a = record { answer = a.answer; sheet = a.sheet; consumed = n; written = length (answer_bytes a.answer) }

abbrev pub refused_with : ℕ → Sheet → Answered
refused_with n s = record { answer = answer.Refused n; sheet = s }

unfoldable pub read_header : Option Header → List ℕ → Sheet → Reading
read_header None input s = reading (consumed_of None input) (refused_with 3 s)
read_header (Some h) input s = reading (consumed_of (Some h) input) (field_of s h.tag (take h.len (drop 3 input)))

unfoldable pub read_in_order : List ℕ → ℕ → Sheet → Reading
read_in_order input room s = cond (ltb room answer_room) (reading 0 (refused_with 14 s)) (read_header (header_of input) input s)
