-- A state is a list of fields that are accepted on a fresh sheet: the sheet that it gives, and its refusal. What stands in an output with
-- room for one answer, after a list of them.
use Rattle.std.specs.Prelude.{ℕ, List, [], ◌∷◌, Option, Some, None}
use Rattle.std.specs.Option.{option_or}
use Rattle.wire.specs.Bytes.{over}
use Rattle.sheet.specs.declared.Sheet.{Sheet}
use Rattle.sheet.specs.declared.Answer.{Answer}
use Rattle.sheet.specs.declared.Answer.TheVariants as answer
use Rattle.sheet.specs.Sheet.{fresh_sheet}
use Rattle.answers.specs.Answers.{answer_bytes}
use Rattle.lists.specs.Lists.{fields_of, sheet_after, answers_to}

-- a saved sheet has fields that are accepted, and tags 06 and 07 are none of its tags (SCOPE 8.1)
abbrev pub refusal_of : Answer → Option ℕ
refusal_of answer.Accepted = None
refusal_of (answer.Refused n) = Some n
refusal_of (answer.Extremes x) = Some 1
refusal_of (answer.Utilisation x) = Some 1

-- the first refusal, if there is one
unfoldable pub first_refusal : List Answer → Option ℕ
first_refusal [] = None
first_refusal (a ∷ rest) = option_or (refusal_of a) (first_refusal rest)

-- the output, each answer written over its front, and so over the one before (SCOPE 5.3)
unfoldable pub overlaid : List Answer → List ℕ → List ℕ
overlaid [] o = o
overlaid (a ∷ rest) o = overlaid rest (over (answer_bytes a) o)

-- the sheet that a state gives, and its refusal (SCOPE 9.1)
abbrev pub loaded : List ℕ → Sheet
loaded state = sheet_after (fields_of state) fresh_sheet

abbrev pub due_state : List ℕ → Option ℕ
due_state state = first_refusal (answers_to (fields_of state) fresh_sheet)
