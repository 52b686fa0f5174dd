-- Lists of fields in given bytes: the fields, the sheet after them, the answers to them, and the bytes that they take.
use Rattle.std.specs.Prelude.{ℕ, zero, suc, ◌+◌, ◌*◌, Bool, List, [], ◌∷◌, ◌++◌, length, drop, ltb}
use Rattle.sheet.specs.declared.Sheet.{Sheet}
use Rattle.sheet.specs.declared.Answer.{Answer}
use Rattle.headers.specs.Headers.{consumed_by}
use Rattle.fields.specs.Field.{read_field}
use Rattle.answers.specs.Answers.{answer_bytes, answer_room}

-- the fields of a list, each as the bytes from its tag on; n is at least their number (SCOPE 5.3, 7.3)
unfoldable pub fields_from : ℕ → List ℕ → List (List ℕ)
fields_from zero input = []
fields_from (suc n) [] = []
fields_from (suc n) (b ∷ bs) = (b ∷ bs) ∷ fields_from n (drop (consumed_by (b ∷ bs)) (b ∷ bs))

abbrev pub fields_of : List ℕ → List (List ℕ)
fields_of input = fields_from (length input) input

-- whether an output has under 37 bytes for each (SCOPE 7.1, 7.2)
abbrev pub short : List ℕ → ℕ → Bool
short input room = ltb room (answer_room * length (fields_of input))

-- how many bytes they take (SCOPE 5.3, 7.3)
unfoldable pub span_of : List (List ℕ) → ℕ
span_of [] = 0
span_of (f ∷ fs) = consumed_by f + span_of fs

-- Each is read on the sheet that the one before returned (SCOPE 9.1). The sheet after them, and their answers.
unfoldable pub sheet_after : List (List ℕ) → Sheet → Sheet
sheet_after [] s = s
sheet_after (f ∷ fs) s = sheet_after fs (read_field f answer_room s).sheet

unfoldable pub answers_to : List (List ℕ) → Sheet → List Answer
answers_to [] s = []
answers_to (f ∷ fs) s = (read_field f answer_room s).answer ∷ answers_to fs (read_field f answer_room s).sheet

-- the answer fields, one after the other (SCOPE 6.1)
unfoldable pub bytes_of : List Answer → List ℕ
bytes_of [] = []
bytes_of (a ∷ rest) = answer_bytes a ++ bytes_of rest
