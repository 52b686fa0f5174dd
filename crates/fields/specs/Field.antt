-- SCOPE 5.3 and 7: one reading, and which refusal is due first.
use Rattle.std.specs.Prelude.{ℕ, List, ◌∷◌, cond, not, length, ltb, eqb}
use Rattle.refusals.specs.Refusals.{Refusal, on, first_due}
use Rattle.sheet.specs.declared.Sheet.{Sheet}
use Rattle.sheet.specs.declared.Answer.{Answer}
use Rattle.sheet.specs.Looks.{unless_due}
use Rattle.headers.specs.Headers.{tag_of, length_in, body_of, is_cut, consumed_by}
use Rattle.answers.specs.Answers.{answer_room, answer_bytes}
use Rattle.fields.specs.declared.Reading.{Reading}
use Rattle.tags.specs.Tags.{Tag, unknown_tag, tag_at}

-- the refusals of a reading in their order: 14, 3, 1, 2, and then those of the tag (SCOPE 7.2)
abbrev pub refusals_of : List ℕ → ℕ → Sheet → List Refusal
refusals_of input room s =
    on (ltb room answer_room) 14 ∷ on (is_cut input) 3 ∷ on (unknown_tag (tag_of input)) 1
    ∷ on (not ((tag_at (tag_of input)).fits (length_in input))) 2
    ∷ (tag_at (tag_of input)).refusals s (body_of input)

-- the number of the first that is due, 0 where none is (SCOPE 7.2)
unfoldable pub due : List ℕ → ℕ → Sheet → ℕ
due input room s = first_due (refusals_of input room s)

-- what the field's tag says (SCOPE 5.2)
abbrev pub field_tag : List ℕ → Tag
field_tag input = tag_at (tag_of input)

-- the refusal that is due, or else the tag's answer (SCOPE 5.3)
abbrev pub answer_to : List ℕ → ℕ → Sheet → Answer
answer_to input room s = unless_due (due input room s) ((field_tag input).answer s (body_of input))

-- if none is due, the table of tags says what becomes of the sheet; otherwise it stays as it was (SCOPE 9.2)
abbrev pub sheet_after_field : List ℕ → ℕ → Sheet → Sheet
sheet_after_field input room s = cond (eqb (due input room s) 0) ((field_tag input).after s (body_of input)) s

-- 14 consumes nothing (SCOPE 7.3)
abbrev pub consumed_with : List ℕ → ℕ → ℕ
consumed_with input room = cond (ltb room answer_room) 0 (consumed_by input)

-- one reading (SCOPE 5.3)
unfoldable pub read_field : List ℕ → ℕ → Sheet → Reading
read_field input room s =
    record {
      answer = answer_to input room s;
      sheet = sheet_after_field input room s;
      consumed = consumed_with input room;
      written = length (answer_bytes (answer_to input room s));
    }
