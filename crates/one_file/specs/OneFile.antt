-- SCOPE 9.7: the sheet of a file is the one of that file without its names.
use Rattle.std.specs.Prelude.{ℕ, zero, suc, ◌≡◌, Bool, true, cond, not, ◌&&◌, List, [], ◌∷◌, ◌++◌, length, drop, eqb}
use Rattle.wire.specs.Bytes.{byte_at}
use Rattle.refusals.specs.Refusals.{case_outside}
use Rattle.headers.specs.Headers.{tag_of, length_in, is_cut, name_number, name_length, consumed_by, field_in}
use Rattle.drawing.specs.Names.{no_name, name_place}
use Rattle.sheet.specs.declared.Sheet.{Sheet}
use Rattle.sheet.specs.declared.Answer.{Answer}
use Rattle.sheet.specs.Sheet.{fresh_sheet}
use Rattle.fields.specs.Field.{read_field}
use Rattle.answers.specs.Answers.{answer_room}
use Rattle.lists.specs.Lists.{fields_of, sheet_after, answers_to}
use Rattle.demands.specs.Readings.{Made, Readings, worked_out}

-- ---- the bytes of a file

-- the field at the front of these bytes, if it is whole, is a name: tag 60, a right length and a case from 0 to 31 (SCOPE 9.7)
abbrev pub is_name : List ℕ → Bool
is_name field = eqb (tag_of field) name_number && (name_length (length_in field) && not (case_outside (byte_at field 3)))

-- the file without the whole fields that a test picks: from the first field on that is cut or too long, every byte stays; n is at least
-- the number of fields (SCOPE 9.7)
unfoldable pub without_from : (List ℕ → Bool) → ℕ → List ℕ → List ℕ
without_from picks zero file = file
without_from picks (suc n) file =
    cond (is_cut file) file (cond (picks file) [] (field_in file) ++ without_from picks n (drop (consumed_by file) file))

abbrev pub without : (List ℕ → Bool) → List ℕ → List ℕ
without picks file = without_from picks (length file) file

abbrev pub without_names : List ℕ → List ℕ
without_names file = without is_name file

-- the answers to the fields of a list that are not left out, each field read on the sheet that the one before returned (SCOPE 9.1, 9.7)
unfoldable pub other_answers : (List ℕ → Bool) → List (List ℕ) → Sheet → List Answer
other_answers picks [] s = []
other_answers picks (f ∷ fs) s =
    cond (not (is_cut f) && picks f) [] ((read_field f answer_room s).answer ∷ []) ++ other_answers picks fs (read_field f answer_room s).sheet

-- a test that picks fields of tag 60 alone, accepted or refused
abbrev pub PicksNames : (List ℕ → Bool) → Type 0
PicksNames picks = (field : List ℕ) → picks field ≡ true → tag_of field ≡ name_number

-- a file without fields of tag 60 makes the same sheet of any sheet, with the same answers to its other fields (SCOPE 9.7)
pub record SameWithout (picks : List ℕ → Bool) (file : List ℕ) (s : Sheet) : Type 0 where
  pub sheet : sheet_after (fields_of (without picks file)) s ≡ sheet_after (fields_of file) s
  pub answers : answers_to (fields_of (without picks file)) s ≡ other_answers picks (fields_of file) s

-- Both readers over one file: the service works the same sheet out of the file and of the file without its names, in which the
-- drawing office finds none. Any other fields of tag 60 may be left out too (SCOPE 9.7).
pub record OneFile (file : List ℕ) : Type 0 where
  pub service : (s : Sheet) → SameWithout is_name file s
  pub drawing_office : (case : ℕ) → name_place (without_names file) case ≡ no_name
  pub any_names : (picks : List ℕ → Bool) → PicksNames picks → (s : Sheet) → SameWithout picks file s

abbrev pub OneFileForBoth : Type 0
OneFileForBoth = (file : List ℕ) → OneFile file

-- ---- lists of readings

-- the readings of a list whose bytes a test does not pick (SCOPE 9.7)
unfoldable pub others : (List ℕ → Bool) → List Made → List Made
others picks [] = []
others picks (m ∷ ms) = cond (picks m.input) (others picks ms) (m ∷ others picks ms)

-- Readings of tag 60 may be left out of a list: accepted or refused, cut, or with too short an output. Those that remain are readings, with
-- the same answers and outputs, and they end with the same sheet (SCOPE 9.7).
abbrev pub NamesLeftOut : Type 0
NamesLeftOut = (picks : List ℕ → Bool) → PicksNames picks → (ms : List Made) (s : Sheet) → Readings fresh_sheet ms s →
    Readings fresh_sheet (others picks ms) s × (worked_out (others picks ms) ≡ worked_out ms)
