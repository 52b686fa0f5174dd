-- SCOPE 9.1 and 9.2: readings and savings as the calls that a program makes ensure them, and the sheet worked out from a list of them.
use Rattle.std.specs.Prelude.{ℕ, ◌≤◌, ◌≡◌, ◌↔◌, List, [], ◌∷◌, map, length, drop, Result}
use Rattle.sheet.specs.declared.Sheet.{Sheet}
use Rattle.sheet.specs.declared.Answer.TheVariants as answer
use Rattle.sheet.specs.Sheet.{fresh_sheet}
use Rattle.sheet.specs.Range.{InRange}
use Rattle.fields.specs.declared.Reading.{Reading}
use Rattle.fields.specs.Field.{read_field}
use Rattle.fields.specs.Readings.{FieldRead}
use Rattle.answers.specs.Answers.{answer_room}
use Rattle.refusals.specs.declared.Refusal.{Refusal}
use Rattle.saving.specs.Saving.{saved_answer, saved_over}

-- what is given to a reading: bytes, and the length of the output (SCOPE 9.2)
pub record Given : Type 0 where
  pub input : List ℕ
  pub room : ℕ

-- the sheet that the definitions work out from what is given, and from nothing else (SCOPE 9.2)
unfoldable pub sheet_from : Sheet → List Given → Sheet
sheet_from s [] = s
sheet_from s (g ∷ gs) = sheet_from (read_field g.input g.room s).sheet gs

-- a reading that was made: its bytes, the output before it, what it returned, and the output after it (SCOPE 5.3)
pub record Made : Type 0 where
  pub input : List ℕ
  pub out : List ℕ
  pub result : Reading
  pub out' : List ℕ

abbrev pub made : List ℕ → List ℕ → Reading → List ℕ → Made
made input out r out' = record { input = input; out = out; result = r; out' = out' }

-- what `read_field` and `read_in` ensure of a reading made on a sheet (SCOPE 5.3)
abbrev pub ReadOn : Sheet → Made → Type 0
ReadOn s m = FieldRead m.input m.out s m.result m.out'

-- readings from a sheet to a sheet, each on the sheet that the one before returned (SCOPE 9.1)
pub data Readings : Sheet → List Made → Sheet → Type 0 where
  none : {s : Sheet} → Readings s [] s
  next : {m : Made} {ms : List Made} {s s' : Sheet} → ReadOn s m → Readings m.result.sheet ms s' → Readings s (m ∷ ms) s'

-- some list of readings makes t from s (SCOPE 9.1)
pub record MadeFrom (s t : Sheet) : Type 0 where
  pub list : List Made
  pub readings : Readings s list t

-- The sheets in range, for which the calls state their results, are exactly those that some list makes from a fresh one (SCOPE 9.1).
abbrev pub RangeIsMade : Type 0
RangeIsMade = (s : Sheet) → InRange s ↔ MadeFrom fresh_sheet s

abbrev pub given : Made → Given
given m = record { input = m.input; room = length m.out }

-- the sheet worked out from a list of readings, the first on a fresh sheet (SCOPE 9.2)
abbrev pub worked_out : List Made → Sheet
worked_out ms = sheet_from fresh_sheet (map given ms)

-- what a call is given: bytes, and the output before it (SCOPE 9.1)
pub record Call : Type 0 where
  pub input : List ℕ
  pub out : List ℕ

abbrev pub call : Made → Call
call m = record { input = m.input; out = m.out }

-- readings of these calls, from a sheet (SCOPE 9.1)
pub record ReadInTurn (cs : List Call) (s : Sheet) : Type 0 where
  pub list : List Made
  pub last : Sheet
  pub calls : map call list ≡ cs
  pub readings : Readings s list last
  pub in_range : InRange last

-- any calls whatever can be made, one after the other (SCOPE 9.1)
abbrev pub AnyReadings : Type 0
AnyReadings = (cs : List Call) (s : Sheet) → InRange s → ReadInTurn cs s

-- what `save` and `save_in` ensure: the sheet, the output before, the result and the output after (SCOPE 8.2)
abbrev pub SaveOn : Sheet → List ℕ → Result ℕ Refusal → List ℕ → Type 0
SaveOn s out r out' = (r ≡ saved_answer s (length out)) × (out' ≡ saved_over s out)

-- a reading of these bytes on a sheet, with an output that has room for an answer (SCOPE 10.2)
pub record ReadsFrom (bytes : List ℕ) (s : Sheet) (m : Made) : Type 0 where
  pub input : m.input ≡ bytes
  pub room : answer_room ≤ length m.out
  pub read : ReadOn s m

-- Whoever reads the bytes field by field, each with such an output, has every field accepted and ends with the sheet t (SCOPE 10.2).
pub data Restores : List ℕ → Sheet → Sheet → Type 0 where
  no_more : {t : Sheet} → Restores [] t t
  one_more : {b : ℕ} {bs : List ℕ} {s t : Sheet} →
      ((m : Made) → ReadsFrom (b ∷ bs) s m → m.result.answer ≡ answer.Accepted) →
      ((m : Made) → ReadsFrom (b ∷ bs) s m → Restores (drop m.result.consumed (b ∷ bs)) m.result.sheet t) → Restores (b ∷ bs) s t
