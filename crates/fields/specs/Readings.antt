-- What one reading ensures (SCOPE 5.3), and bytes that are read through field by field (SCOPE 10.2).
use Rattle.std.specs.Prelude.{ℕ, ◌≤◌, ◌≡◌, List, [], ◌∷◌, length, drop}
use Rattle.wire.specs.Bytes.{over}
use Rattle.sheet.specs.declared.Sheet.{Sheet}
use Rattle.sheet.specs.Range.{InRange}
use Rattle.sheet.specs.declared.Answer.TheVariants.{Accepted}
use Rattle.fields.specs.declared.Reading.{Reading}
use Rattle.fields.specs.declared.Outcome.{Outcome}
use Rattle.fields.specs.Field.{read_field}
use Rattle.answers.specs.Answers.{answer_bytes, answer_room}

-- the input, the output before, the sheet given, the result and the output after, whose later bytes are as they were (SCOPE 5.3)
pub record FieldRead (input out : List ℕ) (s : Sheet) (r : Reading) (out' : List ℕ) : Type 0 where
  pub reading : r ≡ read_field input (length out) s
  pub output : out' ≡ over (answer_bytes r.answer) out

-- a reading, from its outcome and the sheet after it
abbrev pub with_sheet : Outcome → Sheet → Reading
with_sheet r s = record { answer = r.answer; sheet = s; consumed = r.consumed; written = r.written }

-- every field of the bytes is accepted, from a sheet to a sheet (SCOPE 10.2)
pub data ReadThrough : List ℕ → Sheet → Sheet → Type 0 where
  end : {s : Sheet} → ReadThrough [] s s
  field : {b : ℕ} {bs : List ℕ} {s s' : Sheet} → (read_field (b ∷ bs) answer_room s).answer ≡ Accepted →
      ReadThrough (drop (read_field (b ∷ bs) answer_room s).consumed (b ∷ bs)) (read_field (b ∷ bs) answer_room s).sheet s' → ReadThrough (b ∷ bs) s s'

-- what a caller that only goes on needs of a reading: the sheet in range, the places within the input and the output
pub record ReadWithin (input out : List ℕ) (r : Reading) (out' : List ℕ) : Type 0 where
  pub in_range : InRange r.sheet
  pub consumed : r.consumed ≤ length input
  pub written : r.written ≤ length out
  pub same : length out' ≡ length out
