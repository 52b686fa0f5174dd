-- SCOPE 3.9: an extreme or a utilisation is judged with the factor of T in force when it is read, whatever it was when the case or its
-- effects were set; about any list of readings.
use Rattle.std.specs.Prelude.{ℕ, ◌≤◌, ◌<◌, ◌≡◌, Bool, cond, List, [], ◌∷◌, map, eqb, length}
use Rattle.wire.specs.Bytes.{word_at}
use Rattle.envelope.specs.Range.{station_count, component_count}
use Rattle.sheet.specs.declared.Sheet.{Sheet}
use Rattle.sheet.specs.Sheet.{fresh_sheet, capacity_at, with_straining}
use Rattle.headers.specs.Headers.{tag_of, body_of}
use Rattle.fields.specs.Field.{due, read_field}
use Rattle.answers.specs.Answers.{answer_room}
use Rattle.demands.specs.Readings.{Given, Made, ReadOn, Readings, given, worked_out}
use Rattle.demands.specs.Demands.{look_extremes, look_utilisation, ExtremesAnswered, UtilisationAnswered}

-- no refusal is due on what a reading is given (SCOPE 7.2)
abbrev pub accepted_on : Sheet → Given → Bool
accepted_on s g = eqb (due g.input g.room s) 0

-- tag 01 sets the factor to 1000, tag 09 to the one in its body, and no other field changes it (SCOPE 5.2)
abbrev pub factor_by : List ℕ → ℕ → ℕ
factor_by input factor = cond (eqb (tag_of input) 1) 1000 (cond (eqb (tag_of input) 9) (word_at (body_of input) 0) factor)

-- the factor in force after some readings: each accepted field in turn, while a refused one leaves it (SCOPE 7.3, 9.2)
unfoldable pub in_force_from : Sheet → ℕ → List Given → ℕ
in_force_from s factor [] = factor
in_force_from s factor (g ∷ gs) = in_force_from (read_field g.input g.room s).sheet (cond (accepted_on s g) (factor_by g.input factor) factor) gs

-- from a fresh sheet, whose factor is 1000 (SCOPE 2.6)
abbrev pub in_force : List Made → ℕ
in_force ms = in_force_from fresh_sheet 1000 (map given ms)

-- what is answered next of w goes by all its cases and effects, with this factor for every T case (SCOPE 3.9, 9.3)
pub record JudgedWith (factor : ℕ) (w s : Sheet) : Type 0 where
  pub extremes : (station component : ℕ) → station < station_count → component < component_count → (m : Made) (rest : List ℕ) → answer_room ≤ length m.out →
      m.input ≡ look_extremes station component rest → ReadOn s m → ExtremesAnswered (with_straining w factor) station component m
  pub utilisation : (station : ℕ) → station < station_count → 0 < capacity_at w station 0 → (m : Made) (rest : List ℕ) → answer_room ≤ length m.out →
      m.input ≡ look_utilisation station rest → ReadOn s m → UtilisationAnswered (with_straining w factor) station m

-- The factor in force. After any list of readings from a fresh sheet, what is answered next goes by the factor in force then.
abbrev pub FactorInForce : Type 0
FactorInForce = (ms : List Made) (s : Sheet) → Readings fresh_sheet ms s → JudgedWith (in_force ms) (worked_out ms) s

-- An accepted tag 09 is read the same, and leaves the same sheet, whatever factor was in force before (SCOPE 3.9).
abbrev pub EarlierFactorForgotten : Type 0
EarlierFactorForgotten = (s : Sheet) (g : Given) (earlier : ℕ) → tag_of g.input ≡ 9 → due g.input g.room s ≡ 0 →
    read_field g.input g.room (with_straining s earlier) ≡ read_field g.input g.room s
