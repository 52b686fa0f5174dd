-- SCOPE 10: the three demands, about any list of readings.
use Rattle.std.specs.Prelude.{ℕ, ◌+◌, ◌≤◌, ◌<◌, ◌≡◌, ◌↔◌, List, ◌∷◌, length, take, Result, Ok, Err}
use Rattle.wire.specs.Bytes.{over}
use Rattle.standard.specs.Combination.{Combination, case_count, named}
use Rattle.standard.specs.Governing.{EmptyTankConsidered, Maximum, Minimum, Utilisation}
use Rattle.envelope.specs.Range.{station_count, component_count}
use Rattle.envelope.specs.declared.Extreme.{Extreme}
use Rattle.envelope.specs.declared.Extremes as extremes
use Rattle.envelope.specs.declared.Utilised.{Utilised}
use Rattle.sheet.specs.declared.Sheet.{Sheet}
use Rattle.sheet.specs.declared.Answer.{Answer}
use Rattle.sheet.specs.declared.Answer.TheVariants as answer
use Rattle.sheet.specs.Sheet.{fresh_sheet, kind_at, effect_at, capacity_at}
use Rattle.sheet.specs.Looks.{capacities_at}
use Rattle.sheet.specs.Range.{InRange}
use Rattle.headers.specs.Headers.{length_in, body_of}
use Rattle.fields.specs.Field.{due, field_tag, read_field}
use Rattle.answers.specs.Answers.{answer_bytes, answer_room}
use Rattle.decoding.specs.Decoding.{decoded}
use Rattle.refusals.specs.declared.Refusal.{Refusal}
use Rattle.refusals.specs.Numbers.{number}
use Rattle.saved_fields.specs.Saved.{saved_bytes}
use Rattle.demands.specs.Readings.{Made, ReadOn, Readings, worked_out, SaveOn, Restores}

-- the first refusal that is due on a reading, by its bytes and the length of its output, 0 where none is (SCOPE 7.2)
abbrev pub due_on : Sheet → Made → ℕ
due_on w m = due m.input (length m.out) w

-- Demand 1, of the readings that may follow: w is the sheet worked out, s the sheet returned (SCOPE 10.1).
pub record Demand1 (w s : Sheet) : Type 0 where
  -- a reading is refused with a number exactly when that refusal is due first (SCOPE 7.2)
  pub refused : (m : Made) (n : ℕ) → ReadOn s m → (m.result.answer ≡ answer.Refused n) ↔ ((due_on w m ≡ n) × (n ≡ 0 → ⊥))
  pub numbers : (m : Made) → ReadOn s m → due_on w m ≤ 15
  -- every other one is answered as its tag says, which is no refusal (SCOPE 5.2)
  pub other : (m : Made) → ReadOn s m → due_on w m ≡ 0 → m.result.answer ≡ (field_tag m.input).answer w (body_of m.input)
  -- 14 consumes and writes nothing, 3 consumes all that is left, others the field (SCOPE 5.3, 7.3)
  pub no_room : (m : Made) → ReadOn s m → due_on w m ≡ 14 → (m.result.consumed ≡ 0) × (m.result.written ≡ 0)
  pub cut : (m : Made) → ReadOn s m → due_on w m ≡ 3 → m.result.consumed ≡ length m.input
  pub field : (m : Made) → ReadOn s m → (due_on w m ≡ 14 → ⊥) → (due_on w m ≡ 3 → ⊥) → m.result.consumed ≡ 3 + length_in m.input
  -- a refusal leaves the sheet unchanged (SCOPE 7.3)
  pub unchanged : (m : Made) (n : ℕ) → ReadOn s m → m.result.answer ≡ answer.Refused n → m.result.sheet ≡ w
  -- whatever is given, the reading comes to its end, within the input and the output, on a sheet that can be read on
  pub consumed : (m : Made) → ReadOn s m → m.result.consumed ≤ length m.input
  pub written : (m : Made) → ReadOn s m → m.result.written ≤ length m.out
  pub goes_on : (m : Made) → ReadOn s m → InRange m.result.sheet
  -- saving is refused by 14 with the output unchanged, and only where the output is too short (SCOPE 8.2)
  pub unsaved : (out out' : List ℕ) (refusal : Refusal) → SaveOn s out (Err refusal) out' → (number refusal ≡ 14) × (out' ≡ out)
  pub saves : (out out' : List ℕ) (r : Result ℕ Refusal) → SaveOn s out r out' → length (saved_bytes w) ≤ length out → r ≡ Ok (length (saved_bytes w))

-- two sheets hold the same, by their accessors (SCOPE 10.2)
pub record HoldsSame (a b : Sheet) : Type 0 where
  pub settings : a.settings ≡ b.settings
  pub kinds : (k : ℕ) → k < case_count → kind_at a k ≡ kind_at b k
  pub effects : (k t j : ℕ) → k < case_count → t < station_count → j < component_count → effect_at a k t j ≡ effect_at b k t j
  pub capacities : (t j : ℕ) → t < station_count → j < component_count → capacity_at a t j ≡ capacity_at b t j

-- Demand 2 (SCOPE 10.2)
pub record Demand2 (w s : Sheet) : Type 0 where
  -- the sheet held is the one worked out (SCOPE 9.2)
  pub held : s ≡ w
  -- the answer, the sheet and every byte are those of the definitions (SCOPE 5.3)
  pub answered : (m : Made) → ReadOn s m → m.result ≡ read_field m.input (length m.out) w
  pub bytes : (m : Made) → ReadOn s m → m.out' ≡ over (answer_bytes m.result.answer) m.out
  -- the bytes that a saving leaves in the output (SCOPE 8.1)
  pub saved : (out out' : List ℕ) (n : ℕ) → SaveOn s out (Ok n) out' → take n out' ≡ saved_bytes w
  -- reading them, on any sheet, restores exactly the sheet, and no other
  pub restored : (out out' : List ℕ) (n : ℕ) → SaveOn s out (Ok n) out' → (s₀ : Sheet) → Restores (take n out') s₀ w
  pub restores_one : (out out' : List ℕ) (n : ℕ) → SaveOn s out (Ok n) out' → (s₀ s₁ : Sheet) → Restores (take n out') s₀ s₁ → s₁ ≡ w
  -- sheets that hold the same are equal, equal sheets save to equal bytes, and sheets that differ to bytes that differ
  pub same : (s₁ : Sheet) → InRange s₁ → HoldsSame s₁ w → s₁ ≡ w
  pub equal : (s₁ : Sheet) → s₁ ≡ w → saved_bytes s₁ ≡ saved_bytes s
  pub differ : (s₁ : Sheet) → InRange s₁ → saved_bytes s₁ ≡ saved_bytes s → s₁ ≡ w

-- fields of tags 06 and 07, whatever follows them (SCOPE 5.2)
abbrev pub look_extremes : ℕ → ℕ → List ℕ → List ℕ
look_extremes station component rest = 6 ∷ 0 ∷ 2 ∷ station ∷ component ∷ rest

abbrev pub look_utilisation : ℕ → List ℕ → List ℕ
look_utilisation station rest = 7 ∷ 0 ∷ 1 ∷ station ∷ rest

-- the combination that an answer names (SCOPE 6.1, 6.2)
abbrev pub named_by : Extreme → Combination
named_by x = named x.row x.acting x.low

-- what the bytes written by a reading say (SCOPE 9.3)
abbrev pub reported : Made → Answer
reported m = decoded (take m.result.written m.out')

-- every admissible combination gives at most the maximum and at least the minimum; those named are admissible and exact (SCOPE 10.3)
pub record ExtremesAnswered (w : Sheet) (station component : ℕ) (m : Made) : Type 0 where
  pub extremes : extremes.Extremes
  pub answered : m.result.answer ≡ answer.Extremes extremes
  pub bytes : reported m ≡ answer.Extremes extremes
  pub maximum : Maximum w.settings (kind_at w) (λ k. effect_at w k station component) (named_by (extremes).maximum) (extremes).maximum.value
  pub minimum : Minimum w.settings (kind_at w) (λ k. effect_at w k station component) (named_by (extremes).minimum) (extremes).minimum.value

-- every admissible combination has at most the utilisation; the one named is admissible and exact; the verdict (SCOPE 10.3)
pub record UtilisationAnswered (w : Sheet) (station : ℕ) (m : Made) : Type 0 where
  pub used : Utilised
  pub answered : m.result.answer ≡ answer.Utilisation used
  pub bytes : reported m ≡ answer.Utilisation used
  pub greatest :
      Utilisation w.settings (kind_at w) (λ k j. effect_at w k station j) (capacities_at w station)
      (named used.row used.acting used.low) used.numerator used.denominator used.pass

-- Demand 3: at each station and component, and at each station with capacities, with room for an answer (SCOPE 9.3, 10.3)
pub record Demand3 (w s : Sheet) : Type 0 where
  pub extremes : (station component : ℕ) → station < 16 → component < 3 → (m : Made) (rest : List ℕ) → answer_room ≤ length m.out →
      m.input ≡ look_extremes station component rest → ReadOn s m → ExtremesAnswered w station component m
  pub utilisation : (station : ℕ) → station < 16 → 0 < capacity_at w station 0 → (m : Made) (rest : List ℕ) → answer_room ≤ length m.out →
      m.input ≡ look_utilisation station rest → ReadOn s m → UtilisationAnswered w station m
  -- among the combinations that these go over is, with each, the same with the tank empty (SCOPE 4.2)
  pub empty_tank : EmptyTankConsidered w.settings (kind_at w)

-- The three demands. After any list of readings, the first on a fresh sheet and each later one on the sheet that the one before
-- returned, they hold of the sheet worked out from the list and of the sheet that the last reading returned (SCOPE 9.1, 9.2).
abbrev pub Demands : Type 0
Demands = (ms : List Made) (s : Sheet) → Readings fresh_sheet ms s → Demand1 (worked_out ms) s × Demand2 (worked_out ms) s × Demand3 (worked_out ms) s
