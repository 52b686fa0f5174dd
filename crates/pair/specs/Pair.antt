-- SCOPE 4.7: the law of the pair, about any list of readings.
use Rattle.std.specs.Prelude.{ℕ, ◌≤◌, ◌<◌, ◌≡◌, List, neg_ℤ, length}
use Rattle.standard.specs.Combination.{case_count}
use Rattle.envelope.specs.Range.{station_count, component_count}
use Rattle.envelope.specs.declared.Extremes as extremes
use Rattle.sheet.specs.declared.Sheet.{Sheet}
use Rattle.sheet.specs.declared.Answer.TheVariants as answer
use Rattle.sheet.specs.Sheet.{fresh_sheet, kind_at, effect_at, capacity_at}
use Rattle.sheet.specs.Looks.{extremes_at}
use Rattle.answers.specs.Answers.{answer_room}
use Rattle.demands.specs.Readings.{Made, ReadOn, Readings}
use Rattle.demands.specs.Demands.{look_extremes, reported}

-- v holds what s holds, with the sign of every effect turned (SCOPE 4.7)
pub record SignsTurned (s v : Sheet) : Type 0 where
  pub settings : v.settings ≡ s.settings
  pub kinds : (k : ℕ) → k < case_count → kind_at v k ≡ kind_at s k
  pub effects : (k t j : ℕ) → k < case_count → t < station_count → j < component_count → effect_at v k t j ≡ neg_ℤ (effect_at s k t j)
  pub capacities : (t j : ℕ) → t < station_count → j < component_count → capacity_at v t j ≡ capacity_at s t j

-- the maximum is the former minimum with its sign turned, and the reverse (SCOPE 4.7)
pub record Opposite (former turned : extremes.Extremes) : Type 0 where
  pub maximum : turned.maximum.value ≡ neg_ℤ former.minimum.value
  pub minimum : turned.minimum.value ≡ neg_ℤ former.maximum.value

-- a reading of tag 06 on a sheet, with room for its answer, whatever follows the field (SCOPE 5.2)
pub record Look (s : Sheet) (station component : ℕ) (m : Made) : Type 0 where
  pub rest : List ℕ
  pub input : m.input ≡ look_extremes station component rest
  pub room : answer_room ≤ length m.out
  pub read : ReadOn s m

-- two readings answer opposite extremes, and the bytes that they write say so (SCOPE 6.1)
pub record OppositeAnswers (m n : Made) : Type 0 where
  pub former : extremes.Extremes
  pub turned : extremes.Extremes
  pub answered : (m.result.answer ≡ answer.Extremes former) × (n.result.answer ≡ answer.Extremes turned)
  pub bytes : (reported m ≡ answer.Extremes former) × (reported n ≡ answer.Extremes turned)
  pub opposite : Opposite former turned

-- the law of two sheets: at every station and component, of the extremes defined and of the answers to tag 06 (SCOPE 4.7)
pub record Pair (s v : Sheet) : Type 0 where
  pub extremes : (station component : ℕ) → station < station_count → component < component_count → Opposite (extremes_at s station component) (extremes_at v station component)
  pub answers : (station component : ℕ) → station < station_count → component < component_count → (m n : Made) → Look s station component m → Look v station component n →
      OppositeAnswers m n

-- some list of readings from a fresh sheet makes the sheet with the sign of every effect turned (SCOPE 4.7)
pub record TurnedMade (s : Sheet) : Type 0 where
  pub list : List Made
  pub sheet : Sheet
  pub readings : Readings fresh_sheet list sheet
  pub turned : SignsTurned s sheet

-- The law of the pair. After any list of readings from a fresh sheet, some list makes the sheet with the sign of every effect turned, and on the
-- sheet of any list that does the maximum is the former minimum with its sign turned, and the reverse.
abbrev pub LawOfThePair : Type 0
LawOfThePair = (ms : List Made) (s : Sheet) → Readings fresh_sheet ms s →
    TurnedMade s × ((ns : List Made) (v : Sheet) → Readings fresh_sheet ns v → SignsTurned s v → Pair s v)
