-- SCOPE 9.5: what is answered for one station does not depend on what the others hold; about any two lists of readings.
use Rattle.std.specs.Prelude.{ℕ, ◌≤◌, ◌<◌, ◌≡◌, true, List, [], ◌∷◌, ◌⊎◌, length, take}
use Rattle.standard.specs.Combination.{case_count}
use Rattle.envelope.specs.Range.{station_count, component_count}
use Rattle.sheet.specs.declared.Sheet.{Sheet}
use Rattle.sheet.specs.declared.Answer.TheVariants as answer
use Rattle.sheet.specs.Sheet.{fresh_sheet, kind_at, effect_at, capacity_at}
use Rattle.sheet.specs.Range.{InRange}
use Rattle.tags.specs.Tags.{unknown_tag}
use Rattle.headers.specs.Headers.{tag_of, field_in}
use Rattle.demands.specs.Readings.{Made, ReadOn, Readings}
use Rattle.demands.specs.Demands.{look_extremes, look_utilisation}

-- ---- what is given

-- fields of tags 03 and 05 up to the station; the effects or the capacities, and whatever follows them, are the rest (SCOPE 5.2)
abbrev pub effects_field : ℕ → ℕ → List ℕ → List ℕ
effects_field case station rest = 3 ∷ 0 ∷ 8 ∷ case ∷ station ∷ rest

abbrev pub capacities_field : ℕ → List ℕ → List ℕ
capacities_field station rest = 5 ∷ 0 ∷ 7 ∷ station ∷ rest

-- such a field is accepted in both lists (SCOPE 9.5)
abbrev pub AcceptedInBoth : Made → Made → Type 0
AcceptedInBoth m n = (m.result.answer ≡ answer.Accepted) × (n.result.answer ≡ answer.Accepted)

-- two fields are the same, or differ in the effects or the capacities for a station other than t (SCOPE 9.5)
pub data DifferElsewhere (t : ℕ) (m n : Made) : Type 0 where
  same : field_in m.input ≡ field_in n.input → DifferElsewhere t m n
  effects : (case station : ℕ) (rest rest' : List ℕ) → (station ≡ t → ⊥) →
      m.input ≡ effects_field case station rest → n.input ≡ effects_field case station rest' → AcceptedInBoth m n → DifferElsewhere t m n
  capacities : (station : ℕ) (rest rest' : List ℕ) → (station ≡ t → ⊥) →
      m.input ≡ capacities_field station rest → n.input ≡ capacities_field station rest' → AcceptedInBoth m n → DifferElsewhere t m n

-- the readings at one place of the two lists (SCOPE 9.5)
pub record Paired (t : ℕ) (m n : Made) : Type 0 where
  -- a field of tags 01 to 09, or of an unknown tag; the fields of further tags are in neither list
  pub tags : (tag_of m.input ≤ 9) ⊎ (unknown_tag (tag_of m.input) ≡ true)
  -- output slices have equal lengths
  pub rooms : length m.out ≡ length n.out
  pub fields : DifferElsewhere t m n

-- two lists of equal length, and what holds of the readings at each place (SCOPE 9.5)
pub data AtEachPlace (P : Made → Made → Type 0) : List Made → List Made → Type 0 where
  none : AtEachPlace P [] []
  next : {m n : Made} {ms ns : List Made} → P m n → AtEachPlace P ms ns → AtEachPlace P (m ∷ ms) (n ∷ ns)

-- ---- what holds then

-- a look at a station other than t: a field of tag 06 or 07 for it, whatever follows (SCOPE 5.2)
pub data LooksElsewhere (t : ℕ) : List ℕ → Type 0 where
  extremes : (station component : ℕ) (rest : List ℕ) → station < station_count → component < component_count → (station ≡ t → ⊥) →
      LooksElsewhere t (look_extremes station component rest)
  utilisation : (station : ℕ) (rest : List ℕ) → station < station_count → (station ≡ t → ⊥) → LooksElsewhere t (look_utilisation station rest)

-- the same answer, the combinations named included, byte for byte; and the same output after it, where it was the same before (SCOPE 9.5)
pub record SameAnswer (m n : Made) : Type 0 where
  pub answer : m.result.answer ≡ n.result.answer
  pub bytes : take m.result.written m.out' ≡ take n.result.written n.out'
  pub output : m.out ≡ n.out → m.out' ≡ n.out'

-- so are all answers for station t, and all answers to tags other than 06 and 07 (SCOPE 9.5)
abbrev pub SameForStation : ℕ → Made → Made → Type 0
SameForStation t m n = (LooksElsewhere t m.input → ⊥) → SameAnswer m n

-- two sheets hold the same but for the effects and capacities at stations other than t (SCOPE 2.1, 9.5)
pub record HoldsSameAt (t : ℕ) (s v : Sheet) : Type 0 where
  pub settings : s.settings ≡ v.settings
  pub kinds : (k : ℕ) → k < case_count → kind_at s k ≡ kind_at v k
  pub effects : (k j : ℕ) → k < case_count → j < component_count → effect_at s k t j ≡ effect_at v k t j
  pub capacities : (j : ℕ) → j < component_count → capacity_at s t j ≡ capacity_at v t j

-- One reading: what is answered, and what the sheet then holds but for other stations, depends on no other station (SCOPE 9.5).
abbrev pub DependsOnStation : Type 0
DependsOnStation = (t : ℕ) → t < station_count → (s v : Sheet) → InRange s → InRange v → HoldsSameAt t s v →
    (m n : Made) → ReadOn s m → ReadOn v n → Paired t m n → SameForStation t m n × HoldsSameAt t m.result.sheet n.result.sheet

-- Two offices on one sheet. Two lists from a fresh sheet differ only in the effects and capacities inside their tag 03 and 05 fields for
-- stations other than t. Then all answers for t, and all answers to tags other than 06 and 07, are the same in both. This holds
-- besides `Demands`, which speaks of each list (SCOPE 9.5, 10).
abbrev pub TwoOffices : Type 0
TwoOffices = (t : ℕ) → t < station_count → (ms ns : List Made) (s v : Sheet) → Readings fresh_sheet ms s → Readings fresh_sheet ns v →
    AtEachPlace (Paired t) ms ns → AtEachPlace (SameForStation t) ms ns × HoldsSameAt t s v
