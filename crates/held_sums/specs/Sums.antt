-- SCOPE 2.7: the sums that a sheet holds are true after any list of readings, and what is answered after a load case is dropped is of the
-- sheet without it.
use Rattle.std.specs.Prelude.{ℕ, ◌<◌, ◌≡◌, List, ◌∷◌, eqb, ℤ}
use Rattle.integers.specs.Sums.{sum_where}
use Rattle.standard.specs.Combination.{case_count}
use Rattle.envelope.specs.declared.StationSums.{StationSums}
use Rattle.envelope.specs.Range.{station_count, component_count}
use Rattle.dead_sums.specs.DeadSums.{sum_in}
use Rattle.sheet.specs.declared.Sheet.{Sheet}
use Rattle.sheet.specs.declared.Answer.TheVariants as answer
use Rattle.sheet.specs.Sheet.{fresh_sheet, kind_at, effect_at, capacity_at, with_kind}
use Rattle.sheet.specs.Range.{InRange}
use Rattle.saved_fields.specs.Saved.{saved_bytes}
use Rattle.demands.specs.Readings.{Made, ReadOn, Readings, worked_out, Restores}
use Rattle.demands.specs.Demands.{Demand3}

-- each sum is that of the effects of the cases of kind D, which is 1, or F, which is 2 (SCOPE 2.3, 2.7)
pub record SumsTrue (s : Sheet) : Type 0 where
  pub dead : (station j : ℕ) → station < station_count → j < component_count →
      sum_in s.sums 0 station j ≡ sum_where case_count (λ k. eqb (kind_at s k) 1) (λ k. effect_at s k station j)
  pub fluid : (station j : ℕ) → station < station_count → j < component_count →
      sum_in s.sums 1 station j ≡ sum_where case_count (λ k. eqb (kind_at s k) 2) (λ k. effect_at s k station j)

-- The sums are true on a fresh sheet, and kept true by every field, refused ones included (SCOPE 2.7).
pub record SumsKeptTrue : Type 0 where
  pub fresh : SumsTrue fresh_sheet
  -- one reading, whatever its bytes and its output: of a sheet in range, so of any that some list makes from a fresh one
  pub field : (s : Sheet) → InRange s → (m : Made) → ReadOn s m → SumsTrue m.result.sheet
  -- any list of readings
  pub list : (ms : List Made) (s : Sheet) → Readings fresh_sheet ms s → SumsTrue s
  -- a refused one leaves them as they were
  pub refused : (ms : List Made) (s : Sheet) → Readings fresh_sheet ms s → (m : Made) (n : ℕ) → ReadOn s m → m.result.answer ≡ answer.Refused n →
      m.result.sheet.sums ≡ s.sums
  -- saved bytes don't depend on them (SCOPE 8.1), and what saved bytes restore has them true
  pub unsaved : (s : Sheet) (sums : List StationSums) → saved_bytes (record s { sums = sums }) ≡ saved_bytes s
  pub restored : (ms : List Made) (s : Sheet) → Readings fresh_sheet ms s → (s₀ s₁ : Sheet) → Restores (saved_bytes s) s₀ s₁ → SumsTrue s₁

-- a field of tag 04, whatever follows it (SCOPE 5.2)
abbrev pub drop_field : ℕ → List ℕ → List ℕ
drop_field case rest = 4 ∷ 0 ∷ 1 ∷ case ∷ rest

-- s is w without a case (SCOPE 5.2)
pub record Without (case : ℕ) (w s : Sheet) : Type 0 where
  pub settings : s.settings ≡ w.settings
  pub empty : kind_at s case ≡ 0
  pub kinds : (k : ℕ) → (k ≡ case → ⊥) → kind_at s k ≡ kind_at w k
  pub effects : (k station j : ℕ) → k < case_count → j < component_count → (k ≡ case → ⊥) → effect_at s k station j ≡ effect_at w k station j
  pub capacities : (station j : ℕ) → capacity_at s station j ≡ capacity_at w station j

-- what a designer finds who drops a case and looks again: every extreme and every utilisation is of the sheet as it then is
pub record FoundAfterDrop (case : ℕ) (w s : Sheet) : Type 0 where
  pub dropped : Without case w (with_kind w case 0)
  pub sums : SumsTrue s
  pub looks : Demand3 (with_kind w case 0) s

-- After any list of readings and a tag 04 that is accepted (SCOPE 2.7, 10.3)
abbrev pub DropAndLook : Type 0
DropAndLook = (ms : List Made) (s : Sheet) → Readings fresh_sheet ms s → (case : ℕ) (m : Made) (rest : List ℕ) →
    m.input ≡ drop_field case rest → ReadOn s m → m.result.answer ≡ answer.Accepted → FoundAfterDrop case (worked_out ms) m.result.sheet
