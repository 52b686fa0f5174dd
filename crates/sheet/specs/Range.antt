-- SCOPE 2.1 to 2.5 and 2.7: the range of a sheet, which is what holds of every sheet that fields make from a fresh one.
use Rattle.std.specs.Prelude.{ℕ, ◌≤◌, ◌<◌, ◌≡◌, false, ◌⊎◌, length, get_or, pos, nat_abs}
use Rattle.standard.specs.Range.{SettingsInRange}
use Rattle.standard.specs.Kinds.{kind_count}
use Rattle.standard.specs.Combination.{case_count}
use Rattle.envelope.specs.Range.{effect_limit, station_count, component_count}
use Rattle.refusals.specs.Refusals.{capacity_outside}
use Rattle.effects.specs.Effects.{effect_count}
use Rattle.dead_sums.specs.DeadSums.{sums_of}
use Rattle.sheet.specs.declared.Sheet.{Sheet}
use Rattle.sheet.specs.Sheet.{kind_at, effect_at, capacity_at}

-- three capacities, or none (SCOPE 2.5)
abbrev pub AllOrNone : ℕ → ℕ → ℕ → Type 0
AllOrNone n y z =
    ((n ≡ 0) × (y ≡ 0) × (z ≡ 0))
    ⊎ ((capacity_outside n ≡ false) × (capacity_outside y ≡ false) × (capacity_outside z ≡ false))

pub record InRange (s : Sheet) : Type 0 where
  pub settings : SettingsInRange s.settings
  pub kinds_long : length s.kinds ≡ case_count
  pub effects_long : length s.effects ≡ effect_count
  pub capacities_long : length s.capacities ≡ station_count
  pub kinds_range : (k : ℕ) → kind_at s k < kind_count
  pub effects_range : (i : ℕ) → nat_abs (get_or s.effects i (pos 0)) ≤ effect_limit
  -- an empty place holds zeros (SCOPE 5.2)
  pub empty_zero : (k t j : ℕ) → kind_at s k ≡ 0 → k < case_count → t < station_count → j < component_count → effect_at s k t j ≡ pos 0
  -- the sums that are held are those of the cases (SCOPE 2.7)
  pub sums_true : s.sums ≡ sums_of s.kinds s.effects
  pub capacities_whole : (t : ℕ) → t < station_count → AllOrNone (capacity_at s t 0) (capacity_at s t 1) (capacity_at s t 2)
