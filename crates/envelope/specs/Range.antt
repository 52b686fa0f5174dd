-- The range of a station's inputs (SCOPE 2.3 to 2.5).
use Rattle.std.specs.Prelude.{ℕ, zero, suc, ◌+◌, ◌*◌, ◌<◌, ◌≤◌, List, ◌≡◌, length, get_or, ℤ, pos, nat_abs}
use Rattle.standard.specs.declared.Capacities.{Capacities}
use Rattle.standard.specs.Kinds.{kind_count}
use Rattle.standard.specs.Combination.{case_count}
use Rattle.envelope.specs.declared.StationSums.{StationSums}
use Rattle.envelope.specs.declared.Weights.{Weights}

-- the kind of a case, 0 for an empty place, and its effect on a component; both are 0 past the last case
abbrev pub kind_of : List ℕ → ℕ → ℕ
kind_of kinds k = get_or kinds k 0

abbrev pub effect_of : List ℤ → ℕ → ℕ → ℤ
effect_of effects k j = get_or effects (k * 3 + j) (pos 0)

-- effects of the cases on what is maximised
abbrev pub listed : List ℤ → ℕ → ℤ
listed e k = get_or e k (pos 0)

-- stations (SCOPE 2.1), and the components N, My, Mz (SCOPE 2.4)
abbrev pub station_count : ℕ
station_count = 16

abbrev pub component_count : ℕ
component_count = 3

-- effects run from -10,000 to 10,000 (SCOPE 2.4), capacities from 1 to 10,000 (SCOPE 2.5)
abbrev pub effect_limit : ℕ
effect_limit = 10000

abbrev pub capacity_limit : ℕ
capacity_limit = 10000

-- the kinds of the cases, and three effects of each
pub record StationInRange (kinds : List ℕ) (effects : List ℤ) : Type 0 where
  pub kinds_long : length kinds ≡ case_count
  pub effects_long : length effects ≡ case_count * component_count
  pub kinds_range : (k : ℕ) → get_or kinds k 0 < kind_count
  pub effects_range : (i : ℕ) → nat_abs (get_or effects i (pos 0)) ≤ effect_limit

-- either by itself
pub record KindsInRange (kinds : List ℕ) : Type 0 where
  pub long : length kinds ≡ case_count
  pub range : (k : ℕ) → get_or kinds k 0 < kind_count

pub record EffectsInRange (effects : List ℤ) : Type 0 where
  pub long : length effects ≡ case_count * component_count
  pub range : (i : ℕ) → nat_abs (get_or effects i (pos 0)) ≤ effect_limit

-- the greatest total: every case counts once
abbrev pub total_most : ℕ
total_most = case_count * effect_limit

-- the total of D, at 0, or of F, at 1, on a component (SCOPE 2.7)
abbrev pub total_at : StationSums → ℕ → ℕ → ℤ
total_at totals zero j = get_or totals.dead j (pos 0)
total_at totals (suc zero) j = get_or totals.fluid j (pos 0)
total_at totals (suc (suc which)) j = pos 0

pub record TotalsInRange (totals : StationSums) : Type 0 where
  pub range : (which j : ℕ) → nat_abs (total_at totals which j) ≤ total_most

pub record CapacitiesInRange (p : Capacities) : Type 0 where
  pub n_least : 1 ≤ p.n
  pub n_most : p.n ≤ capacity_limit
  pub y_least : 1 ≤ p.y
  pub y_most : p.y ≤ capacity_limit
  pub z_least : 1 ≤ p.z
  pub z_most : p.z ≤ capacity_limit

-- products of two capacities, with a sign
abbrev pub weight_most : ℕ
weight_most = 100000000

pub record WeightsInRange (w : Weights) : Type 0 where
  pub n : nat_abs w.n ≤ weight_most
  pub y : nat_abs w.y ≤ weight_most
  pub z : nat_abs w.z ≤ weight_most

-- the greatest weighed effect of a case: three effects of 10,000 at such weights
abbrev pub effect_most : ℕ
effect_most = 3000000000000
