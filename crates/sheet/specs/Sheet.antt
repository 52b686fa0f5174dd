-- SCOPE 2.1, 2.7 and 5.2: what a sheet holds, seen through accessors, and what each edit makes of it.
use Rattle.std.specs.Prelude.{ℕ, zero, suc, List, [], ◌∷◌, get_or, set, replicate, ℤ}
use Rattle.std.proofs.lemmas.List.Edits.{sets}
use Rattle.standard.specs.declared.Settings.{Settings}
use Rattle.standard.specs.declared.Capacities.{Capacities}
use Rattle.standard.specs.Combination.{case_count}
use Rattle.standard.specs.Rows.{switched, strained, fresh_settings}
use Rattle.envelope.specs.declared.StationSums.{StationSums}
use Rattle.envelope.specs.Range.{station_count}
use Rattle.effects.specs.Effects.{effect_count, place, effect_in, zeros, cleared}
use Rattle.dead_sums.specs.DeadSums.{no_sums, sums_of}
use Rattle.sheet.specs.declared.Sheet.{Sheet}

-- the kind at a place: 0 where it is empty, or no place (SCOPE 2.1)
abbrev pub kind_at : Sheet → ℕ → ℕ
kind_at s case = get_or s.kinds case 0

-- the effect of a case at a station, on component j: 0 N, 1 My, 2 Mz (SCOPE 2.4)
unfoldable pub effect_at : Sheet → ℕ → ℕ → ℕ → ℤ
effect_at s case station j = effect_in s.effects case station j

-- what a station without capacities holds (SCOPE 2.5)
abbrev pub no_capacities : Capacities
no_capacities = record { n = 0; y = 0; z = 0 }

-- the capacity on component j: 0 N, 1 My, 2 Mz (SCOPE 2.4)
abbrev pub capacity_on : Capacities → ℕ → ℕ
capacity_on c zero = c.n
capacity_on c (suc zero) = c.y
capacity_on c (suc (suc zero)) = c.z
capacity_on c (suc (suc (suc j))) = 0

abbrev pub capacity_in : List Capacities → ℕ → ℕ → ℕ
capacity_in capacities station j = capacity_on (get_or capacities station no_capacities) j

-- a capacity of a station, 0 where it has none (SCOPE 2.5)
unfoldable pub capacity_at : Sheet → ℕ → ℕ → ℕ
capacity_at s station j = capacity_in s.capacities station j

-- the sums of a station, of D and of F
abbrev pub totals_in : List StationSums → ℕ → StationSums
totals_in sums station = get_or sums station no_sums

-- tag 01: empty places, no effects, so all sums 0, and no capacities (SCOPE 2.6, 5.2)
unfoldable pub fresh : Settings → Sheet
fresh settings =
    record { settings = settings; kinds = replicate case_count 0; effects = zeros effect_count; sums = replicate station_count no_sums; capacities = replicate station_count no_capacities }

-- a fresh sheet has method 1, live option 0, zone 0 (SCOPE 2.6)
abbrev pub fresh_sheet : Sheet
fresh_sheet = fresh fresh_settings

-- a sheet with its sums worked out (SCOPE 2.7)
abbrev pub summed : Settings → List ℕ → List ℤ → List Capacities → Sheet
summed settings kinds effects capacities = record { settings = settings; kinds = kinds; effects = effects; sums = sums_of kinds effects; capacities = capacities }

-- tags 02 and 04: the place holds this kind, 0 for none, all effects 0 (SCOPE 5.2)
unfoldable pub with_kind : Sheet → ℕ → ℕ → Sheet
with_kind s case kind = summed s.settings (set s.kinds case kind) (cleared s.effects case station_count) s.capacities

-- tag 03: that case's three effects there (SCOPE 5.2)
unfoldable pub with_effects : Sheet → ℕ → ℕ → ℤ → ℤ → ℤ → Sheet
with_effects s case station n y z = summed s.settings s.kinds (sets s.effects (place case station) (n ∷ y ∷ z ∷ [])) s.capacities

-- tag 05: the station's three capacities; kinds and effects stay, and so the sums (SCOPE 5.2)
unfoldable pub with_capacities : Sheet → ℕ → ℕ → ℕ → ℕ → Sheet
with_capacities s station n y z =
    record { settings = s.settings; kinds = s.kinds; effects = s.effects; sums = s.sums; capacities = set s.capacities station (record { n = n; y = y; z = z }) }

-- tags 08 and 09: other settings, the rest as it was (SCOPE 5.2)
unfoldable pub with_settings : Sheet → Settings → Sheet
with_settings s settings = record { settings = settings; kinds = s.kinds; effects = s.effects; sums = s.sums; capacities = s.capacities }

-- tag 08: the ice rows switched on, at 1, or off (SCOPE 5.2)
abbrev pub with_switch : Sheet → ℕ → Sheet
with_switch s byte = with_settings s (switched byte s.settings)

-- tag 09: the factor of T (SCOPE 5.2)
abbrev pub with_straining : Sheet → ℕ → Sheet
with_straining s factor = with_settings s (strained factor s.settings)
