-- How the effects of a sheet stand in memory: those of one station together, by case and component.
use Rattle.std.specs.Prelude.{ℕ, zero, suc, ◌+◌, ◌*◌, List, [], ◌∷◌, get_or, replicate, take, drop, ℤ, pos}
use Rattle.std.proofs.lemmas.List.Edits.{sets}
use Rattle.standard.specs.Combination.{case_count}
use Rattle.envelope.specs.Range.{station_count, component_count}

-- of a station, and of all
abbrev pub station_length : ℕ
station_length = case_count * component_count

abbrev pub effect_count : ℕ
effect_count = station_count * station_length

abbrev pub place : ℕ → ℕ → ℕ
place case station = station * station_length + case * component_count

abbrev pub effect_in : List ℤ → ℕ → ℕ → ℕ → ℤ
effect_in effects case station j = get_or effects (place case station + j) (pos 0)

-- those of one station
abbrev pub station_in : List ℤ → ℕ → List ℤ
station_in effects station = take station_length (drop (station * station_length) effects)

-- so many effects of 0
unfoldable pub zeros : ℕ → List ℤ
zeros n = replicate n (pos 0)

-- with those of a case at the stations below n set to 0
unfoldable pub cleared : List ℤ → ℕ → ℕ → List ℤ
cleared effects case zero = effects
cleared effects case (suc n) = sets (cleared effects case n) (place case n) (pos 0 ∷ pos 0 ∷ pos 0 ∷ [])
