-- SCOPE 2.7: the sum of the D effects and the sum of the F effects, for each station and component.
use Rattle.std.specs.Prelude.{ℕ, zero, suc, ◌+◌, ◌≤◌, Bool, List, [], ◌∷◌, ◌≡◌, eqb, ℤ, pos, neg_ℤ, ◌+ℤ◌, nat_abs, length, get_or, replicate}
use Rattle.integers.specs.Sums.{sum_where}
use Rattle.standard.specs.Combination.{case_count}
use Rattle.envelope.specs.declared.StationSums.{StationSums}
use Rattle.envelope.specs.Range.{station_count, component_count, effect_limit, total_most, total_at}
use Rattle.effects.specs.Effects.{effect_count, effect_in}

-- the sums of a station without cases
abbrev pub no_sums : StationSums
no_sums = record { dead = replicate component_count (pos 0); fluid = replicate component_count (pos 0) }

-- the sum of D, at 0, or of F, at 1, at a station, on a component
abbrev pub sum_in : List StationSums → ℕ → ℕ → ℕ → ℤ
sum_in sums which station j = total_at (get_or sums station no_sums) which j

-- what a function gives for the numbers below n, one after the other
unfoldable pub tabulated : {A : Type 0} → ℕ → (ℕ → A) → List A
tabulated zero f = []
tabulated (suc n) f = f 0 ∷ tabulated n (λ i. f (suc i))

-- the sum over the cases that a test counts for the one or the other
abbrev pub sum_by : (ℕ → ℕ → Bool) → List ℤ → ℕ → ℕ → ℕ → ℤ
sum_by member effects which station j = sum_where case_count (member which) (λ k. effect_in effects k station j)

-- those of a station, and of all
abbrev pub station_by : (ℕ → ℕ → Bool) → List ℤ → ℕ → StationSums
station_by member effects station =
    record { dead = tabulated component_count (sum_by member effects 0 station); fluid = tabulated component_count (sum_by member effects 1 station) }

unfoldable pub sums_by : (ℕ → ℕ → Bool) → List ℤ → List StationSums
sums_by member effects = tabulated station_count (station_by member effects)

-- D is kind 1, F is kind 2 (SCOPE 2.3)
abbrev pub of_dead_kind : List ℕ → ℕ → ℕ → Bool
of_dead_kind kinds which case = eqb (get_or kinds case 0) (suc which)

-- the sums for these kinds of the cases and these effects
abbrev pub sums_of : List ℕ → List ℤ → List StationSums
sums_of kinds effects = sums_by (of_dead_kind kinds) effects

-- effects within their limit
abbrev pub EffectsWithin : List ℤ → Type 0
EffectsWithin effects = (i : ℕ) → nat_abs (get_or effects i (pos 0)) ≤ effect_limit

-- the sums are those, and the effects are in range
pub record SumsHeld (kinds : List ℕ) (effects : List ℤ) (sums : List StationSums) : Type 0 where
  pub effects_long : length effects ≡ effect_count
  pub effects_range : EffectsWithin effects
  pub sums_true : sums ≡ sums_of kinds effects

-- a sum with an effect replaced
abbrev pub moved_by : ℤ → ℤ → ℤ → ℤ
moved_by sum old new = sum +ℤ (new +ℤ neg_ℤ old)

-- three sums with three effects, from a position on, replaced
abbrev pub sums_moved : List ℤ → List ℤ → ℕ → List ℤ → List ℤ
sums_moved sums effects from values =
    tabulated component_count (λ j. moved_by (get_or sums j (pos 0)) (get_or effects (from + j) (pos 0)) (get_or values j (pos 0)))

-- there is room for all of it
pub record MovesInRange (sums effects values : List ℤ) : Type 0 where
  pub sums_range : (i : ℕ) → nat_abs (get_or sums i (pos 0)) ≤ total_most
  pub effects_range : EffectsWithin effects
  pub values_range : EffectsWithin values
