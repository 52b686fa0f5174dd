-- SCOPE 8.1: a saved sheet's bytes, by what its accessors give.
use Rattle.std.specs.Prelude.{ℕ, zero, suc, ◌+◌, ◌*◌, List, [], ◌∷◌, ◌++◌, Bool, cond, ◌&&◌, eqb, ℤ, nat_abs}
use Rattle.wire.specs.Bytes.{word_bytes, bits16}
use Rattle.standard.specs.declared.Settings.{Settings}
use Rattle.standard.specs.Combination.{case_count}
use Rattle.envelope.specs.Range.{station_count}
use Rattle.sheet.specs.declared.Sheet.{Sheet}
use Rattle.sheet.specs.Sheet.{kind_at, effect_at, capacity_at}

-- f 0, f 1, .. f (n - 1), one after the other
unfoldable pub up_to : (ℕ → List ℕ) → ℕ → List ℕ
up_to f zero = []
up_to f (suc n) = up_to f n ++ f n

-- the three components' numbers, two bytes each
unfoldable pub words : ℕ → ℕ → ℕ → List ℕ
words n y z = word_bytes n ++ (word_bytes y ++ word_bytes z)

-- tags 01, 02, 03 and 05 (SCOPE 5.2)
unfoldable pub settings_field : Settings → List ℕ
settings_field s = 1 ∷ 0 ∷ 3 ∷ s.method ∷ s.live ∷ s.zone ∷ []

-- tag 08 where the ice rows are switched on
unfoldable pub switch_field : Settings → List ℕ
switch_field s = cond (eqb s.ice 0) [] (8 ∷ 0 ∷ 1 ∷ s.ice ∷ [])

-- tag 09 where the factor of T is not 1000
unfoldable pub straining_field : Settings → List ℕ
straining_field s = cond (eqb s.straining 1000) [] (9 ∷ 0 ∷ 2 ∷ word_bytes s.straining)

-- all settings
unfoldable pub settings_bytes : Settings → List ℕ
settings_bytes s = settings_field s ++ (switch_field s ++ straining_field s)

unfoldable pub fill_field : ℕ → ℕ → List ℕ
fill_field case kind = 2 ∷ 0 ∷ 2 ∷ case ∷ kind ∷ []

unfoldable pub effects_field : ℕ → ℕ → ℤ → ℤ → ℤ → List ℕ
effects_field case station n y z = (3 ∷ 0 ∷ 8 ∷ case ∷ station ∷ []) ++ words (bits16 n) (bits16 y) (bits16 z)

unfoldable pub capacities_field : ℕ → ℕ → ℕ → ℕ → List ℕ
capacities_field station n y z = (5 ∷ 0 ∷ 7 ∷ station ∷ []) ++ words n y z

-- no effect other than 0
abbrev pub all_zero : ℤ → ℤ → ℤ → Bool
all_zero n y z = eqb (nat_abs n) 0 && (eqb (nat_abs y) 0 && eqb (nat_abs z) 0)

-- tag 03 for a station with an effect other than 0
unfoldable pub station_bytes : (ℕ → ℕ → ℕ → ℤ) → ℕ → ℕ → List ℕ
station_bytes effect case station =
    cond (all_zero (effect case station 0) (effect case station 1) (effect case station 2)) []
    (effects_field case station (effect case station 0) (effect case station 1) (effect case station 2))

-- for a filled place, tag 02 and then tag 03 for each such station, rising
unfoldable pub case_bytes : (ℕ → ℕ) → (ℕ → ℕ → ℕ → ℤ) → ℕ → List ℕ
case_bytes kind effect case = cond (eqb (kind case) 0) [] (fill_field case (kind case) ++ up_to (station_bytes effect case) station_count)

-- tag 05 for a station that has capacities
unfoldable pub capacity_bytes : (ℕ → ℕ → ℕ) → ℕ → List ℕ
capacity_bytes capacity station =
    cond (eqb (capacity station 0) 0) [] (capacities_field station (capacity station 0) (capacity station 1) (capacity station 2))

-- tag 01, tag 08 where the ice rows are on, tag 09 where the factor of T is not 1000; then each filled place, rising; then each station that
-- has capacities
unfoldable pub saved_by : Settings → (ℕ → ℕ) → (ℕ → ℕ → ℕ → ℤ) → (ℕ → ℕ → ℕ) → List ℕ
saved_by settings kind effect capacity =
    settings_bytes settings ++ (up_to (case_bytes kind effect) case_count ++ up_to (capacity_bytes capacity) station_count)

unfoldable pub saved_bytes : Sheet → List ℕ
saved_bytes s = saved_by s.settings (kind_at s) (effect_at s) (capacity_at s)

-- the most bytes of a station, of a place, of a station's capacities, of the settings and of a sheet: 5,967 (SCOPE 8.3)
abbrev pub station_most : ℕ
station_most = 11

abbrev pub case_most : ℕ
case_most = 5 + station_count * station_most

abbrev pub capacity_most : ℕ
capacity_most = 10

abbrev pub settings_most : ℕ
settings_most = 6 + 4 + 5

abbrev pub saved_most : ℕ
saved_most = settings_most + case_count * case_most + station_count * capacity_most
