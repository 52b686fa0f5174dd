-- SCOPE 9.5: fields for some of the stations, such a field with other effects or capacities, and the comparison of two answers.
use Rattle.std.specs.Prelude.{ℕ, ◌+◌, ◌/◌, ◌%◌, ◌-◌, List, Bool, cond, not, ◌&&◌, ◌||◌, eqb, ltb, length, set}
use Rattle.recheck_bytes.specs.Bytes.{byte_at, pair_at, same_up_to}
use Rattle.recheck_offices.specs.declared.Stations.{Stations}
use Rattle.recheck_offices.specs.declared.Stations.TheVariants.{Only, AllBut}
use Rattle.recheck_offices.specs.declared.Values.{Values}
use Rattle.recheck_offices.specs.declared.Values.TheVariants.{Effects, Capacities}

-- SCOPE 5.1: a whole field of the tag, with so many bytes in its body
abbrev pub is_field : List ℕ → ℕ → ℕ → Bool
is_field field tag body = eqb (length field) (body + 3) && eqb (byte_at field 0) tag && eqb (pair_at field 1) body

-- the one station alone, or all others
abbrev pub is_chosen : Stations → ℕ → Bool
is_chosen (Only station) s = eqb s station
is_chosen (AllBut station) s = not (eqb s station)

-- the stations that are not chosen
abbrev pub others : Stations → Stations
others (Only station) = AllBut station
others (AllBut station) = Only station

-- SCOPE 5.2: the effects of a case at a chosen station. The station follows the case.
unfoldable pub gives_effects : List ℕ → Stations → Bool
gives_effects field stations = is_field field 3 8 && is_chosen stations (byte_at field 4)

-- the capacities of a chosen station
unfoldable pub gives_capacities : List ℕ → Stations → Bool
gives_capacities field stations = is_field field 5 7 && is_chosen stations (byte_at field 3)

-- these or those, by what is asked
abbrev pub given_by : Values → List ℕ → Stations → Bool
given_by Effects field stations = gives_effects field stations
given_by Capacities field stations = gives_capacities field stations

-- a look at a chosen station
unfoldable pub looks_at : List ℕ → Stations → Bool
looks_at field stations = (is_field field 6 2 || is_field field 7 1) && is_chosen stations (byte_at field 3)

-- SCOPE 2.4, in 16 bits of two's complement: 10,000 less than an effect from 0 on, 10,001 more than one below 0; an effect outside
-- the limits is kept
abbrev pub other_effect : ℕ → ℕ
other_effect e = cond (ltb e 10001) ((e + 55536) % 65536) (cond (ltb e 55536) e (e - 55535))

-- SCOPE 2.5: as far from the upper limit as the capacity is from the lower one; a capacity outside the limits is kept
abbrev pub other_capacity : ℕ → ℕ
other_capacity c = cond (ltb 0 c && ltb c 10001) (10001 - c) c

-- a number in two bytes, the high one first
abbrev pub with_pair : List ℕ → ℕ → ℕ → List ℕ
with_pair s at value = set (set s at (value / 256)) (at + 1) (value % 256)

-- another effect, or another capacity
abbrev pub other_value : Values → ℕ → ℕ
other_value Effects value = other_effect value
other_value Capacities value = other_capacity value

-- the number in the two bytes at a position replaced by another
unfoldable pub changed_pair : Values → List ℕ → ℕ → List ℕ
changed_pair values s at = with_pair s at (other_value values (pair_at s at))

-- three numbers from a position on
abbrev pub changed_three : Values → List ℕ → ℕ → List ℕ
changed_three values s at = changed_pair values (changed_pair values (changed_pair values s at) (at + 2)) (at + 4)

-- the field with other effects or capacities, where it gives those of a chosen station
unfoldable pub changed : List ℕ → Stations → List ℕ
changed field stations =
    cond (gives_effects field stations) (changed_three Effects field 5)
    (cond (gives_capacities field stations) (changed_three Capacities field 4) field)

-- as many bytes, and the same ones
abbrev pub same_bytes : List ℕ → List ℕ → Bool
same_bytes s t = eqb (length s) (length t) && same_up_to t s 0 (length t)

-- the answers to a field are the same, unless it is a look at a chosen station
abbrev pub answers_agree : List ℕ → Stations → List ℕ → List ℕ → Bool
answers_agree field stations s t = looks_at field stations || same_bytes s t
