-- SCOPE 7.1: the refusals by their numbers.
use Rattle.std.specs.Prelude.{ℕ}
use Rattle.recheck_refusals.specs.declared.refusal.Refusal.{Refusal}
use Rattle.recheck_refusals.specs.declared.refusal.Refusal.TheVariants.{UnknownTag, Length, Cut, Setting, Case, Station, Kind, Component, Effect, Capacity, PlaceTaken, PlaceEmpty, NoCapacities, Straining}

abbrev pub number_of : Refusal → ℕ
number_of UnknownTag = 1
number_of Length = 2
number_of Cut = 3
number_of Setting = 4
number_of Case = 5
number_of Station = 6
number_of Kind = 7
number_of Component = 8
number_of Effect = 9
number_of Capacity = 10
number_of PlaceTaken = 11
number_of PlaceEmpty = 12
number_of NoCapacities = 13
number_of Straining = 15
