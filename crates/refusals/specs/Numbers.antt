-- SCOPE 7.1: the number of each refusal, as it is answered.
use Rattle.std.specs.Prelude.{ℕ, Bool, cond, Result, Ok, Err}
use Rattle.refusals.specs.declared.Refusal.{Refusal}
use Rattle.refusals.specs.declared.Refusal.TheVariants.{UnknownTag, WrongLength, Cut, Setting, Case, Station, Kind, Component, Effect, Capacity, Taken, Empty, NoCapacities, ShortOutput, Straining}

abbrev pub number : Refusal → ℕ
number UnknownTag = 1
number WrongLength = 2
number Cut = 3
number Setting = 4
number Case = 5
number Station = 6
number Kind = 7
number Component = 8
number Effect = 9
number Capacity = 10
number Taken = 11
number Empty = 12
number NoCapacities = 13
number ShortOutput = 14
number Straining = 15

-- the number of what a function refuses with, 0 where it refuses nothing
abbrev pub number_of : {A : Type 0} → Result A Refusal → ℕ
number_of (Ok x) = 0
number_of (Err refusal) = number refusal

-- a refusal where it is due
abbrev pub refused_where : Bool → Refusal → Result Unit Refusal
refused_where due refusal = cond due (Err refusal) (Ok tt)
