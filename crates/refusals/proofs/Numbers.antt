-- Each refusal has a number of its own, from 1 on.
-- Assumes nothing.
use Prim.Native.Nat.{◌<◌}
use native.Mathlib.Omega.{arith}
use Rattle.refusals.specs.declared.Refusal.{Refusal}
use Rattle.refusals.specs.declared.Refusal.TheVariants.{UnknownTag, WrongLength, Cut, Setting, Case, Station, Kind, Component, Effect, Capacity, Taken, Empty, NoCapacities, ShortOutput, Straining}
use Rattle.refusals.specs.Numbers.{number}

pub number_some : (refusal : Refusal) → 0 < number refusal
number_some UnknownTag = omega arith
number_some WrongLength = omega arith
number_some Cut = omega arith
number_some Setting = omega arith
number_some Case = omega arith
number_some Station = omega arith
number_some Kind = omega arith
number_some Component = omega arith
number_some Effect = omega arith
number_some Capacity = omega arith
number_some Taken = omega arith
number_some Empty = omega arith
number_some NoCapacities = omega arith
number_some ShortOutput = omega arith
number_some Straining = omega arith
