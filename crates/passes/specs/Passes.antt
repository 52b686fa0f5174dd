-- SCOPE 4.7: what one pass over a station's cases serves.
use Rattle.std.specs.Prelude.{ℕ, ◌<◌, List, ◌≡◌, ℤ, neg_ℤ}
use Rattle.standard.specs.declared.Settings.{Settings}
use Rattle.standard.specs.declared.Capacities.{Capacities}
use Rattle.standard.specs.Kinds.{kind_count, fluid}
use Rattle.optimum.specs.Row.{acts_together}
use Rattle.envelope.specs.declared.Sign.{Sign}
use Rattle.envelope.specs.declared.Sign.TheVariants.{Plus, Minus}
use Rattle.envelope.specs.Envelope.{governing_of, weighed, pattern_of}
use Rattle.envelope.specs.Places.{Places}
use Rattle.sums.specs.Sums.{TotalsOf, AllTotalsOf, fluid_acts}
use Rattle.governing.specs.Ways.{toward_of, Ready, ReadyBetween}

-- what is read off sums holds of the effects, and with the sign minus of the effects with their signs turned
pub record BothWays {A : Type 0} (reads : (ℕ → ℕ → ℕ) → Sign → A) (holds : (ℕ → ℤ) → A) (held : ℕ → ℕ → ℕ) (e : ℕ → ℤ) : Type 0 where
  pub as_is : reads held Plus ≡ holds e
  pub turned : reads held Minus ≡ holds (λ k. neg_ℤ (e k))

-- One pass serves both extremes. In any settings its sums give the row and the number that govern the effects, and those that govern the
-- effects with their signs turned: the maximum, and the minimum with its sign turned. They tell whether the F cases act, both ways.
pub record ServesBoth (held : ℕ → ℕ → ℕ) (kind : ℕ → ℕ) (e : ℕ → ℤ) : Type 0 where
  pub ready : Ready held
  pub governs : (s : Settings) → BothWays (toward_of s) (governing_of s kind) held e
  pub tells_fluid : BothWays fluid_acts (λ x. acts_together kind x fluid) held e

-- One pass in four directions serves the eight patterns of signs: each direction is a pattern and, with its sign turned, the opposite one.
pub record ServesPatterns (held : ℕ → ℕ → ℕ → ℕ) (kind : ℕ → ℕ) (effect : ℕ → ℕ → ℤ) (p : Capacities) : Type 0 where
  pub along : (d : ℕ) → d < 4 → ServesBoth (held d) kind (weighed (pattern_of p d) effect)

-- Either of a pass that is given the totals of D and F and the cases as sets: for whatever kinds of the cases the sets are, and the totals
-- are those.
pub record ComponentPass (held : ℕ → ℕ → ℕ) (totals : ℕ → ℤ) (places : List ℕ) (e : ℕ → ℤ) : Type 0 where
  pub serves : (kind : ℕ → ℕ) → ((k : ℕ) → kind k < kind_count) → Places places kind → TotalsOf totals kind e → ServesBoth held kind e

pub record PatternPass (held : ℕ → ℕ → ℕ → ℕ) (totals : ℕ → ℕ → ℤ) (places : List ℕ) (effect : ℕ → ℕ → ℤ) (p : Capacities) : Type 0 where
  pub serves : (kind : ℕ → ℕ) → ((k : ℕ) → kind k < kind_count) → Places places kind → AllTotalsOf totals kind effect → ServesPatterns held kind effect p

-- Of either, for the same kinds and totals: what is held is in range, and so are the terms of any two sides.
pub record ComponentReady (held : ℕ → ℕ → ℕ) (totals : ℕ → ℤ) (places : List ℕ) (e : ℕ → ℤ) : Type 0 where
  pub ready : (kind : ℕ → ℕ) → ((k : ℕ) → kind k < kind_count) → Places places kind → TotalsOf totals kind e → ReadyBetween held

pub record PatternsReady (held : ℕ → ℕ → ℕ → ℕ) (totals : ℕ → ℕ → ℤ) (places : List ℕ) (effect : ℕ → ℕ → ℤ) : Type 0 where
  pub along : (kind : ℕ → ℕ) → ((k : ℕ) → kind k < kind_count) → Places places kind → AllTotalsOf totals kind effect → (d : ℕ) → d < 4 → ReadyBetween (held d)
