-- The rows that govern by the sums: the effects with a sign, and the eight patterns of signs.
use Rattle.std.specs.Prelude.{ℕ, ◌<◌, ◌≤◌}
use Rattle.standard.specs.declared.Settings.{Settings}
use Rattle.standard.specs.Kinds.{kind_count}
use Rattle.sums.specs.Sums.{sum_most}
use Rattle.directions.specs.Four.{eight_by}
use Rattle.terms.specs.Value.{terms_between, terms_of, TermsInRange, value_of}
use Rattle.envelope.specs.declared.Best.{Best}
use Rattle.envelope.specs.declared.Sign.{Sign}
use Rattle.envelope.specs.Envelope.{best_of}
use Rattle.envelope.specs.Signs.{over, under}

-- from what is held of each kind on a side: of any two sides
abbrev pub toward_between : Settings → (ℕ → ℕ → ℕ) → (above below : ℕ) → Best
toward_between s held above below = best_of s (λ row. value_of s row (terms_between held above below))

-- of the effects with a sign
abbrev pub toward_of : Settings → (ℕ → ℕ → ℕ) → Sign → Best
toward_of s held sign = toward_between s held (over sign) (under sign)

-- what is held is in range, and so are the terms, with both signs
pub record Ready (held : ℕ → ℕ → ℕ) : Type 0 where
  pub held_range : (j t : ℕ) → 0 < j → j < kind_count → t < 2 → held j t ≤ sum_most
  pub terms_range : (sign : Sign) → TermsInRange (terms_of held sign)

-- the same, with the terms of any two sides
pub record ReadyBetween (held : ℕ → ℕ → ℕ) : Type 0 where
  pub held_range : (j t : ℕ) → 0 < j → j < kind_count → t < 2 → held j t ≤ sum_most
  pub terms_range : (above below : ℕ) → above < 2 → below < 2 → TermsInRange (terms_between held above below)

-- the row that governs a pattern of signs, from what is held in the four directions
abbrev pub eight_of : Settings → (held : ℕ → ℕ → ℕ → ℕ) → ℕ → Best
eight_of s = eight_by (toward_of s)
