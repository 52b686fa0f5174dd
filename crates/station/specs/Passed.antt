-- SCOPE 4.6 and 4.7: an extreme of a component from the sums of one pass over the cases. Nothing here needs to be believed.
use Rattle.std.specs.Prelude.{ℕ, ◌<◌, List, ◌≡◌, ℤ}
use Rattle.standard.specs.declared.Settings.{Settings}
use Rattle.standard.specs.Kinds.{kind_count}
use Rattle.envelope.specs.declared.Extreme.{Extreme}
use Rattle.envelope.specs.declared.Sign.{Sign}
use Rattle.envelope.specs.Envelope.{extreme_of}
use Rattle.envelope.specs.Places.{Places}
use Rattle.envelope.specs.Signs.{signed}
use Rattle.governing.specs.Ways.{toward_of}
use Rattle.passes.specs.Passes.{ServesBoth}

-- the sets of the cases, each of one kind, and sums that serve both extremes of their effects
pub record Passed (places : List ℕ) (held : ℕ → ℕ → ℕ) (e : ℕ → ℤ) : Type 0 where
  pub kind : ℕ → ℕ
  pub below : (k : ℕ) → kind k < kind_count
  pub are : Places places kind
  pub serve : ServesBoth held kind e

-- the number is read off the sums, and it is the greatest of the effects with the sign, whatever the kinds are
pub record Greatest (x : Extreme) (s : Settings) (places : List ℕ) (held : ℕ → ℕ → ℕ) (e : ℕ → ℤ) (sign : Sign) : Type 0 where
  pub read : x.value ≡ (toward_of s held sign).value
  pub is : (q : Passed places held e) → x ≡ extreme_of s q.kind (λ k. signed sign (e k))
