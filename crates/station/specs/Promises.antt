-- SCOPE 4.6 and 4.7: what a look at a station promises, in the standard's words, beside the equation to `Envelope`: the combinations that
-- its answer names are those of the rows and sets in it, and its numbers are those of one pass over the cases.
use Rattle.std.specs.Prelude.{ℕ, ◌<◌, ◌≡◌, ℤ, neg_ℤ, nat_abs}
use Rattle.standard.specs.declared.Settings.{Settings}
use Rattle.standard.specs.declared.Capacities.{Capacities}
use Rattle.standard.specs.Combination.{named}
use Rattle.standard.specs.Governing.{Maximum, Minimum, Utilisation}
use Rattle.envelope.specs.declared.Extremes.{Extremes}
use Rattle.envelope.specs.declared.Sign.TheVariants.{Plus, Minus}
use Rattle.envelope.specs.declared.Utilised.{Utilised}
use Rattle.envelope.specs.Envelope.{peak_of}
use Rattle.governing.specs.Ways.{ReadyBetween, toward_of, eight_of}
use Rattle.passes.specs.Passes.{ServesBoth, ServesPatterns}

pub record ExtremesGovern (s : Settings) (kind : ℕ → ℕ) (effect : ℕ → ℤ) (x : Extremes) : Type 0 where
  pub maximum : Maximum s kind effect (named x.maximum.row x.maximum.acting x.maximum.low) x.maximum.value
  pub minimum : Minimum s kind effect (named x.minimum.row x.minimum.acting x.minimum.low) x.minimum.value

pub record UtilisationGoverns (s : Settings) (kind : ℕ → ℕ) (effect : ℕ → ℕ → ℤ) (p : Capacities) (x : Utilised) : Type 0 where
  pub greatest : Utilisation s kind effect p (named x.row x.acting x.low) x.numerator x.denominator x.pass

-- both numbers are read off the same sums, which serve both extremes and are in range on any two sides (SCOPE 4.7)
pub record ExtremesFromPass (s : Settings) (kind : ℕ → ℕ) (effect : ℕ → ℤ) (x : Extremes) : Type 0 where
  pub held : ℕ → ℕ → ℕ
  pub serve : ServesBoth held kind effect
  pub ready : ReadyBetween held
  pub maximum : x.maximum.value ≡ (toward_of s held Plus).value
  pub minimum : x.minimum.value ≡ neg_ℤ (toward_of s held Minus).value

-- the number is read off the sums of four directions, which serve the eight patterns of signs and are in range likewise (SCOPE 4.7)
pub record UtilisationFromPass (s : Settings) (kind : ℕ → ℕ) (effect : ℕ → ℕ → ℤ) (p : Capacities) (x : Utilised) : Type 0 where
  pub held : ℕ → ℕ → ℕ → ℕ
  pub serve : ServesPatterns held kind effect p
  pub ready : (d : ℕ) → d < 4 → ReadyBetween (held d)
  pub numerator : x.numerator ≡ nat_abs (peak_of (eight_of s held) 7).best.value
