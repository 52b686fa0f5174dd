-- The load cases of each kind as sets: bit k of a set is case k.
use Rattle.std.specs.Prelude.{ℕ, ◌<◌, ◌^◌, List, ◌≡◌, eqb, length, get_or}
use Rattle.integers.specs.Sums.{mask_of}
use Rattle.standard.specs.Kinds.{kind_count}
use Rattle.standard.specs.Combination.{case_count}

-- by kind, the cases of that kind; an empty place is in none of them
pub record Places (places : List ℕ) (kind : ℕ → ℕ) : Type 0 where
  pub long : length places ≡ kind_count
  pub each : (j : ℕ) → 0 < j → j < kind_count → get_or places j 0 ≡ mask_of case_count (λ k. eqb (kind k) j)

pub record PlacesInRange (places : List ℕ) : Type 0 where
  pub long : length places ≡ kind_count
  pub each : (j : ℕ) → 0 < j → j < kind_count → get_or places j 0 < 2 ^ case_count

-- the sets of some cases, each of one kind
pub record Placed (places : List ℕ) : Type 0 where
  pub kind : ℕ → ℕ
  pub below : (k : ℕ) → kind k < kind_count
  pub are : Places places kind
