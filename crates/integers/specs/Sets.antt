-- Sets of numbers as numbers: k is in a set where bit k is set, bit 0 the lowest.
use Rattle.std.specs.Prelude.{ℕ, ◌+◌, ◌/◌, ◌%◌, ◌^◌, ◌<◌, Bool, true, false, ◌&&◌, Option, Some, None, ◌≡◌, eqb, leb}

-- whether k is in a set
abbrev pub has : ℕ → ℕ → Bool
has set k = eqb (set / 2 ^ k % 2) 1

-- t is in the set, and nothing below it is
pub record Lowest (set t : ℕ) : Type 0 where
  pub member : has set t ≡ true
  pub first : (k : ℕ) → k < t → has set k ≡ false

-- the lowest member comes, and the others are left; from the empty set none comes
abbrev pub TakesLowest : (set : ℕ) → Option ℕ → (rest : ℕ) → Type 0
TakesLowest set None rest = (set ≡ 0) × (rest ≡ 0)
TakesLowest set (Some k) rest = Lowest set k × (rest + 2 ^ k ≡ set)

-- the members from i on
abbrev pub onwards : (ℕ → Bool) → ℕ → ℕ → Bool
onwards p i k = leb i k && p k
