-- The sums of several directions, one beside the other.
use Rattle.std.specs.Prelude.{ℕ, zero, suc, List, [], ◌∷◌}
use Rattle.sums.specs.declared.by_kind.Sums.{Sums}
use Rattle.sums.specs.Sums.{held_at}

-- what is held in direction d
abbrev pub held_in : List Sums → ℕ → (ℕ → ℕ → ℕ)
held_in [] d = λ _ _. 0
held_in (s ∷ ss) zero = held_at s.by_kind
held_in (s ∷ ss) (suc d) = held_in ss d
