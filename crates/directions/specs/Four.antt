-- What `sums` holds of each kind, in the four directions of the weighed effects. Nothing here needs to be believed.
use Rattle.std.specs.Prelude.{ℕ, ◌-◌, ◌<◌, Bool, true, false, cond, List, [], ◌∷◌, ltb, ℤ, pos, ◌*ℤ◌, get_or}
use Rattle.envelope.specs.declared.Sign.{Sign}
use Rattle.envelope.specs.declared.Sign.TheVariants.{Plus, Minus}
use Rattle.envelope.specs.declared.Weights.{Weights}
use Rattle.envelope.specs.Directions.{signs_by}
use Rattle.sums.specs.Sums.{held_at, fluid_acts, SumsOf}

abbrev pub directions_of : ℤ → ℤ → ℤ → List ℤ
directions_of a b c = signs_by false false a b c ∷ signs_by true false a b c ∷ signs_by false true a b c ∷ signs_by true true a b c ∷ []

-- in direction d, of the three effects of case k
abbrev pub directed : Weights → (ℕ → ℕ → ℤ) → (d k : ℕ) → ℤ
directed w effect d k = get_or (directions_of (w.n *ℤ effect k 0) (w.y *ℤ effect k 1) (w.z *ℤ effect k 2)) d (pos 0)

-- what is held in the four directions
pub record FourOf (held : ℕ → ℕ → ℕ → ℕ) (totals : ℕ → ℕ → ℤ) (places : List ℕ) (effect : ℕ → ℕ → ℤ) (m : ℕ) : Type 0 where
  pub along : (d : ℕ) → d < 4 → SumsOf (held d) (totals d) places (effect d) m

-- the direction of a pattern of signs, and its sign there: pattern 7 - i is the opposite of pattern i
abbrev pub direction_of : ℕ → ℕ
direction_of i = cond (ltb i 4) i (7 - i)

abbrev pub sign_of : ℕ → Sign
sign_of i = cond (ltb i 4) Plus Minus

-- of any numbers by direction and kind, what is held in direction d
abbrev pub held_along : List (List (List ℕ)) → ℕ → (ℕ → ℕ → ℕ)
held_along numbers d = held_at (get_or numbers d [])

-- by pattern of signs, what the sums of its direction say
abbrev pub eight_by : {A : Type 0} → ((ℕ → ℕ → ℕ) → Sign → A) → (held : ℕ → ℕ → ℕ → ℕ) → ℕ → A
eight_by f held i = f (held (direction_of i)) (sign_of i)

-- whether the F cases act
abbrev pub fluid_in : (ℕ → ℕ → ℕ → ℕ) → ℕ → Bool
fluid_in = eight_by fluid_acts
