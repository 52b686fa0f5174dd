-- The sizes of the directions.
-- Assumes nothing.
use Prim.Native.Nat.{ℕ, zero, suc, ◌+◌, ◌*◌, ◌-◌, ◌<◌, ◌≤◌}
use native.Mathlib.Nat.{mul-le-mul}
use native.Mathlib.Omega.{arith}
use mathlib.Core.Bool.{Bool, true, false, cond}
use mathlib.Core.Path.{◌≡◌, refl}
use lib.IntN.{ℤ, ◌+ℤ◌, ◌*ℤ◌, nat_abs}
use Rattle.integers.proofs.Signs.{abs_add, abs_mul, abs_negated}
use Rattle.integers.proofs.Sums.{ltb_cases}
use Rattle.envelope.specs.declared.Weights.{Weights}
use Rattle.envelope.specs.Range.{effect_limit, effect_most, weight_most, WeightsInRange}
use Rattle.envelope.specs.Directions.{turned, signs_by}
use Rattle.directions.specs.Four.{directed, direction_of}

turned_size : (t : Bool) (x : ℤ) → nat_abs (turned t x) ≡ nat_abs x
turned_size true x = abs_negated x
turned_size false x = refl

signs_most : (p q : Bool) (a b c : ℤ) → nat_abs (signs_by p q a b c) ≤ nat_abs a + (nat_abs b + nat_abs c)
signs_most p q a b c = omega (arith, abs_add (turned p a) (turned q b +ℤ c), abs_add (turned q b) c, turned_size p a, turned_size q b)

-- numbers up to m at weights in range
module _ (w : Weights) (r : WeightsInRange w) (effect : ℕ → ℕ → ℤ) (m k : ℕ) (small : (c : ℕ) → nat_abs (effect k c) ≤ m) where
  way_most : (p q : Bool) → nat_abs (signs_by p q (w.n *ℤ effect k 0) (w.y *ℤ effect k 1) (w.z *ℤ effect k 2)) ≤ 3 * (weight_most * m)
  way_most p q =
      omega (
        arith,
        signs_most p q (w.n *ℤ effect k 0) (w.y *ℤ effect k 1) (w.z *ℤ effect k 2),
        abs_mul w.n (effect k 0),
        abs_mul w.y (effect k 1),
        abs_mul w.z (effect k 2),
        mul-le-mul r.n (small 0),
        mul-le-mul r.y (small 1),
        mul-le-mul r.z (small 2),
      )

  pub directed_size : (d : ℕ) → nat_abs (directed w effect d k) ≤ 3 * (weight_most * m)
  directed_size zero = way_most false false
  directed_size (suc zero) = way_most true false
  directed_size (suc (suc zero)) = way_most false true
  directed_size (suc (suc (suc zero))) = way_most true true
  directed_size (suc (suc (suc (suc d)))) = omega arith

pub directed_most : (w : Weights) → WeightsInRange w → (effect : ℕ → ℕ → ℤ) → ((k c : ℕ) → nat_abs (effect k c) ≤ effect_limit) → (d k : ℕ) → nat_abs (directed w effect d k) ≤ effect_most
directed_most w r effect small d k = omega (arith, directed_size w r effect effect_limit k (small k) d)

-- eight patterns have four directions
pub below_four : (i : ℕ) → i < 8 → direction_of i < 4
below_four i l = ltb_cases i 4 (λ t. cond t i (7 - i) < 4) (λ m. m) (λ m. omega arith)
