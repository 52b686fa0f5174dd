-- What the machine reads back of a signed number that is small enough is the number; so for sums, products and tests.
-- Assumes nothing.
use Prim.Native.Nat.{◌+◌, ◌*◌, ◌<◌, ◌^◌}
use native.Mathlib.Omega.{arith}
use mathlib.Core.Path.{◌≡◌}
use mathlib.Core.Bool.{Bool}
use lib.IntN.{ℤ, pos, neg_ℤ, ◌+ℤ◌, ◌-ℤ◌, ◌*ℤ◌, nat_abs, +ℤ_idl}
use lib.Signed.{mag, lt_z}
use mir.Syntax.{w64}
use mir.Val.{to_z, of_z, SFits}
use mir.ValLaws.{to_z-of_z}
use Rattle.integers.proofs.Signs.{abs_parts, abs_add, abs_mul, abs_negated, mag_le}

pub small : (z : ℤ) → nat_abs z < 2 ^ 63 → SFits w64 z
small z h = record { sfits = omega (arith, mag_le z, abs_parts z) }

pub back : (z : ℤ) → nat_abs z < 2 ^ 63 → to_z w64 (of_z w64 z) ≡ z
back z h = to_z-of_z w64 z (small z h)

pub sum_fits : (a b : ℤ) → nat_abs a + nat_abs b < 2 ^ 63 → SFits w64 (to_z w64 (of_z w64 a) +ℤ to_z w64 (of_z w64 b))
sum_fits a b h = rw (back a (omega arith), back b (omega arith)) (small (a +ℤ b) (omega (arith, abs_add a b)))

pub sum_back : (a b : ℤ) → nat_abs a + nat_abs b < 2 ^ 63 → to_z w64 (of_z w64 (to_z w64 (of_z w64 a) +ℤ to_z w64 (of_z w64 b))) ≡ a +ℤ b
sum_back a b h = rw (back a (omega arith), back b (omega arith)) (back (a +ℤ b) (omega (arith, abs_add a b)))

pub test_back : (a b : ℤ) (t : Bool) → nat_abs a < 2 ^ 63 → nat_abs b < 2 ^ 63 → lt_z (to_z w64 (of_z w64 a)) (to_z w64 (of_z w64 b)) ≡ t → lt_z a b ≡ t
test_back a b t h k e = rw (back a h, back b k) at e

-- `-x` is `0 - x` on the machine
pub neg_fits : (x : ℤ) → nat_abs x < 2 ^ 63 → SFits w64 (pos 0 -ℤ to_z w64 (of_z w64 x))
neg_fits x h = rw (back x h, +ℤ_idl (neg_ℤ x)) (small (neg_ℤ x) (omega (arith, abs_negated x)))

pub neg_back : (x : ℤ) → nat_abs x < 2 ^ 63 → to_z w64 (of_z w64 (pos 0 -ℤ to_z w64 (of_z w64 x))) ≡ neg_ℤ x
neg_back x h = rw (back x h, +ℤ_idl (neg_ℤ x)) (back (neg_ℤ x) (omega (arith, abs_negated x)))

-- acc + w * x, where w and x fit and the whole is small
module _ (a w x : ℤ) (fw : SFits w64 w) (fx : SFits w64 x) (h : nat_abs a + nat_abs w * nat_abs x < 2 ^ 63) where
  pub fit_mul : SFits w64 (to_z w64 (of_z w64 w) *ℤ to_z w64 (of_z w64 x))
  fit_mul = rw (to_z-of_z w64 w fw, to_z-of_z w64 x fx) (small (w *ℤ x) (omega (arith, abs_mul w x)))

  pub fit_add : SFits w64 (to_z w64 (of_z w64 a) +ℤ to_z w64 (of_z w64 (to_z w64 (of_z w64 w) *ℤ to_z w64 (of_z w64 x))))
  fit_add = rw (to_z-of_z w64 w fw, to_z-of_z w64 x fx) (sum_fits a (w *ℤ x) (omega (arith, abs_mul w x)))

  pub fit_back : to_z w64 (of_z w64 (to_z w64 (of_z w64 a) +ℤ to_z w64 (of_z w64 (to_z w64 (of_z w64 w) *ℤ to_z w64 (of_z w64 x))))) ≡ a +ℤ w *ℤ x
  fit_back = rw (to_z-of_z w64 w fw, to_z-of_z w64 x fx) (sum_back a (w *ℤ x) (omega (arith, abs_mul w x)))

-- a number that a call gave, or that a field holds, is what the machine reads back of it
pub read : (z : ℤ) → mag z < 2 ^ 63 → to_z w64 (of_z w64 z) ≡ z
read z h = to_z-of_z w64 z (record { sfits = h })

pub read_test : (a b : ℤ) (t : Bool) → mag a < 2 ^ 63 → mag b < 2 ^ 63 → lt_z (to_z w64 (of_z w64 a)) (to_z w64 (of_z w64 b)) ≡ t → lt_z a b ≡ t
read_test a b t h k e = rw (read a h, read b k) at e

pub read_room : (a w x : ℤ) → mag a < 2 ^ 63 → mag w < 2 ^ 63 → mag x < 2 ^ 63 → nat_abs a + nat_abs w * nat_abs x < 2 ^ 63 →
    nat_abs (to_z w64 (of_z w64 a)) + nat_abs (to_z w64 (of_z w64 w)) * nat_abs (to_z w64 (of_z w64 x)) < 2 ^ 63
read_room a w x h k l r = rw (read a h, read w k, read x l) r

pub read_scaled : (r a w x : ℤ) → mag a < 2 ^ 63 → mag w < 2 ^ 63 → mag x < 2 ^ 63 →
    r ≡ to_z w64 (of_z w64 a) +ℤ to_z w64 (of_z w64 w) *ℤ to_z w64 (of_z w64 x) → r ≡ a +ℤ w *ℤ x
read_scaled r a w x h k l e = rw (read a h, read w k, read x l) at e
