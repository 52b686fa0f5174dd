-- A term at a factor: there is room for it, and it grows the total by no more than the greatest factor.
-- Assumes nothing.
use Prim.Native.Nat.{ℕ, ◌+◌, ◌*◌, ◌<◌, ◌≤◌, ◌^◌}
use native.Mathlib.Nat.{mul-le-mul_right}
use native.Mathlib.Omega.{arith}
use mathlib.Core.Path.{◌≡◌, refl, ap, ◌∙◌}
use lib.IntN.{ℤ, pos, ◌+ℤ◌, ◌*ℤ◌, nat_abs}
use lib.Signed.{mag}
use mir.Syntax.{w64}
use mir.Val.{to_z, of_z, SFits}
use Rattle.integers.proofs.Machine.{back, read, fit_mul, fit_add, fit_back}
use Rattle.integers.proofs.Signs.{abs_add, abs_mul}
use Rattle.terms.specs.Value.{factor_most, Gained}

-- w is the factor f, which is small
module _ (total w x : ℤ) (f : ℕ) (is : w ≡ pos f) (limit : f ≤ factor_most) (fw : SFits w64 w) (fx : SFits w64 x)
    (h : nat_abs total + factor_most * nat_abs x < 2 ^ 63) where
  fits : nat_abs total + nat_abs w * nat_abs x < 2 ^ 63
  fits = omega (arith, ap (λ (z : ℤ). nat_abs z * nat_abs x) is, mul-le-mul_right (nat_abs x) limit)

  pub mul_fits : SFits w64 (to_z w64 (of_z w64 w) *ℤ to_z w64 (of_z w64 x))
  mul_fits = fit_mul total w x fw fx fits

  pub add_fits : SFits w64 (to_z w64 (of_z w64 total) +ℤ to_z w64 (of_z w64 (to_z w64 (of_z w64 w) *ℤ to_z w64 (of_z w64 x))))
  add_fits = fit_add total w x fw fx fits

  pub gained : Gained (to_z w64 (of_z w64 (to_z w64 (of_z w64 total) +ℤ to_z w64 (of_z w64 (to_z w64 (of_z w64 w) *ℤ to_z w64 (of_z w64 x)))))) total f x
  gained =
      let q = fit_back total w x fw fx fits ∙ ap (λ (z : ℤ). total +ℤ z *ℤ x) is in
      record {
        is = q;
        small = omega (arith, ap nat_abs q, abs_add total (pos f *ℤ x), abs_mul (pos f) x, mul-le-mul_right (nat_abs x) limit);
      }

-- what the machine reads back of a total and a term
module _ (a x : ℤ) (ha : nat_abs a < 2 ^ 63) (hx : nat_abs x < 2 ^ 63) where
  pub room_read : nat_abs a + factor_most * nat_abs x < 2 ^ 63 → nat_abs (to_z w64 (of_z w64 a)) + factor_most * nat_abs (to_z w64 (of_z w64 x)) < 2 ^ 63
  room_read h = rw (back a ha, back x hx) h

  pub gained_read : {r : ℤ} {f : ℕ} → Gained r (to_z w64 (of_z w64 a)) f (to_z w64 (of_z w64 x)) → Gained r a f x
  gained_read g = rw (back a ha, back x hx) at g

-- ---- a total so far: what it is, and its size
pub record Total (r : ℤ) (size : ℕ) (z : ℤ) : Type 0 where
  pub is : r ≡ z
  pub small : nat_abs r ≤ size

pub nothing : Total (pos 0) 0 (pos 0)
nothing = record { is = refl; small = omega arith }

-- there is room for a term, and it joins
module _ {total z : ℤ} {size : ℕ} (t : Total total size z) (x : ℤ) (h : size + factor_most * nat_abs x < 2 ^ 63) where
  pub room : nat_abs (to_z w64 (of_z w64 total)) + factor_most * nat_abs (to_z w64 (of_z w64 x)) < 2 ^ 63
  room = room_read total x (omega (arith, t.small)) (omega arith) (omega (arith, t.small))

  pub joined : {r : ℤ} {f : ℕ} → Gained r (to_z w64 (of_z w64 total)) f (to_z w64 (of_z w64 x)) →
      Total r (size + factor_most * nat_abs x) (z +ℤ pos f *ℤ x)
  joined {f = f} g =
      let q = gained_read total x (omega (arith, t.small)) (omega arith) g in
      record { is = q.is ∙ ap (λ (y : ℤ). y +ℤ pos f *ℤ x) t.is; small = omega (arith, q.small, t.small) }

-- what the machine reads back of a total
pub told : {r z : ℤ} {size : ℕ} → mag r < 2 ^ 63 → Total r size z → Total (to_z w64 (of_z w64 r)) size z
told {r = r} {z = z} {size = size} h t = rw (read r h) t
