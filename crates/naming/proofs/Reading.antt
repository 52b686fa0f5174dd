-- What the machine reads back: the sign of a number, an effect that is widened, the products of weights and effects, and their sums.
-- Assumes nothing.
use Prim.Native.Nat.{ℕ, suc, ◌+◌, ◌*◌, ◌<◌, ◌≤◌, ◌^◌}
use native.Mathlib.Nat.{mul-le-mul}
use native.Mathlib.Omega.{arith}
use mathlib.Core.List.{List}
use mathlib.Core.Path.{◌≡◌, sym, ap, ◌∙◌, subst}
use borrow.Author.Tests.{lt-ltb}
use lib.Dec.{ltb, leb-suc-zero}
use lib.IntN.{ℤ, pos, negsuc, ◌+ℤ◌, ◌*ℤ◌, nat_abs}
use lib.ListN.{get_or}
use lib.Signed.{lt_z, mag}
use mir.Syntax.{w16, w64}
use mir.Val.{to_z, of_z, SFits}
use mir.ValLaws.{to_z-of_z}
use Rattle.integers.specs.Sums.{up, down}
use Rattle.integers.proofs.Machine.{small, back, read}
use Rattle.integers.proofs.Signs.{abs_add, abs_mul, abs_parts, mag_le}
use Rattle.envelope.specs.declared.Weights.{Weights}
use Rattle.envelope.specs.Range.{effect_of, effect_limit, weight_most, EffectsInRange, WeightsInRange}
use Rattle.naming.proofs.Marks.{part_above}

below : (x : ℤ) → lt_z x (pos 0) ≡ ltb 0 (down x)
below (pos n) = leb-suc-zero n
below (negsuc n) = sym (lt-ltb 0 (suc n) (omega arith))

-- the sign of a number that the machine reads back
module _ (x : ℤ) (fits : SFits w64 x) where
  pub positive : lt_z (pos 0) (to_z w64 (of_z w64 x)) ≡ ltb 0 (up x)
  positive = ap (λ (z : ℤ). lt_z (pos 0) z) (to_z-of_z w64 x fits) ∙ part_above 0 x

  pub negative : lt_z (to_z w64 (of_z w64 x)) (pos 0) ≡ ltb 0 (down x)
  negative = ap (λ (z : ℤ). lt_z z (pos 0)) (to_z-of_z w64 x fits) ∙ below x

-- what is widened of an effect is the effect, and is what the machine reads back
pub widened : (z r : ℤ) → mag z < 2 ^ 15 → mag r < 2 ^ 63 → r ≡ to_z w16 (of_z w16 z) → to_z w64 (of_z w64 r) ≡ z
widened z r h k e = read r k ∙ e ∙ to_z-of_z w16 z (record { sfits = h })

-- the same of an effect in a list in range
pub effect_widened : (effects : List ℤ) → EffectsInRange effects → (i : ℕ) (r : ℤ) → mag r < 2 ^ 63 → r ≡ to_z w16 (of_z w16 (get_or effects i (pos 0))) →
    to_z w64 (of_z w64 r) ≡ get_or effects i (pos 0)
effect_widened effects range i r k e =
    let z : ℤ = get_or effects i (pos 0) in
    widened z r (omega (arith, mag_le z, abs_parts z, range.range i)) k e

-- so is a weight
pub weight_back : (v : ℤ) → nat_abs v ≤ weight_most → to_z w64 (of_z w64 v) ≡ v
weight_back v h = back v (omega arith)

abbrev pub kept : ℤ → ℤ
kept z = to_z w64 (of_z w64 z)

module _ (v x : ℤ) (h : nat_abs v ≤ weight_most) (l : nat_abs x ≤ effect_limit) where
  pub product_small : nat_abs (v *ℤ x) ≤ weight_most * effect_limit
  product_small = omega (arith, abs_mul v x, mul-le-mul h l)

  same : kept v *ℤ kept x ≡ v *ℤ x
  same = λ i. back v (omega arith) i *ℤ back x (omega arith) i

  pub product_fits : SFits w64 (kept v *ℤ kept x)
  product_fits = subst (SFits w64) (sym same) (small (v *ℤ x) (omega (arith, product_small)))

  pub product_is : kept (kept v *ℤ kept x) ≡ v *ℤ x
  product_is = ap kept same ∙ back (v *ℤ x) (omega (arith, product_small))

-- the weighed effects of a case are small
module _ (effects : List ℤ) (k : ℕ) (range : EffectsInRange effects) where
  pub one_small : (v : ℤ) (j : ℕ) → nat_abs v ≤ weight_most → nat_abs (v *ℤ effect_of effects k j) ≤ weight_most * 10000
  one_small v j h = product_small v (effect_of effects k j) h (range.range (k * 3 + j))

  pub two_small : (v w : ℤ) (i j : ℕ) → nat_abs v ≤ weight_most → nat_abs w ≤ weight_most →
      nat_abs (v *ℤ effect_of effects k i +ℤ w *ℤ effect_of effects k j) ≤ 2 * (weight_most * 10000)
  two_small v w i j h l =
      omega (arith, abs_add (v *ℤ effect_of effects k i) (w *ℤ effect_of effects k j), one_small v i h, one_small w j l)

module _ (s t a b : ℤ) (is : s ≡ a) (same : t ≡ b) (h : nat_abs a + nat_abs b < 2 ^ 63) where
  pub sum_fits : SFits w64 (s +ℤ t)
  sum_fits = subst (SFits w64) (λ i. sym is i +ℤ sym same i) (small (a +ℤ b) (omega (arith, abs_add a b)))

  pub sum_is : kept (s +ℤ t) ≡ a +ℤ b
  sum_is = (λ i. kept (is i +ℤ same i)) ∙ back (a +ℤ b) (omega (arith, abs_add a b))

-- the effects of a case, weighed
module _ (w : Weights) (range : WeightsInRange w) (a b c : ℤ) (la : nat_abs a ≤ effect_limit) (lb : nat_abs b ≤ effect_limit) (lc : nat_abs c ≤ effect_limit) where
  room : nat_abs (w.n *ℤ a) + nat_abs (w.y *ℤ b) < 2 ^ 62
  room = omega (arith, product_small w.n a range.n la, product_small w.y b range.y lb)

  pub two_fit : SFits w64 (kept (kept w.n *ℤ kept a) +ℤ kept (kept w.y *ℤ kept b))
  two_fit = sum_fits _ _ (w.n *ℤ a) (w.y *ℤ b) (product_is w.n a range.n la) (product_is w.y b range.y lb) (omega (arith, room))

  two_are : kept (kept (kept w.n *ℤ kept a) +ℤ kept (kept w.y *ℤ kept b)) ≡ w.n *ℤ a +ℤ w.y *ℤ b
  two_are = sum_is _ _ (w.n *ℤ a) (w.y *ℤ b) (product_is w.n a range.n la) (product_is w.y b range.y lb) (omega (arith, room))

  more_room : nat_abs (w.n *ℤ a +ℤ w.y *ℤ b) + nat_abs (w.z *ℤ c) < 2 ^ 63
  more_room = omega (arith, room, abs_add (w.n *ℤ a) (w.y *ℤ b), product_small w.z c range.z lc)

  pub three_fit : SFits w64 (kept (kept (kept w.n *ℤ kept a) +ℤ kept (kept w.y *ℤ kept b)) +ℤ kept (kept w.z *ℤ kept c))
  three_fit = sum_fits _ _ (w.n *ℤ a +ℤ w.y *ℤ b) (w.z *ℤ c) two_are (product_is w.z c range.z lc) more_room

  pub three_are : kept (kept (kept (kept w.n *ℤ kept a) +ℤ kept (kept w.y *ℤ kept b)) +ℤ kept (kept w.z *ℤ kept c)) ≡ w.n *ℤ a +ℤ w.y *ℤ b +ℤ w.z *ℤ c
  three_are = sum_is _ _ (w.n *ℤ a +ℤ w.y *ℤ b) (w.z *ℤ c) two_are (product_is w.z c range.z lc) more_room
