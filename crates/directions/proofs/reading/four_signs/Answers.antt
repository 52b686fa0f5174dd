-- Sums and negations that fit.
use Prim.Native.Nat.{◌+◌, ◌<◌, ◌^◌}
use native.Mathlib.Omega.{arith}
use mathlib.Core.List.{[], ◌∷◌}
use mathlib.Core.Path.{◌≡◌, ◌∙◌}
use lib.IntN.{ℤ, pos, neg_ℤ, ◌+ℤ◌, ◌-ℤ◌, nat_abs}
use mir.Syntax.{w64}
use mir.Val.{to_z, of_z}
use Rattle.integers.proofs.Machine.{back, neg_back}
use Rattle.integers.proofs.Signs.{abs_add, abs_negated}
use Rattle.directions.proofs.reading.four_signs.Goals as goal

-- the sum of two numbers that the machine holds
added : (x y p q : ℤ) → to_z w64 (of_z w64 x) ≡ p → to_z w64 (of_z w64 y) ≡ q → nat_abs p + nat_abs q < 2 ^ 63 → to_z w64 (of_z w64 (to_z w64 (of_z w64 x) +ℤ to_z w64 (of_z w64 y))) ≡ p +ℤ q
added x y p q e f h = (λ i. to_z w64 (of_z w64 (e i +ℤ f i))) ∙ back (p +ℤ q) (omega (arith, abs_add p q))

pub returns : goal.returns
returns c =
    let a = c.args.a in
    let b = c.args.b in
    let z = c.args.c in
    let at_a = back a (omega arith) in
    let at_b = back b (omega arith) in
    let at_z = back z (omega arith) in
    let no_a = neg_back a (omega arith) in
    let no_b = neg_back b (omega arith) in
    let minus_a = pos 0 -ℤ to_z w64 (of_z w64 a) in
    let minus_b = pos 0 -ℤ to_z w64 (of_z w64 b) in
    let sum = to_z w64 (of_z w64 b) +ℤ to_z w64 (of_z w64 z) in
    let difference = to_z w64 (of_z w64 minus_b) +ℤ to_z w64 (of_z w64 z) in
    let over = added b z b z at_b at_z (omega arith) in
    let under = added minus_b z (neg_ℤ b) z no_b at_z (omega (arith, abs_negated b)) in
    λ i. added a sum a (b +ℤ z) at_a over (omega (arith, abs_add b z)) i
    ∷ added minus_a sum (neg_ℤ a) (b +ℤ z) no_a over (omega (arith, abs_add b z, abs_negated a)) i
    ∷ added a difference a (neg_ℤ b +ℤ z) at_a under (omega (arith, abs_add (neg_ℤ b) z, abs_negated b)) i
    ∷ added minus_a difference (neg_ℤ a) (neg_ℤ b +ℤ z) no_a under (omega (arith, abs_add (neg_ℤ b) z, abs_negated a, abs_negated b)) i
    ∷ []
