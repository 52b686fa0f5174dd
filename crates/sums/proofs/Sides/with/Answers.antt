-- The numbers read back are the sides and the effect, so each arm is one of the definition.
use Prim.Native.Nat.{◌+◌, ◌<◌, ◌^◌}
use native.Mathlib.Omega.{arith}
use mathlib.Core.Path.{◌≡◌, ap, ◌∙◌}
use lib.IntN.{ℤ, pos, neg_ℤ, ◌+ℤ◌, nat_abs}
use Rattle.std.specs.Int.{int_max, int_min}
use Rattle.integers.specs.Sums.{up, down}
use Rattle.integers.proofs.Machine.{back, read, sum_back}
use Rattle.integers.proofs.Signs.{abs_parts, abs_negated}
use Rattle.sums.specs.declared.Sides.{Sides}
use Rattle.sums.proofs.Held.{greatest, least, compared_sides, added_sides}
use Rattle.sums.proofs.Sides.with.Goals as goal

pub returns-then-compared : goal.returns-then-compared
returns-then-compared c =
    let a = c.args in
    let r = c.requires.range in
    let x = back a.x (omega (arith, c.requires.above)) in
    compared_sides a.self a.x _ _ r a.compared c.if-compared.true
    (read c.max.result c.max.type_inv ∙ c.max.ensures.value ∙ (λ i. int_max (back a.self.above r.above_fits i) (x i)) ∙ greatest a.self.above a.x r.above)
    (read c.min.result c.min.type_inv ∙ c.min.ensures.value ∙ (λ i. int_min (back a.self.below r.below_fits i) (x i)) ∙ least a.self.below a.x r.below)

pub returns : goal.returns
returns c =
    let a = c.args in
    let x = back a.x (omega (arith, c.requires.above)) in
    let above : c.of-case.result.above ≡ pos (up a.x) = ap (λ (s : Sides). s.above) c.of-case.ensures ∙ ap (λ (y : ℤ). pos (up y)) x in
    let below : c.of-case.result.below ≡ neg_ℤ (pos (down a.x)) = ap (λ (s : Sides). s.below) c.of-case.ensures ∙ ap (λ (y : ℤ). neg_ℤ (pos (down y))) x in
    let above_fits : nat_abs a.self.above + nat_abs c.of-case.result.above < 2 ^ 63 = rw above (omega (arith, c.requires.above, abs_parts a.x)) in
    let below_fits : nat_abs a.self.below + nat_abs c.of-case.result.below < 2 ^ 63 = rw below (omega (arith, c.requires.below, abs_parts a.x, abs_negated (pos (down a.x)))) in
    added_sides a.self a.x _ _ c.requires.range a.compared c.if-compared.false
    (sum_back a.self.above c.of-case.result.above above_fits ∙ ap (λ (y : ℤ). a.self.above +ℤ y) above)
    (sum_back a.self.below c.of-case.result.below below_fits ∙ ap (λ (y : ℤ). a.self.below +ℤ y) below)
