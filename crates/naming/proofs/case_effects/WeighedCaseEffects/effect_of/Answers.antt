-- The products and their sums fit.
use Rattle.std.proofs.Common.{◌≡◌, ◌*◌, ◌+◌, ◌≤◌, ℕ, List, ℤ, ◌*ℤ◌, ◌+ℤ◌, nat_abs, sym, ◌∙◌, subst}
use Rattle.envelope.specs.Range.{effect_limit, effect_most, effect_of, EffectsInRange}
use Rattle.envelope.proofs.Limits.{weighed_most}
use Rattle.naming.proofs.Reading.{product_fits, two_fit, three_fit, three_are}
use Rattle.naming.proofs.case_effects.WeighedCaseEffects.effect_of.Goals as goal

-- an effect that a call gave
limited : {effects : List ℤ} (k j : ℕ) {x : ℤ} → EffectsInRange effects → x ≡ effect_of effects k j → nat_abs x ≤ effect_limit
limited k j range e = rw e (range.range (k * 3 + j))

pub overflow_mul-result : goal.overflow_mul-result
overflow_mul-result c = product_fits c.args.self.weights.n c.on-n.result c.args.self.in_range.n (limited c.args.case 0 c.args.self.effects.in_range c.on-n.ensures)

pub overflow_mul-result-2 : goal.overflow_mul-result-2
overflow_mul-result-2 c = product_fits c.args.self.weights.y c.on-y.result c.args.self.in_range.y (limited c.args.case 1 c.args.self.effects.in_range c.on-y.ensures)

pub overflow_mul-result-3 : goal.overflow_mul-result-3
overflow_mul-result-3 c = product_fits c.args.self.weights.z c.on-z.result c.args.self.in_range.z (limited c.args.case 2 c.args.self.effects.in_range c.on-z.ensures)

pub overflow_add-result : goal.overflow_add-result
overflow_add-result c =
    let range = c.args.self.effects.in_range in
    two_fit c.args.self.weights c.args.self.in_range c.on-n.result c.on-y.result c.on-z.result (limited c.args.case 0 range c.on-n.ensures)
    (limited c.args.case 1 range c.on-y.ensures) (limited c.args.case 2 range c.on-z.ensures)

pub overflow_add-result-2 : goal.overflow_add-result-2
overflow_add-result-2 c =
    let range = c.args.self.effects.in_range in
    three_fit c.args.self.weights c.args.self.in_range c.on-n.result c.on-y.result c.on-z.result (limited c.args.case 0 range c.on-n.ensures)
    (limited c.args.case 1 range c.on-y.ensures) (limited c.args.case 2 range c.on-z.ensures)

pub returns-clause-value : goal.returns-clause-value
returns-clause-value c =
    let range = c.args.self.effects.in_range in
    let w = c.args.self.weights in
    three_are w c.args.self.in_range c.on-n.result c.on-y.result c.on-z.result (limited c.args.case 0 range c.on-n.ensures)
    (limited c.args.case 1 range c.on-y.ensures) (limited c.args.case 2 range c.on-z.ensures)
    ∙ (λ i. w.n *ℤ c.on-n.ensures i +ℤ w.y *ℤ c.on-y.ensures i +ℤ w.z *ℤ c.on-z.ensures i)

pub returns-clause-small : goal.returns-clause-small
returns-clause-small c =
    subst (λ (x : ℤ). nat_abs x ≤ effect_most) (sym (returns-clause-value c))
    (weighed_most c.args.self.effects.all.now c.args.self.weights c.args.self.effects.in_range c.args.self.in_range c.args.case)
