-- The row that governs the effects with the sign, and its sets.
use Rattle.std.proofs.Common.{ℕ, ℤ, List, ◌*◌, ◌+◌, ◌≤◌, nat_abs, ap, ◌∙◌, arith}
use Rattle.envelope.specs.declared.Best.{Best}
use Rattle.envelope.specs.Range.{effect_of, effect_most, EffectsInRange}
use Rattle.envelope.specs.Components.{number_of_component}
use Rattle.envelope.specs.Envelope.{extreme_in}
use Rattle.envelope.specs.Signs.{signed}
use Rattle.naming.proofs.BestSets.{chosen_in_range}
use Rattle.station.proofs.Governed.{best_row, sign_governs, sign_acts}
use Rattle.station.proofs.Named.{sets_fit, extreme_is_lem}
use Rattle.station.proofs.greatest.Goals as goal

small : {effects : List ℤ} (component : ℕ) → EffectsInRange effects → (k : ℕ) → nat_abs (effect_of effects k component) ≤ effect_most
small component r k = omega (arith, r.range (k * 3 + component))

pub sets_of-requires : goal.sets_of-requires
sets_of-requires c =
    let q = c.requires in
    let best = c.toward-best in
    (best_row c.args.rows.settings _ best.ensures, chosen_in_range c.args.places.now.sets q.kind q.are best.result.row c.fluid_acts-fluid.result)

pub extreme-requires : goal.extreme-requires
extreme-requires c =
    let q = c.requires in
    let most = small (number_of_component c.args.cases.component) c.args.cases.effects.in_range in
    sets_fit c.args.rows.in_range q.below q.are _ c.toward-best.result (sign_acts c.args.rows.in_range q most c.args.cases.sign c.fluid_acts-fluid.ensures) c.sets_of.ensures

pub returns-clause-is : goal.returns-clause-is
returns-clause-is c =
    let s = c.args.rows.settings in
    let cases = c.args.cases in
    let most = small (number_of_component cases.component) cases.effects.in_range in
    let best = c.toward-best in
    record {
      read = c.extreme.ensures.0 ∙ ap (λ (b : Best). b.value) best.ensures;
      is = λ q.
          let g = sign_governs c.args.rows.in_range q most cases.sign best.ensures in
          extreme_is_lem c.args.rows.in_range q.below q.are _ _ (sign_acts c.args.rows.in_range q most cases.sign c.fluid_acts-fluid.ensures) c.sets_of.ensures c.extreme.ensures
          ∙ ap (extreme_in s q.kind (λ k. signed cases.sign (effect_of cases.effects.all.now k (number_of_component cases.component)))) g.is;
    }

pub returns-clause-small : goal.returns-clause-small
returns-clause-small c =
    let g = sign_governs c.args.rows.in_range c.requires (small (number_of_component c.args.cases.component) c.args.cases.effects.in_range) c.args.cases.sign c.toward-best.ensures in
    rw c.extreme.ensures.0 g.fits
