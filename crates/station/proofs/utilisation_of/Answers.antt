-- The pattern that governs, the sets of its row, and the verdict.
use native.Mathlib.Omega.{arith}
use mathlib.Core.Path.{◌≡◌, sym, ap, ◌∙◌}
use lib.Dec.{leb}
use lib.IntN.{nat_abs}
use Rattle.integers.proofs.Machine.{back}
use Rattle.envelope.specs.declared.Extreme.{Extreme}
use Rattle.envelope.specs.declared.Peak.{Peak}
use Rattle.envelope.specs.declared.Utilised.{Utilised}
use Rattle.envelope.specs.declared.Weights.{Weights}
use Rattle.envelope.specs.Range.{kind_of, effect_of}
use Rattle.envelope.specs.Envelope.{extreme_in, weighed, pattern_of, pattern_best, peak_of, utilised_of}
use Rattle.sums.specs.Directions.{held_in}
use Rattle.sums.proofs.Totals.{held_in_range}
use Rattle.naming.proofs.BestSets.{chosen_in_range}
use Rattle.station.specs.Promises.{UtilisationFromPass}
use Rattle.station.proofs.Governed.{below, past, effects_in_range, patterns, peak_is, pattern_below, weights_in_range, peak_governs, peak_acts}
use Rattle.station.proofs.Promised.{utilisation_governs}
use Rattle.station.proofs.Named.{sets_fit, extreme_is_lem}
use Rattle.station.proofs.utilisation_of.Goals as goal

pub invariant_of-effects : goal.invariant_of-effects
invariant_of-effects c = record { in_range = effects_in_range c.requires.0 }

pub invariant_of-station : goal.invariant_of-station
invariant_of-station c = record { in_range = held_in_range c.args.totals.now c.args.kinds.now c.args.effects.now c.requires.1 (effects_in_range c.requires.0) }

pub pattern_pass-requires : goal.pattern_pass-requires
pattern_pass-requires c = (record { kind = kind_of c.args.kinds.now; below = below c.requires.0; are = c.places_of-places.ensures }, c.requires.2)

pub highest-peak-requires : goal.highest-peak-requires
highest-peak-requires c = λ d l. ((patterns c.requires c.places_of-places.ensures c.pattern_pass.ensures.serves).along d l).ready

pub fluid_in-fluid-requires : goal.fluid_in-fluid-requires
fluid_in-fluid-requires c = omega (arith, pattern_below c.requires c.places_of-places.ensures c.pattern_pass.ensures.serves c.highest-peak.ensures)

pub invariant_of-weighed : goal.invariant_of-weighed
invariant_of-weighed c =
    record { in_range = weights_in_range c.requires c.places_of-places.ensures c.pattern_pass.ensures.serves c.highest-peak.ensures c.pattern_weights-weights.ensures }

pub sets_of-sets-requires : goal.sets_of-sets-requires
sets_of-sets-requires c =
    let places = c.places_of-places in (
      (peak_governs c.requires places.ensures c.pattern_pass.ensures.serves c.highest-peak.ensures c.pattern_weights-weights.ensures).row,
      chosen_in_range places.result.sets (kind_of c.args.kinds.now) places.ensures c.highest-peak.result.best.row c.fluid_in-fluid.result,
    )

pub extreme-x-requires : goal.extreme-x-requires
extreme-x-requires c =
    let places = c.places_of-places.ensures in
    let pass = c.pattern_pass.ensures.serves in
    let peak = c.highest-peak.ensures in
    let w = c.pattern_weights-weights.ensures in
    sets_fit c.requires.3 (below c.requires.0) places _ c.highest-peak.result.best (peak_acts c.requires places pass peak w c.fluid_in-fluid.ensures)
    c.sets_of-sets.ensures

pub returns : goal.returns
unfolding utilised_of
returns c =
    let s = c.args.s in
    let p = c.args.p in
    let kind = kind_of c.args.kinds.now in
    let effect = effect_of c.args.effects.now in
    let places = c.places_of-places.ensures in
    let pass = c.pattern_pass.ensures.serves in
    let peak = c.highest-peak in
    let w = c.pattern_weights-weights in
    let x = c.extreme-x in
    let g = peak_governs c.requires places pass peak.ensures w.ensures in
    let f : Peak → Extreme = λ q. extreme_in s kind (weighed (pattern_of p q.pattern) effect) q.best in
    let is : x.result ≡ f (peak_of (pattern_best s kind effect p) 7) =
    extreme_is_lem c.requires.3 (below c.requires.0) places _ _ (peak_acts c.requires places pass peak.ensures w.ensures c.fluid_in-fluid.ensures) c.sets_of-sets.ensures x.ensures
    ∙ ap (λ (v : Weights). extreme_in s kind (weighed v effect) peak.result.best) w.ensures
    ∙ ap f (peak_is c.requires places pass peak.ensures) in
    let numerator : c.unsigned_abs-numerator.result ≡ nat_abs peak.result.best.value = rw (x.ensures.0, back peak.result.best.value g.fits) at c.unsigned_abs-numerator.ensures.value in
    let n = numerator ∙ ap nat_abs (sym x.ensures.0 ∙ ap (λ (q : Extreme). q.value) is) in
    let d = c.denominator_of-denominator.ensures in
    let used : ◌≡◌ {A = Utilised} (record {
      numerator = c.unsigned_abs-numerator.result;
      denominator = c.denominator_of-denominator.result;
      pass = leb c.unsigned_abs-numerator.result c.denominator_of-denominator.result;
      row = x.result.row;
      acting = x.result.acting;
      low = x.result.low;
    }) (utilised_of s kind effect p) =
    λ i. record { numerator = n i; denominator = d i; pass = leb (n i) (d i); row = (is i).row; acting = (is i).acting; low = (is i).low } in
    let from : UtilisationFromPass s kind effect p _ = record {
      held = held_in c.pattern_pass.new.sums;
      serve = patterns c.requires places pass;
      ready = c.pattern_pass.ensures.ready.along kind (below c.requires.0) places c.requires.1.are;
      numerator = numerator ∙ ap (λ (q : Peak). nat_abs q.best.value) peak.ensures;
    } in
    (used, utilisation_governs s kind (past c.requires.0) effect p _ used c.requires.3, from)
