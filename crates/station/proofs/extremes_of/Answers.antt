-- One pass, and the greatest number with each sign.
use Prim.Native.Nat.{ℕ}
use mathlib.Core.Path.{◌≡◌, ap, ◌∙◌}
use lib.IntN.{ℤ, neg_ℤ}
use Rattle.integers.proofs.Machine.{neg_back}
use Rattle.envelope.specs.declared.Extreme.{Extreme}
use Rattle.envelope.specs.declared.Extremes.{Extremes}
use Rattle.envelope.specs.Range.{kind_of, effect_of}
use Rattle.envelope.specs.Components.{number_of_component}
use Rattle.envelope.specs.Envelope.{extremes_of}
use Rattle.envelope.proofs.Components.{component_below}
use Rattle.sums.specs.Sums.{held_at}
use Rattle.sums.proofs.Totals.{held_in_range}
use Rattle.station.specs.Promises.{ExtremesFromPass}
use Rattle.station.proofs.Governed.{below, past, effects_in_range, passed}
use Rattle.station.proofs.Promised.{extremes_govern}
use Rattle.station.proofs.extremes_of.Goals as goal

pub invariant_of-effects : goal.invariant_of-effects
invariant_of-effects c = record { in_range = effects_in_range c.requires.0 }

pub invariant_of-station : goal.invariant_of-station
invariant_of-station c = record { in_range = held_in_range c.args.totals.now c.args.kinds.now c.args.effects.now c.requires.1 (effects_in_range c.requires.0) }

pub component_pass-sums-requires : goal.component_pass-sums-requires
component_pass-sums-requires c = record { kind = kind_of c.args.kinds.now; below = below c.requires.0; are = c.places_of-places.ensures }

pub greatest-most-requires : goal.greatest-most-requires
greatest-most-requires c = passed c.args.component c.requires c.places_of-places.ensures c.component_pass-sums.ensures.serves

pub greatest-least-requires : goal.greatest-least-requires
greatest-least-requires c = passed c.args.component c.requires c.places_of-places.ensures c.component_pass-sums.ensures.serves

pub returns : goal.returns
unfolding extremes_of
returns c =
    let s = c.args.s in
    let kind = kind_of c.args.kinds.now in
    let effect : ℕ → ℤ = λ k. effect_of c.args.effects.now k (number_of_component c.args.component) in
    let q = passed c.args.component c.requires c.places_of-places.ensures c.component_pass-sums.ensures.serves in
    let most = c.greatest-most.ensures.is in
    let least = c.greatest-least.ensures.is in
    let negated = neg_back c.greatest-least.result.value c.greatest-least.ensures.small in
    let lowest = least.is q in
    let is : ◌≡◌ {A = Extremes} _ (extremes_of s kind effect) = λ i. record {
      maximum = most.is q i;
      minimum = record {
        value = (negated ∙ ap (λ (x : Extreme). neg_ℤ x.value) lowest) i;
        row = (lowest i).row;
        acting = (lowest i).acting;
        low = (lowest i).low;
      };
    } in
    let from : ExtremesFromPass s kind effect _ = record {
      held = held_at c.component_pass-sums.result.by_kind;
      serve = q.serve;
      ready = c.component_pass-sums.ensures.ready.ready kind q.below q.are (c.requires.1.are.on (number_of_component c.args.component) (component_below c.args.component));
      maximum = most.read;
      minimum = negated ∙ ap neg_ℤ least.read;
    } in
    (is, extremes_govern s kind (past c.requires.0) effect _ is c.requires.2, from)
