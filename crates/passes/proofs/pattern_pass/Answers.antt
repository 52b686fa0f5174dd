-- The sums of the four directions, by the weights of the pattern without signs, serve the eight patterns, and are
-- in range on any two sides.
use Prim.Native.Nat.{ℕ, ◌+◌, ◌*◌, ◌≤◌}
use mathlib.Core.Path.{sym, subst}
use lib.IntN.{nat_abs}
use Rattle.standard.specs.Kinds.{kind_count}
use Rattle.envelope.specs.declared.Weights.{Weights}
use Rattle.envelope.specs.Range.{effect_of, total_at, effect_limit, WeightsInRange}
use Rattle.envelope.proofs.Patterns.{pattern_in_range}
use Rattle.sums.specs.Directions.{held_in}
use Rattle.directions.specs.Four.{directed, FourOf}
use Rattle.passes.proofs.Served.{patterns_served, patterns_ready}
use Rattle.passes.proofs.pattern_pass.Goals as goal

pub four_sums_of-requires : goal.four_sums_of-requires
four_sums_of-requires c = subst WeightsInRange (sym c.pattern_weights.ensures) (pattern_in_range c.args.p _ c.requires.1)

pub returns : goal.returns
returns c =
    let held = held_in c.four_sums_of.new.sums in
    let totals = total_at c.args.station.totals.now in
    let effect = effect_of c.args.station.effects.all.now in
    let places = c.args.station.places.now.sets in
    let small : (k n : ℕ) → nat_abs (effect k n) ≤ effect_limit = λ k n. c.args.station.effects.in_range.range (k * 3 + n) in
    let h = subst (λ (v : Weights). FourOf held (directed v totals) places (directed v effect) kind_count) c.pattern_weights.ensures c.four_sums_of.ensures in
    record {
      serves = patterns_served totals effect c.args.p held places small c.requires.1 h;
      ready = patterns_ready totals effect c.args.p held places small c.requires.1 h;
    }
