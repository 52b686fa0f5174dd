-- In each direction the loop holds the sums of the kinds below `kind`.
use Rattle.std.proofs.Common.{ℕ, ◌<◌}
use Rattle.envelope.specs.Range.{effect_of}
use Rattle.sums.specs.Sums.{SumsOf, total_in}
use Rattle.sums.specs.Directions.{held_in}
use Rattle.sums.proofs.sum_up.Given as goal

abbrev pub invariant-loop-kind : goal.invariant-loop-kind
invariant-loop-kind g l = (d : ℕ) → d < g.row.N →
    SumsOf (held_in l.sums d) (total_in l.fn.totals d) l.places.sets (g.R.Reading.along l.reading (effect_of l.effects.all.now) d) l.kind
