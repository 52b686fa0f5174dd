-- The loop walks over the set: in each direction what the members passed make is held.
use Rattle.std.proofs.Common.{ℕ, ◌<◌, get_or}
use Rattle.integers.specs.Sets.{has}
use Rattle.integers.proofs.Walks.{Walk}
use Rattle.standard.specs.Combination.{case_count}
use Rattle.envelope.specs.Range.{effect_of}
use Rattle.sums.specs.Sums.{nothing, sides_in}
use Rattle.sums.proofs.sides_of.Given as goal

abbrev pub invariant-loop-k : goal.invariant-loop-k
invariant-loop-k g l = record {
  cases : Walk {A = Unit {0}} (has l.set) case_count (λ _. tt) l.k-iterator.0 tt;
  made : (d : ℕ) → d < g.row.N →
      Walk (has l.set) case_count (sides_in l.compared (has l.set) (g.R.Reading.along l.reading (effect_of l.effects.all.now) d)) l.k-iterator.0 (get_or l.sides d nothing);
}
