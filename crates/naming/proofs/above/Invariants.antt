-- The loop walks over the set, lowest member first, and holds the cases above zero of the members passed.
use Rattle.integers.specs.Sets.{has}
use Rattle.integers.proofs.Walks.{Walk}
use Rattle.standard.specs.Combination.{case_count}
use Rattle.naming.specs.Sets.{with_sign, above_in}
use Rattle.naming.proofs.above.Given as goal

abbrev pub invariant-loop-k : goal.invariant-loop-k
invariant-loop-k g l =
    Walk (has l.set) case_count (above_in (has l.set) (with_sign l.sign (g.C.CaseEffects.effect l.cases))) l.k-iterator.0 l.above
