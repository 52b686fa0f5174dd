-- The loop walks over the set, lowest member first, and holds the lead of the members passed.
use Rattle.integers.specs.Sets.{has}
use Rattle.integers.proofs.Walks.{Walk}
use Rattle.standard.specs.Combination.{case_count}
use Rattle.naming.proofs.Marks.{led}
use Rattle.naming.proofs.lead.Given as goal

abbrev pub invariant-loop-k : goal.invariant-loop-k
invariant-loop-k g l =
    Walk (has l.set) case_count (led (has l.set) (g.C.CaseEffects.effect l.cases)) l.k-iterator.0 (record { lead = l.lead; most = l.most })
