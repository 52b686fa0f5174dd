-- The loop holds the cases of the kinds passed.
use Rattle.std.proofs.Common.{◌≡◌}
use Rattle.naming.proofs.Naming.{gathered_to}
use Rattle.naming.proofs.gathered.Given as goal

abbrev pub invariant-loop-kind : goal.invariant-loop-kind
invariant-loop-kind l = l.set ≡ gathered_to l.places.sets l.factored l.kinds l.kind-index
