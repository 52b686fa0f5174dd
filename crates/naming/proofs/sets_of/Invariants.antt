-- The loop holds the leads of the groups passed.
use Rattle.std.proofs.Common.{◌≡◌}
use Rattle.naming.proofs.Naming.{leads_of}
use Rattle.naming.proofs.sets_of.Given as goal

abbrev pub invariant-loop-group : goal.invariant-loop-group
invariant-loop-group g l = l.leads ≡ leads_of l.group-items (g.C.CaseEffects.effect l.cases) l.group-index
