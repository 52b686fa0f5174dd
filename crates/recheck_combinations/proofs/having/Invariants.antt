-- The set of the places passed is the definition's.
use Rattle.std.proofs.Common.{◌≡◌}
use Rattle.recheck_combinations.specs.Acting.{kinds_of, factors_of, having}
use Rattle.recheck_combinations.proofs.having.Given as goal

abbrev pub invariant-loop-case : goal.invariant-loop-case
invariant-loop-case l = l.set ≡ having (kinds_of l.terms) (factors_of l.terms) l.first l.last l.case
