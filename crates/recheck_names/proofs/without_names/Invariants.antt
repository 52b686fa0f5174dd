-- The output is what is kept of the fields passed; the measure is what is left.
use Rattle.std.proofs.Common.{length}
use Rattle.recheck_names.proofs.Without.{Passed}
use Rattle.recheck_names.proofs.without_names.Given as goal

abbrev pub invariant-loop-field : goal.invariant-loop-field
invariant-loop-field g l = Passed l.file l.left_out l.here l.out

abbrev pub decreases-loop-field : goal.decreases-loop-field
decreases-loop-field g l = length l.here
