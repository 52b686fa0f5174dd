-- What is left of the input is no longer than it is; the measure is what is left.
use Rattle.std.proofs.Common.{◌≤◌, length}
use Rattle.recheck_drawing.proofs.compare_names.Given as goal

abbrev pub invariant-loop-rest : goal.invariant-loop-rest
invariant-loop-rest l = length l.here ≤ length l.stored

abbrev pub decreases-loop-rest : goal.decreases-loop-rest
decreases-loop-rest l = length l.here
