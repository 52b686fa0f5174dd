-- What is left of the input is no longer than it is.
use Rattle.std.proofs.Common.{◌≤◌, length}
use Rattle.recheck_files.proofs.compare_files.Given as goal

abbrev pub invariant-loop-number : goal.invariant-loop-number
invariant-loop-number l = length l.rest ≤ length l.stored
