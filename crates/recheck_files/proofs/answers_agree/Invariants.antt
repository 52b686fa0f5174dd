-- The measure is what is left of the answers.
use Rattle.std.proofs.Common.{length}
use Rattle.recheck_files.proofs.answers_agree.Given as goal

abbrev pub decreases-loop-answer : goal.decreases-loop-answer
decreases-loop-answer l = length l.rest
