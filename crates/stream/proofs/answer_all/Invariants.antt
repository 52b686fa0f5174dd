-- The fields answered so far, and those that are left.
use Rattle.std.proofs.Common.{◌-◌, length}
use Rattle.stream.proofs.Going.{Going}
use Rattle.stream.proofs.answer_all.Given as goal

abbrev pub invariant-loop-sheet : goal.invariant-loop-sheet
invariant-loop-sheet l = Going l.ended l.input l.initial.sheet l.initial.output l.p l.sheet l.output

abbrev pub decreases-loop-sheet : goal.decreases-loop-sheet
decreases-loop-sheet l = length l.input - l.p.consumed
