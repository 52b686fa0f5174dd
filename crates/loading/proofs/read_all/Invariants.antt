-- The fields of the bytes left lead where those of the input lead.
use Rattle.std.proofs.Common.{length}
use Rattle.loading.proofs.ReadAll.{Going}
use Rattle.loading.proofs.read_all.Given as goal

abbrev pub invariant-loop-left : goal.invariant-loop-left
invariant-loop-left l = Going l.input l.left l.initial.sheet l.sheet l.initial.output l.output l.written l.first

abbrev pub decreases-loop-left : goal.decreases-loop-left
decreases-loop-left l = length l.left
