-- The directions below d have the kind's sides, and the others what they had.
use Rattle.sums.proofs.Arrays.{PutTo}
use Rattle.sums.proofs.put_all.Given as goal

abbrev pub invariant-loop-d : goal.invariant-loop-d
invariant-loop-d g l = PutTo l.initial.sums l.sums l.kind l.sides l.d
