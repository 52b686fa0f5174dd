-- One direction more.
use native.Mathlib.Omega.{arith}
use Rattle.sums.proofs.Arrays.{none_put, put_more}
use Rattle.sums.proofs.put_all.Goals as goal

pub loop-d-init : goal.loop-d-init
loop-d-init g c = none_put _ _ _

pub loop-d-preserved : goal.loop-d-preserved
loop-d-preserved g c =
    put_more c.args.sums.now c.loop-d.sums c.args.kind c.args.sides c.loop-d.d c.index-sums-d.result _ (omega arith) c.put.ensures
    c.loop-d.invariant
