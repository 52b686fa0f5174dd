-- Each read goes on from the bytes that the one before held.
use Rattle.case_names.proofs.Progress.{collecting_none, collecting_next, collected}
use Rattle.case_names.proofs.reading.collect.Goals as goal
use Rattle.case_names.proofs.reading.collect.Goals.{else-loop-test, then-loop-test+in-Ended}

pub loop-init : goal.loop-init
loop-init g c = collecting_none _ _ c.no_names-names.ensures

pub loop-preserved : goal.loop-preserved
loop-preserved g c = collecting_next c.loop.invariant c.turn-read.ensures

pub returns : goal.returns
returns g c =
    elim c.loop-test.branch [
      | else-loop-test w ↦ rw w.names-is (collected c.loop.invariant)
      | then-loop-test+in-Ended w ↦ rw w.names-is (collected (collecting_next c.loop.invariant w.turn-read.ensures))
    ]
