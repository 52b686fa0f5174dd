-- The case is cleared at the stations passed, and the sums are true.
use Rattle.std.proofs.Common.{◌≡◌}
use Rattle.effects.specs.Effects.{cleared}
use Rattle.dead_sums.specs.DeadSums.{sums_of}
use Rattle.dead_sums.proofs.clear_case.Given as goal

abbrev pub invariant-loop-station : goal.invariant-loop-station
invariant-loop-station l =
    (l.effects ≡ cleared l.fn.effects l.case l.station) × (l.sums ≡ sums_of l.kinds l.effects)
