-- The sum over the places passed is the definition's, and each place adds an effect at most.
use Rattle.std.proofs.Common.{◌≡◌, ◌*◌, take, pos, neg_ℤ, ◌≤ℤ◌}
use Rattle.recheck_sums.specs.Sums.{sum_at}
use Rattle.recheck_sums.proofs.sum_at.Given as goal

abbrev pub invariant-loop-place : goal.invariant-loop-place
invariant-loop-place l =
    (l.sum ≡ sum_at (take l.place-index l.places) l.kind l.station l.component) × (neg_ℤ (pos (32768 * l.place-index)) ≤ℤ l.sum) × (l.sum ≤ℤ pos (32767 * l.place-index))
