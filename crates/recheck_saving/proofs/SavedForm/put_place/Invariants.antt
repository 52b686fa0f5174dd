-- Each station has put 11 bytes at most.
use Rattle.std.proofs.Common.{◌+◌, ◌*◌, ◌≤◌, length}
use Rattle.recheck_saving.proofs.SavedForm.put_place.Given as goal

abbrev pub invariant-loop-station : goal.invariant-loop-station
invariant-loop-station l = length l.self ≤ length l.initial.self + 11 * length l.yielded
