-- Each station has put 10 bytes at most.
use Rattle.std.proofs.Common.{◌+◌, ◌*◌, ◌≤◌, length}
use Rattle.recheck_saving.proofs.SavedForm.put_all_capacities.Given as goal

abbrev pub invariant-loop-station : goal.invariant-loop-station
invariant-loop-station l = length l.self ≤ 5807 + 10 * length l.yielded
