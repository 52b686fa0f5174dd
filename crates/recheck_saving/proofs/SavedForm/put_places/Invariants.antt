-- Each place has put 181 bytes at most.
use Rattle.std.proofs.Common.{◌+◌, ◌*◌, ◌≤◌, length}
use Rattle.recheck_saving.proofs.SavedForm.put_places.Given as goal

abbrev pub invariant-loop-case : goal.invariant-loop-case
invariant-loop-case l = length l.self ≤ 15 + 181 * length l.yielded
