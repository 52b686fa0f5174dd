-- No more bytes are written than there are.
use Rattle.std.proofs.Common.{◌≤◌, length}
use Rattle.transfers.proofs.write_all.Given as goal

abbrev pub invariant-loop : goal.invariant-loop
invariant-loop g l = l.taken ≤ length l.bytes
