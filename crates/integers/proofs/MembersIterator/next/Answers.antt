-- The zeros below the lowest member; one less than a set has the same members above it, and not that one.
use Rattle.std.proofs.Common.{arith}
use Rattle.integers.proofs.Walks.{lowest_bit, without_lowest_lem}
use Rattle.integers.proofs.MembersIterator.next.Goals as goal

pub returns-clause-steps : goal.returns-clause-steps
returns-clause-steps c =
    let low = lowest_bit 64 c.args.self.now.0 (omega arith) (omega arith) in
    (low, without_lowest_lem _ c.args.self.now.0 low)
