-- The bytes from a place to another stand at the start, and the later ones are as they were.
use Rattle.std.proofs.Common.{◌∙◌}
use Rattle.transfers.proofs.Moves.{moved, unmoved}
use Rattle.transfers.proofs.shift.Goals as goal

pub returns-then-from-eq0 : goal.returns-then-from-eq0
returns-then-from-eq0 c = rw c.if-from-eq0.true (unmoved _ _ c.requires.1)

pub returns : goal.returns
returns c = c.copy_within.ensures.after ∙ moved c.args.buffer.now c.args.from c.args.to c.requires.1
