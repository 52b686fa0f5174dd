-- The look on the sheet lent, which it leaves.
use Rattle.std.proofs.Common.{rules}
use Rattle.sheet.specs.Looks.{looked_extremes}
use Rattle.sheet.proofs.Sheet.look_extremes.Goals as goal

pub returns : goal.returns
unfolding looked_extremes
returns c = (search rules, search rules)
