-- The look on the sheet lent, which it leaves.
use Rattle.std.proofs.Common.{rules}
use Rattle.sheet.specs.Looks.{looked_utilisation}
use Rattle.sheet.proofs.Sheet.look_utilisation.Goals as goal

pub returns : goal.returns
unfolding looked_utilisation
returns c = (search rules, search rules)
