-- `sheet::Sheet::fresh` meets its contract, which is what it writes.
use Rattle.std.proofs.Common.{refl}
use Rattle.sheet.specs.Sheet.{fresh}
use Rattle.effects.specs.Effects.{zeros}
use Rattle.sheet.proofs.Sheet.fresh.Goals as goal

pub returns : goal.returns
unfolding fresh zeros
returns c = refl
