-- The capacities are replaced where no refusal is due.
use Rattle.std.proofs.Common.{sym, refl}
use Rattle.refusals.proofs.Fits.{capacities_range}
use Rattle.sheet.specs.Sheet.{with_capacities}
use Rattle.sheet.proofs.Refusals.{made}
use Rattle.sheet.proofs.Sheet.replace_capacities_in.Goals as goal

pub bounds-self-from : goal.bounds-self-from
bounds-self-from c = rw c.from.ensures (capacities_range _ _ _ _ (sym c.in_ok-check_capacities.ensures)).station

pub returns : goal.returns
unfolding with_capacities
returns c = rw c.from.ensures (made _ c.args.self.now _ c.in_ok-check_capacities.ensures refl)
