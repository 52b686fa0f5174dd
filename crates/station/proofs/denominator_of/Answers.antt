-- Capacities are of 16 bits each, so that a thousand times the product of the three fits.
use Prim.Native.Nat.{◌*◌}
use Rattle.standard.specs.Combination.{denominator_of}
use Rattle.station.proofs.denominator_of.Goals as goal

pub returns : goal.returns
unfolding denominator_of
returns c = λ i. 1000 * (c.from-n.ensures i * c.from-y.ensures i * c.from-z.ensures i)
