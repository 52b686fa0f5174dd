-- The terms of a side and the other are in range, whichever of them is above.
use native.Mathlib.Omega.{arith}
use Rattle.governing.proofs.Ranges.{sides_apart, in_range_apart}
use Rattle.governing.proofs.OpenRows.toward.Goals as goal

pub invariant_of-look : goal.invariant_of-look
invariant_of-look c = record { terms_in_range = rw c.terms_of.ensures (in_range_apart c.requires _ _ (omega (arith, sides_apart c.args.sign))) }
