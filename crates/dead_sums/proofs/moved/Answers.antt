-- The machine reads back each part of the sum.
use Rattle.std.proofs.Common.{arith}
use Rattle.std.proofs.lemmas.Int.{ints, to_z-of_z}
use Rattle.dead_sums.proofs.moved.Goals as goal

pub returns : goal.returns
returns c =
    let new = c.from.ensures in
    let old = c.from-2.ensures in
    grind (arith, ints, to_z-of_z)
