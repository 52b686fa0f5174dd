-- One place more adds its share.
use Rattle.std.proofs.Common.{refl, arith}
use Rattle.std.proofs.lemmas.Int.{ints, to_z-of_z}
use Rattle.std.proofs.lemmas.List.Sums.{fold_more}
use Rattle.recheck_sums.specs.Sums.{sum_at}
use Rattle.recheck_sums.proofs.sum_at.Goals as goal

pub loop-place-init : goal.loop-place-init
unfolding sum_at
loop-place-init c = (refl, omega (arith, ints), omega (arith, ints))

pub loop-place-preserved : goal.loop-place-preserved
unfolding sum_at
loop-place-preserved c =
    (grind (arith, ints, to_z-of_z, fold_more), omega (arith, ints), omega (arith, ints))
