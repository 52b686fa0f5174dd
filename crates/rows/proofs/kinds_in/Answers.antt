-- The constant is the list of sets that the definition computes.
use Rattle.integers.specs.Sums.{sum, mask_of}
use Rattle.standard.specs.Rows.{row_count, factor_of}
use Rattle.standard.specs.Columns.{kinds_in}
use Rattle.standard.proofs.Table.{at}
use Rattle.rows.proofs.kinds_in.Goals as goal

pub returns : goal.returns
unfolding kinds_in mask_of sum factor_of
returns c = rw c.from.ensures (at kinds_in 0 row_count c.args.row c.requires)
