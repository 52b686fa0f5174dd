-- The constant is the table that the definition computes.
use Rattle.std.proofs.Common.{refl}
use Rattle.standard.specs.Columns.{row_table}
use Rattle.rows.proofs.row_table.Goals as goal

pub returns : goal.returns
unfolding row_table
returns c = refl
