-- The constant is the list of lines that the definition computes.
use Rattle.std.proofs.Common.{[]}
use Rattle.standard.specs.Rows.{row_count}
use Rattle.standard.specs.Columns.{entries_in}
use Rattle.standard.proofs.Table.{at}
use Rattle.rows.proofs.line.Goals as goal

pub returns : goal.returns
unfolding entries_in
returns c = rw c.from.ensures (at entries_in [] row_count c.args.row c.requires)
