use Rattle.standard.specs.Rows.{factor_of}
use Rattle.standard.specs.Columns.{entries_in}
use Rattle.rows.proofs.factor.Goals as goal

pub returns-in-Ice : goal.returns-in-Ice
unfolding factor_of entries_in
returns-in-Ice c = rw (c.line-line.ensures, c.in-Ice.is)
