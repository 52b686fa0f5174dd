-- There are no more fields than bytes.
use Rattle.std.proofs.Common.{arith, inl}
use Rattle.lists.proofs.Left.{fields_few}
use Rattle.lists.proofs.count.Goals as goal

pub count-requires-clause-fits : goal.count-requires-clause-fits
count-requires-clause-fits c = inl (omega (arith, fields_few c.args.input.now))
