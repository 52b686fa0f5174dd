-- The total that is read back is the total.
use native.Mathlib.Omega.{arith}
use mathlib.Core.Path.{ap, ◌∙◌}
use lib.IntN.{pos}
use lib.ListN.{get_or}
use Rattle.integers.proofs.Machine.{back}
use Rattle.sums.specs.Sums.{split_of}
use Rattle.sums.proofs.fn.split.from_fn.Goals as goal

pub returns : goal.returns
returns g c = c.of.ensures ∙ ap split_of (back (get_or c.captures.totals c.args.d (pos 0)) (omega (arith, c.requires.1)))
