-- The effect that is read back is the effect.
use native.Mathlib.Omega.{arith}
use mathlib.Core.Path.{◌∙◌}
use lib.IntN.{pos}
use lib.ListN.{get_or}
use Rattle.integers.proofs.Machine.{back}
use Rattle.sums.specs.Sums.{nothing, sides_with}
use Rattle.sums.proofs.fn.with_case.from_fn.Goals as goal

pub with-requires : goal.with-requires
with-requires g c = rw (back (get_or c.captures.effects c.args.d (pos 0)) (omega (arith, c.requires.1.above))) c.requires.1

pub returns : goal.returns
returns g c =
    c.with.ensures
    ∙ (λ t. sides_with c.captures.compared (get_or c.captures.sides c.args.d nothing) (back (get_or c.captures.effects c.args.d (pos 0)) (omega (arith, c.requires.1.above)) t))
