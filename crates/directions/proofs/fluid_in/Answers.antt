-- The sums of the direction, with its sign.
use Prim.Native.Nat.{ℕ}
use native.Mathlib.Omega.{arith}
use mathlib.Core.Path.{◌∙◌, sym, ap}
use Rattle.sums.specs.Sums.{fluid_acts}
use Rattle.sums.specs.Directions.{held_in}
use Rattle.sums.proofs.Arrays.{held_got}
use Rattle.directions.proofs.Sizes.{below_four}
use Rattle.directions.proofs.fluid_in.Goals as goal

pub returns : goal.returns
returns c =
    let sums = c.args.sums.now in
    let way = c.way_of-direction in
    c.fluid_acts.ensures
    ∙ ap (λ (held : ℕ → ℕ → ℕ). fluid_acts held way.result.1) (sym (held_got sums way.result.0 c.index-sums-direction.result (omega (arith, way.ensures.direction, below_four c.args.pattern c.requires))))
    ∙ (λ i. fluid_acts (held_in sums (way.ensures.direction i)) (way.ensures.sign i))
