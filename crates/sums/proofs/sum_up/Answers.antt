-- In each direction the loop holds the sums of the kinds below `kind`.
use Prim.Native.Nat.{ℕ, ◌*◌, ◌<◌, ◌^◌}
use native.Mathlib.Omega.{arith}
use mathlib.Core.Path.{◌∙◌}
use lib.IntN.{ℤ}
use Rattle.integers.specs.Sets.{has}
use Rattle.standard.specs.Combination.{case_count}
use Rattle.envelope.specs.Range.{effect_of}
use Rattle.sums.specs.Sums.{sides_in, total_in}
use Rattle.sums.proofs.Held.{sides_in_range, sides_at_most}
use Rattle.sums.proofs.Gathered.{kind_more}
use Rattle.sums.proofs.sum_up.Goals as goal

pub put_all-requires-in-loop-kind : goal.put_all-requires-in-loop-kind
put_all-requires-in-loop-kind g c =
    let long : g.row.N * 240 < 2 ^ 63 = omega (arith, c.well_formed) in
    let fits : g.row.N * 16 < 2 ^ 63 = omega arith in (
      long,
      (
        fits,
        (
          omega arith,
          λ d l.
              let e : ℕ → ℤ = g.R.Reading.along c.args.reading (effect_of c.args.effects.all.now) d in
              let small = c.requires.small d in
              rw (c.sides_of-sides.ensures d l)
              (sides_in_range c.acts_alone.result (has c.of.result) e small case_count (omega arith), sides_at_most c.acts_alone.result (has c.of.result) e small),
        ),
      ),
    )

pub loop-kind-preserved : goal.loop-kind-preserved
loop-kind-preserved g c = λ d l.
    let a = c.args in
    let e : ℕ → ℤ = g.R.Reading.along a.reading (effect_of a.effects.all.now) d in
    kind_more (total_in a.totals d) a.places.now.sets e c.loop-kind.kind (c.loop-kind.invariant d l) (omega arith) (c.put_all-in-loop-kind.ensures d l)
    (c.sides_of-sides.ensures d l ∙ (λ i. sides_in (c.acts_alone.ensures i) (has (c.of.ensures i)) e case_count))
