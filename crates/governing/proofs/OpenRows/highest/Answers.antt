-- Pattern after pattern.
use Prim.Native.Nat.{ℕ, ◌-◌, ◌<◌}
use native.Mathlib.Omega.{arith}
use mathlib.Core.Path.{◌≡◌, ◌∙◌, sym, ap, subst}
use Rattle.envelope.specs.declared.Sign.TheVariants.{Plus}
use Rattle.envelope.specs.Envelope.{peak_of}
use Rattle.sums.specs.Directions.{held_in}
use Rattle.sums.proofs.Arrays.{held_got}
use Rattle.directions.proofs.Sizes.{below_four}
use Rattle.governing.specs.Ways.{toward_of, Ready, eight_of}
use Rattle.governing.proofs.Peaks.{peak_first, peak_next}
use Rattle.governing.proofs.OpenRows.highest.Goals as goal

pub toward-requires : goal.toward-requires
toward-requires c =
    subst Ready (held_got c.args.sums.now 0 c.index-sums-0.result (omega arith)) (c.requires 0 (omega arith))

pub loop-pattern-init : goal.loop-pattern-init
loop-pattern-init c =
    peak_first (eight_of c.args.self.settings (held_in c.args.sums.now)) c.toward.result
    (c.toward.ensures ∙ ap (λ (held : ℕ → ℕ → ℕ). toward_of c.args.self.settings held Plus) (sym (held_got c.args.sums.now 0 c.index-sums-0.result (omega arith))))

pub toward-requires-in-loop-pattern : goal.toward-requires-in-loop-pattern
toward-requires-in-loop-pattern c =
    let d = c.way_of-direction.result.0 in
    let l : d < 4 = omega (arith, c.way_of-direction.ensures.direction, below_four c.loop-pattern.pattern (omega arith)) in
    subst Ready (held_got c.args.sums.now d c.index-sums-direction.result (omega arith)) (c.requires d l)

pub loop-pattern-preserved : goal.loop-pattern-preserved
loop-pattern-preserved c =
    let sums = c.args.sums.now in
    let way = c.way_of-direction in
    let l : way.result.0 < 4 = omega (arith, way.ensures.direction, below_four c.loop-pattern.pattern (omega arith)) in
    peak_next (eight_of c.args.self.settings (held_in sums)) c.loop-pattern.pattern (omega arith) c.loop-pattern.invariant
    (c.toward-in-loop-pattern.ensures
    ∙ ap (λ (held : ℕ → ℕ → ℕ). toward_of c.args.self.settings held way.result.1) (sym (held_got sums way.result.0 c.index-sums-direction.result (omega arith)))
    ∙ (λ i. toward_of c.args.self.settings (held_in sums (way.ensures.direction i)) (way.ensures.sign i)))
    c.higher-peak.ensures

pub returns : goal.returns
returns c =
    subst (λ (i : ℕ). c.loop-pattern.peak ≡ peak_of (eight_of c.args.self.settings (held_in c.args.sums.now)) (i - 1)) {x = c.loop-pattern.pattern} {y = 8} (omega arith)
    c.loop-pattern.invariant
