-- What the pass holds of each kind serves both extremes, and is in range on any two sides.
use Prim.Native.Nat.{ℕ, zero, suc, ◌+◌, ◌*◌, ◌<◌, ◌≤◌}
use native.Mathlib.Omega.{arith}
use mathlib.Core.List.{List, [], ◌∷◌}
use mathlib.Core.Path.{◌≡◌, ◌∙◌, ap, subst}
use lib.IntN.{ℤ, nat_abs}
use mir.Syntax.{w64}
use mir.Val.{to_z, of_z}
use Rattle.integers.proofs.Machine.{back}
use Rattle.standard.specs.Kinds.{kind_count}
use Rattle.envelope.specs.declared.StationSums.{StationSums}
use Rattle.envelope.specs.Range.{effect_of, total_at, effect_most, TotalsInRange}
use Rattle.envelope.specs.Components.{number_of_component}
use Rattle.sums.specs.Sums.{total_count, total_in, sum_most, TotalsFit}
use Rattle.sums.specs.Directions.{held_in}
use Rattle.sums.proofs.Arrays.{held_got}
use Rattle.sums.proofs.Gathered.{totals_same}
use Rattle.passes.specs.Passes.{ComponentPass, ComponentReady}
use Rattle.passes.proofs.Served.{component_served, component_ready}
use Rattle.passes.proofs.component_pass.Goals as goal

-- the two totals on component n
module _ (t : StationSums) (r : TotalsInRange t) (n : ℕ) where
  abbrev two : List (List ℤ)
  two = (to_z w64 (of_z w64 (total_at t 0 n)) ∷ []) ∷ (to_z w64 (of_z w64 (total_at t 1 n)) ∷ []) ∷ []

  at : (which : ℕ) → to_z w64 (of_z w64 (total_at t which n)) ≡ total_at t which n
  at which = back (total_at t which n) (omega (arith, r.range which n))

  totals_are : (j : ℕ) → j < total_count → total_in two 0 j ≡ total_at t j n
  totals_are zero l = at 0
  totals_are (suc zero) l = at 1
  totals_are (suc (suc j)) l = absurd (omega arith)

  totals_fit : TotalsFit two
  totals_fit = record { each = each }
    where
      each : (d j : ℕ) → nat_abs (total_in two d j) ≤ sum_most
      each zero zero = rw (at 0) (omega (arith, r.range 0 n))
      each zero (suc zero) = rw (at 1) (omega (arith, r.range 1 n))
      each zero (suc (suc j)) = omega arith
      each (suc d) zero = omega arith
      each (suc d) (suc zero) = omega arith
      each (suc d) (suc (suc j)) = omega arith

pub sum_up-requires : goal.sum_up-requires
sum_up-requires c =
    let n = number_of_component c.args.component in
    let small : (d k : ℕ) → nat_abs (effect_of c.args.station.effects.all.now k n) ≤ effect_most = λ d k. omega (arith, c.args.station.effects.in_range.range (k * 3 + n)) in
    (omega arith, (omega arith, (omega arith, (totals_fit c.args.station.totals.now c.args.station.in_range c.from-at.result, small))))

pub returns : goal.returns
returns c =
    let n = number_of_component c.args.component in
    let t = c.args.station.totals.now in
    let e : ℕ → ℤ = λ k. effect_of c.args.station.effects.all.now k n in
    let totals : ℕ → ℤ = λ j. total_at t j n in
    let places = c.args.station.places.now.sets in
    let sums = c.sum_up.new.sums in
    let first : 0 < 1 = omega arith in
    let small : (k : ℕ) → nat_abs (e k) ≤ effect_most = λ k. omega (arith, c.args.station.effects.in_range.range (k * 3 + n)) in
    let one = held_got sums 0 c.index-sums-0.result (omega (arith, c.sum_up.array_long)) in
    let h = totals_same _ totals places e kind_count
    (λ j l. totals_are t c.args.station.in_range c.from-at.result j l ∙ ap (λ (i : ℕ). total_at t j i) c.from-at.ensures)
    (c.sum_up.ensures 0 first) in
    record {
      serves = subst (λ (held : ℕ → ℕ → ℕ). ComponentPass held totals places e) one (component_served (held_in sums 0) totals places e small h);
      ready = subst (λ (held : ℕ → ℕ → ℕ). ComponentReady held totals places e) one (component_ready (held_in sums 0) totals places e small h);
    }
