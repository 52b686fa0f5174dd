-- The totals are those of D and F in the four directions, and fit.
use Prim.Native.Nat.{ℕ, zero, suc, ◌+◌, ◌*◌, ◌<◌, ◌≤◌}
use native.Mathlib.Omega.{arith}
use mathlib.Core.List.{List, [], ◌∷◌}
use mathlib.Core.Path.{◌≡◌, ◌∙◌, ap}
use lib.IntN.{ℤ, pos, ◌*ℤ◌, nat_abs}
use lib.ListN.{get_or}
use mir.Syntax.{w64}
use mir.Val.{to_z, of_z}
use Rattle.integers.proofs.Machine.{back}
use Rattle.standard.specs.Kinds.{kind_count}
use Rattle.envelope.specs.declared.StationSums.{StationSums}
use Rattle.envelope.specs.declared.Weights.{Weights}
use Rattle.envelope.specs.Range.{effect_of, total_at, total_most, TotalsInRange, WeightsInRange}
use Rattle.sums.specs.Sums.{total_count, total_in, TotalsFit}
use Rattle.sums.proofs.Gathered.{totals_same}
use Rattle.directions.specs.Four.{directions_of, directed}
use Rattle.directions.proofs.Sizes.{directed_size, directed_most}
use Rattle.directions.proofs.four_sums_of.Goals as goal

-- the directions of the total at j
abbrev ways : Weights → StationSums → ℕ → List ℤ
ways w totals j = directions_of (w.n *ℤ total_at totals j 0) (w.y *ℤ total_at totals j 1) (w.z *ℤ total_at totals j 2)

module _ (w : Weights) (totals : StationSums) {dead fluid : List ℤ} (d_is : dead ≡ ways w totals 0) (f_is : fluid ≡ ways w totals 1) where
  totals_are : (d j : ℕ) → j < total_count → total_in (dead ∷ fluid ∷ []) d j ≡ directed w (total_at totals) d j
  totals_are d zero l = ap (λ (xs : List ℤ). get_or xs d (pos 0)) d_is
  totals_are d (suc zero) l = ap (λ (xs : List ℤ). get_or xs d (pos 0)) f_is
  totals_are d (suc (suc j)) l = absurd (omega arith)

  totals_fit : TotalsInRange totals → WeightsInRange w → TotalsFit (dead ∷ fluid ∷ [])
  totals_fit r weights = record { each = each }
    where
      size : (j d : ℕ) → nat_abs (directed w (total_at totals) d j) ≤ 3 * (100000000 * total_most)
      size j d = directed_size w weights (total_at totals) total_most j (λ c. r.range j c) d

      each : (d j : ℕ) → nat_abs (total_in (dead ∷ fluid ∷ []) d j) ≤ 96000000000000
      each d zero = rw (totals_are d 0 (omega arith)) (omega (arith, size 0 d))
      each d (suc zero) = rw (totals_are d 1 (omega arith)) (omega (arith, size 1 d))
      each d (suc (suc j)) = omega arith

-- what is read of a total is the total
at : (totals : StationSums) → TotalsInRange totals → (which j : ℕ) → to_z w64 (of_z w64 (total_at totals which j)) ≡ total_at totals which j
at totals r which j = back (total_at totals which j) (omega (arith, r.range which j))

told : (totals : StationSums) → TotalsInRange totals → (w : Weights) (which : ℕ) {way : List ℤ} →
    way ≡ directions_of (w.n *ℤ to_z w64 (of_z w64 (total_at totals which 0))) (w.y *ℤ to_z w64 (of_z w64 (total_at totals which 1))) (w.z *ℤ to_z w64 (of_z w64 (total_at totals which 2))) →
    way ≡ ways w totals which
told totals r w which e = e ∙ (λ i. directions_of (w.n *ℤ at totals r which 0 i) (w.y *ℤ at totals r which 1 i) (w.z *ℤ at totals r which 2 i))

-- and is within what the directions ask
sized : (totals : StationSums) → TotalsInRange totals → (which : ℕ) →
    (nat_abs (to_z w64 (of_z w64 (total_at totals which 0))) ≤ total_most)
    × (nat_abs (to_z w64 (of_z w64 (total_at totals which 1))) ≤ total_most)
    × (nat_abs (to_z w64 (of_z w64 (total_at totals which 2))) ≤ total_most)
sized totals r which = rw (at totals r which 0, at totals r which 1, at totals r which 2) (r.range which 0, r.range which 1, r.range which 2)

pub of-dead-requires : goal.of-dead-requires
of-dead-requires c = sized c.args.station.totals.now c.args.station.in_range 0

pub of-fluid-requires : goal.of-fluid-requires
of-fluid-requires c = sized c.args.station.totals.now c.args.station.in_range 1

pub sum_up-requires : goal.sum_up-requires
sum_up-requires c =
    let t = c.args.station.totals.now in
    let w = c.args.weights in (
      omega arith,
      (
        omega arith,
        (
          omega arith,
          (
            totals_fit w t (told t c.args.station.in_range w 0 c.of-dead.ensures) (told t c.args.station.in_range w 1 c.of-fluid.ensures) c.args.station.in_range c.requires,
            directed_most w c.requires (effect_of c.args.station.effects.all.now) (λ k n. c.args.station.effects.in_range.range (k * 3 + n)),
          ),
        ),
      ),
    )

pub returns : goal.returns
returns c =
    let t = c.args.station.totals.now in
    let w = c.args.weights in
    record {
      along = λ d l.
          totals_same _ (directed w (total_at t) d) c.args.station.places.now.sets (directed w (effect_of c.args.station.effects.all.now) d) kind_count
          (totals_are w t (told t c.args.station.in_range w 0 c.of-dead.ensures) (told t c.args.station.in_range w 1 c.of-fluid.ensures) d) (c.sum_up.ensures d l);
    }
