-- A station in range, the row that governs effects in range, and what the sums of one pass tell of the extremes of a component and of
-- the utilisation.
use Prim.Native.Nat.{ℕ, ◌<◌, ◌≤◌, ◌^◌}
use native.Mathlib.Omega.{arith}
use mathlib.Core.Bool.{Bool}
use mathlib.Core.List.{List}
use mathlib.Core.Path.{◌≡◌, sym, ap, ◌∙◌, subst}
use lib.IntN.{ℤ, neg_ℤ, nat_abs}
use lib.ListN.{get_or-eq_default}
use Rattle.integers.proofs.Signs.{abs_negated}
use Rattle.standard.specs.declared.Settings.{Settings}
use Rattle.standard.specs.declared.Capacities.{Capacities}
use Rattle.standard.specs.Kinds.{kind_count, fluid}
use Rattle.standard.specs.Range.{SettingsInRange}
use Rattle.standard.specs.Rows.{row_count}
use Rattle.standard.specs.Combination.{case_count}
use Rattle.optimum.specs.Row.{acts_together}
use Rattle.envelope.specs.declared.Best.{Best}
use Rattle.envelope.specs.declared.component.Component.{Component}
use Rattle.envelope.specs.declared.Peak.{Peak}
use Rattle.envelope.specs.declared.Sign.{Sign}
use Rattle.envelope.specs.declared.Sign.TheVariants.{Plus, Minus}
use Rattle.envelope.specs.declared.StationSums.{StationSums}
use Rattle.envelope.specs.declared.Weights.{Weights}
use Rattle.envelope.specs.Range.{kind_of, effect_of, total_at, effect_most, StationInRange, EffectsInRange, WeightsInRange, CapacitiesInRange}
use Rattle.envelope.specs.Components.{number_of_component}
use Rattle.envelope.specs.Places.{Places}
use Rattle.envelope.specs.Envelope.{best_of, governing_of, weighed, pattern_of, pattern_best, peak_of}
use Rattle.envelope.specs.Signs.{signed}
use Rattle.envelope.proofs.Components.{component_below}
use Rattle.envelope.proofs.Limits.{row_below, value_fits, weighed_most}
use Rattle.envelope.proofs.Patterns.{pattern_in_range}
use Rattle.envelope.proofs.Rows.{best_some}
use Rattle.envelope.proofs.Utilisation.{peak_own, peak_inside}
use Rattle.sums.specs.Sums.{TotalsHeld, fluid_acts}
use Rattle.directions.specs.Four.{fluid_in}
use Rattle.governing.specs.Ways.{toward_of, eight_of}
use Rattle.passes.specs.Passes.{ServesPatterns, ComponentPass, PatternPass}
use Rattle.passes.proofs.Served.{peak_served, fluid_served}
use Rattle.station.specs.Passed.{Passed}

-- ---- the cases of a station
module _ {kinds : List ℕ} {effects : List ℤ} (r : StationInRange kinds effects) where
  pub below : (k : ℕ) → kind_of kinds k < kind_count
  below k = omega (arith, r.kinds_range k)

  pub past : (k : ℕ) → case_count ≤ k → kind_of kinds k ≡ 0
  past k l = get_or-eq_default kinds 0 (omega (arith, r.kinds_long))

  pub effects_in_range : EffectsInRange effects
  effects_in_range = record { long = r.effects_long; range = r.effects_range }

-- ---- a governing row
pub record Governs (s : Settings) (kind : ℕ → ℕ) (x : ℕ → ℤ) (best : Best) : Type 0 where
  pub is : best ≡ governing_of s kind x
  pub row : best.row < row_count
  pub fits : nat_abs best.value < 2 ^ 63

governs : (s : Settings) (kind : ℕ → ℕ) (x : ℕ → ℤ) (best : Best) → SettingsInRange s → ((k : ℕ) → nat_abs (x k) ≤ effect_most) →
    best ≡ governing_of s kind x → Governs s kind x best
governs s kind x best range small is =
    subst (Governs s kind x) (sym is) (record { is = λ _. governing_of s kind x; row = row_below s kind x; fits = value_fits s kind x range small })

-- the best row is one of the table, by whatever values
pub best_row : (s : Settings) (v : ℕ → ℤ) {best : Best} → best ≡ best_of s v → best.row < row_count
best_row s v is = subst (λ (b : Best). b.row < row_count) (sym is) (best_some s v).0

-- ---- the effects with a sign
module _ {s : Settings} (range : SettingsInRange s) {places : List ℕ} {held : ℕ → ℕ → ℕ} {e : ℕ → ℤ} (q : Passed places held e)
    (small : (k : ℕ) → nat_abs (e k) ≤ effect_most) where
  pub sign_governs : (sign : Sign) {best : Best} → best ≡ toward_of s held sign → Governs s q.kind (λ k. signed sign (e k)) best
  sign_governs Plus {best} is = governs s q.kind e best range small (is ∙ (q.serve.governs s).as_is)
  sign_governs Minus {best} is =
      governs s q.kind (λ k. neg_ℤ (e k)) best range (λ k. omega (arith, abs_negated (e k), small k)) (is ∙ (q.serve.governs s).turned)

  -- whether the F cases act
  pub sign_acts : (sign : Sign) {acts : Bool} → acts ≡ fluid_acts held sign → acts ≡ acts_together q.kind (λ k. signed sign (e k)) fluid
  sign_acts Plus is = is ∙ q.serve.tells_fluid.as_is
  sign_acts Minus is = is ∙ q.serve.tells_fluid.turned

-- the sums of a component's pass
abbrev pub passed : {s : Settings} {kinds : List ℕ} {effects : List ℤ} {totals : StationSums} (component : Component) →
    StationInRange kinds effects × TotalsHeld totals kinds effects × SettingsInRange s →
    {places : List ℕ} → Places places (kind_of kinds) →
    {held : ℕ → ℕ → ℕ} → ComponentPass held (λ j. total_at totals j (number_of_component component)) places (λ k. effect_of effects k (number_of_component component)) →
    Passed places held (λ k. effect_of effects k (number_of_component component))
passed {kinds = kinds} component needs placed pass =
    record {
      kind = kind_of kinds;
      below = below needs.0;
      are = placed;
      serve = pass.serves (kind_of kinds) (below needs.0) placed (needs.1.are.on (number_of_component component) (component_below component));
    }

-- ---- the utilisation
module _ {s : Settings} {kinds : List ℕ} {effects : List ℤ} {totals : StationSums} {p : Capacities}
    (needs : StationInRange kinds effects × TotalsHeld totals kinds effects × CapacitiesInRange p × SettingsInRange s)
    {places : List ℕ} (placed : Places places (kind_of kinds))
    {held : ℕ → ℕ → ℕ → ℕ} (pass : PatternPass held (total_at totals) places (effect_of effects) p) where
  abbrev bests : ℕ → Best
  bests = pattern_best s (kind_of kinds) (effect_of effects) p

  -- the sums of the pass serve the eight patterns
  pub patterns : ServesPatterns held (kind_of kinds) (effect_of effects) p
  patterns = pass.serves (kind_of kinds) (below needs.0) placed needs.1.are

  module _ {peak : Peak} (highest : peak ≡ peak_of (eight_of s held) 7) where
    -- the pattern that governs, one of the eight
    pub peak_is : peak ≡ peak_of bests 7
    peak_is = highest ∙ peak_served held (kind_of kinds) (effect_of effects) p patterns s

    pub pattern_below : peak.pattern ≤ 7
    pattern_below = subst (λ (q : Peak). q.pattern ≤ 7) (sym peak_is) (peak_inside bests 7)

    module _ {w : Weights} (weights : w ≡ pattern_of p peak.pattern) where
      pub weights_in_range : WeightsInRange w
      weights_in_range = subst WeightsInRange (sym weights) (pattern_in_range p peak.pattern needs.2)

      -- its row governs the effects weighed by it
      pub peak_governs : Governs s (kind_of kinds) (weighed w (effect_of effects)) peak.best
      peak_governs =
          governs s (kind_of kinds) (weighed w (effect_of effects)) peak.best needs.3
          (weighed_most effects w (effects_in_range needs.0) weights_in_range)
          (ap (λ (q : Peak). q.best) peak_is ∙ peak_own bests 7 ∙ ap (λ (q : Peak). bests q.pattern) (sym peak_is)
          ∙ ap (λ (v : Weights). governing_of s (kind_of kinds) (weighed v (effect_of effects))) (sym weights))

      -- whether the F cases act
      pub peak_acts : {acts : Bool} → acts ≡ fluid_in held peak.pattern → acts ≡ acts_together (kind_of kinds) (weighed w (effect_of effects)) fluid
      peak_acts is =
          is ∙ fluid_served held (kind_of kinds) (effect_of effects) p patterns peak.pattern pattern_below
          ∙ ap (λ (v : Weights). acts_together (kind_of kinds) (weighed v (effect_of effects)) fluid) (sym weights)
