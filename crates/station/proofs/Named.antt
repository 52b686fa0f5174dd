-- The sets that are named for a row are those of its best combination, and of 32 cases.
-- Assumes nothing.
use Prim.Native.Nat.{ℕ, ◌<◌, ◌^◌}
use native.Mathlib.Omega.{arith}
use mathlib.Core.Bool.{Bool}
use mathlib.Core.List.{List}
use mathlib.Core.Path.{◌≡◌, ap, ◌∙◌}
use lib.IntN.{ℤ}
use Rattle.integers.specs.Sums.{mask_of}
use Rattle.integers.proofs.Masks.{mask_below}
use Rattle.standard.specs.declared.Settings.{Settings}
use Rattle.standard.specs.Kinds.{kind_count, fluid}
use Rattle.standard.specs.Range.{SettingsInRange}
use Rattle.standard.specs.Combination.{case_count}
use Rattle.optimum.specs.Row.{acts_together, acts_in, low_in}
use Rattle.envelope.specs.declared.Best.{Best}
use Rattle.envelope.specs.declared.Extreme.{Extreme}
use Rattle.envelope.specs.Envelope.{extreme_in}
use Rattle.envelope.specs.Places.{Places}
use Rattle.naming.specs.declared.Sets.{Sets}
use Rattle.naming.specs.Sets.{chosen_of, named_of}
use Rattle.naming.proofs.BestSets.{named_acting, named_low}

module _ {s : Settings} (range : SettingsInRange s) {kind : ℕ → ℕ} (below : (k : ℕ) → kind k < kind_count) {places : List ℕ} (held : Places places kind)
    (x : ℕ → ℤ) (best : Best) {joint : Bool} (acts : joint ≡ acts_together kind x fluid)
    {sets : Sets} (named : sets ≡ named_of (chosen_of best.row places joint) x) where
  acting_is : sets.acting ≡ mask_of case_count (acts_in s best.row kind x)
  acting_is = ap (λ (y : Sets). y.acting) named ∙ named_acting places kind held below s range best.row x joint acts

  low_is : sets.low ≡ mask_of case_count (low_in s best.row kind x)
  low_is = ap (λ (y : Sets). y.low) named ∙ named_low places kind held below s range best.row x joint

  pub sets_fit : (sets.acting < 2 ^ case_count) × (sets.low < 2 ^ case_count)
  sets_fit = (omega (arith, acting_is, mask_below case_count (acts_in s best.row kind x)), omega (arith, low_is, mask_below case_count (low_in s best.row kind x)))

  pub extreme_is_lem : {r : Extreme} → (r.value ≡ best.value) × (r.row ≡ best.row) × (r.acting ≡ sets.acting) × (r.low ≡ sets.low) → r ≡ extreme_in s kind x best
  unfolding extreme_in
  extreme_is_lem e = λ i. record { value = e.0 i; row = e.1 i; acting = (e.2 ∙ acting_is) i; low = (e.3 ∙ low_is) i }
