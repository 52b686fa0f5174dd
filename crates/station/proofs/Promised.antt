-- A look that equals the computed one keeps the promise.
-- Assumes nothing.
use Prim.Native.Nat.{ℕ, ◌≤◌}
use mathlib.Core.Path.{◌≡◌, sym, subst}
use lib.IntN.{ℤ}
use Rattle.standard.specs.declared.Settings.{Settings}
use Rattle.standard.specs.declared.Capacities.{Capacities}
use Rattle.standard.specs.Range.{SettingsInRange}
use Rattle.standard.specs.Combination.{case_count}
use Rattle.envelope.specs.declared.Extremes.{Extremes}
use Rattle.envelope.specs.declared.Utilised.{Utilised}
use Rattle.envelope.specs.Envelope.{extremes_of, utilised_of}
use Rattle.station.specs.Promises.{ExtremesGovern, UtilisationGoverns}
use Rattle.envelope.proofs.Maximum.{extremes_governing}
use Rattle.envelope.proofs.Utilisation.{named_in, utilisation_greatest}

module _ (s : Settings) (kind : ℕ → ℕ) (empty : (k : ℕ) → case_count ≤ k → kind k ≡ 0) where
  pub extremes_govern : (effect : ℕ → ℤ) (x : Extremes) → x ≡ extremes_of s kind effect → SettingsInRange s → ExtremesGovern s kind effect x
  extremes_govern effect x e range =
      let g = extremes_governing s kind range empty effect in
      subst (ExtremesGovern s kind effect) (sym e) (record { maximum = g.0; minimum = g.1 })

  pub utilisation_governs : (effect : ℕ → ℕ → ℤ) (p : Capacities) (x : Utilised) → x ≡ utilised_of s kind effect p → SettingsInRange s → UtilisationGoverns s kind effect p x
  unfolding named_in
  utilisation_governs effect p x e range =
      subst (UtilisationGoverns s kind effect p) (sym e) (record { greatest = utilisation_greatest s kind range empty effect p })
