-- The edits of a place and of its effects, from what the calls within them ensure.
-- Assumes nothing.
use Prim.Native.Nat.{ℕ, ◌<◌}
use native.Mathlib.Omega.{arith}
use mathlib.Core.List.{List, [], ◌∷◌}
use mathlib.Core.Path.{◌≡◌, sym, ap, ◌∙◌}
use lib.IntN.{ℤ, pos}
use lib.ListN.{set}
use lib.Seq.{sets}
use Rattle.standard.specs.Combination.{case_count}
use Rattle.envelope.specs.declared.StationSums.{StationSums}
use Rattle.envelope.specs.Range.{station_count, component_count}
use Rattle.effects.specs.Effects.{effect_in, place, cleared}
use Rattle.effects.proofs.Stored.{cleared_below, cleared_none}
use Rattle.dead_sums.specs.DeadSums.{sums_of, SumsHeld}
use Rattle.dead_sums.proofs.Sums.{any_kind}
use Rattle.sheet.specs.declared.Sheet.{Sheet}
use Rattle.sheet.specs.Sheet.{kind_at, effect_at, with_kind, with_effects}
use Rattle.sheet.specs.Range.{InRange}

-- a sheet with other kinds, effects and sums
abbrev pub with_lists : Sheet → List ℕ → List ℤ → List StationSums → Sheet
with_lists s kinds effects sums = record { settings = s.settings; kinds = kinds; effects = effects; sums = sums; capacities = s.capacities }

-- what the stores on effects ask of a sheet in range
pub sums_held : {s : Sheet} → InRange s → SumsHeld s.kinds s.effects s.sums
sums_held h = record { effects_long = h.effects_long; effects_range = h.effects_range; sums_true = h.sums_true }

module _ (s : Sheet) (case : ℕ) where
  -- a place emptied: its effects are cleared while it holds its kind
  pub emptied : {effects : List ℤ} {sums : List StationSums} → InRange s → case < case_count → effects ≡ cleared s.effects case station_count → sums ≡ sums_of s.kinds effects →
      with_lists s (set s.kinds case 0) effects sums ≡ with_kind s case 0
  unfolding with_kind
  emptied h l e z =
      λ i. with_lists s (set s.kinds case 0) (e i)
      ((z ∙ ap (sums_of s.kinds) e ∙ sym (any_kind s.kinds (cleared s.effects case station_count) case 0
      (λ t j. cleared_below s.effects case station_count h.effects_long l (omega arith) t j))) i)

  -- an empty place filled: it has no effects, so that effects and sums stay
  pub filled : (kind : ℕ) → InRange s → case < case_count → kind_at s case ≡ 0 → with_lists s (set s.kinds case kind) s.effects s.sums ≡ with_kind s case kind
  unfolding with_kind effect_at
  filled kind h l empty =
      let none : (t j : ℕ) → t < station_count → j < component_count → effect_in s.effects case t j ≡ pos 0 = λ t j a b. h.empty_zero case t j empty l a b in
      let same : s.effects ≡ cleared s.effects case station_count = sym (cleared_none s.effects case none station_count (omega arith)) in
      λ i. with_lists s (set s.kinds case kind) (same i)
      ((h.sums_true ∙ sym (any_kind s.kinds s.effects case kind none) ∙ ap (sums_of (set s.kinds case kind)) same) i)

  -- a case's three effects replaced
  pub replaced : (station : ℕ) {effects : List ℤ} {sums : List StationSums} {n' y' z' n y z : ℤ} →
      effects ≡ sets s.effects (place case station) (n' ∷ y' ∷ z' ∷ []) → sums ≡ sums_of s.kinds effects → n' ≡ n → y' ≡ y → z' ≡ z →
      with_lists s s.kinds effects sums ≡ with_effects s case station n y z
  unfolding with_effects
  replaced station e u n y z =
      let same = e ∙ (λ i. sets s.effects (place case station) (n i ∷ y i ∷ z i ∷ [])) in
      λ i. with_lists s s.kinds (same i) ((u ∙ ap (sums_of s.kinds) same) i)
