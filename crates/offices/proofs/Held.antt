-- Sheets that hold the same for a station: each edit keeps that, and a look at the station finds the same.
-- Assumes nothing.
use Prim.Native.Nat.{ℕ, ◌+◌, ◌*◌, ◌/◌, ◌%◌, ◌<◌}
use native.Mathlib.Omega.{arith}
use mathlib.Core.Path.{◌≡◌, refl, sym, ap, ◌∙◌}
use mathlib.Core.List.{List, [], ◌∷◌}
use mathlib.Core.Logic.{◌⊎◌, inl, inr}
use lib.ListN.{length, get_or, set}
use lib.Seq.{ext_get_or}
use lib.IntN.{ℤ, pos}
use Rattle.wire.proofs.Cases.{eq_or_ne}
use Rattle.standard.specs.declared.Settings.{Settings}
use Rattle.standard.specs.Combination.{case_count}
use Rattle.envelope.specs.Range.{effect_of, station_count, component_count}
use Rattle.envelope.specs.Envelope.{extremes_of, utilised_of}
use Rattle.effects.specs.Effects.{station_length}
use Rattle.sheet.specs.declared.Sheet.{Sheet}
use Rattle.sheet.specs.Sheet.{effect_at, capacity_at, with_kind, with_effects, with_capacities, with_settings}
use Rattle.sheet.specs.Looks.{station_effects, capacities_at, extremes_at, utilisation_at}
use Rattle.sheet.specs.Range.{InRange}
use Rattle.sheet.proofs.Stations.{station_in_range, effect_seen}
use Rattle.sheet.proofs.Access.{well_formed, effect_cleared, effect_kept, kind_leaves_capacity, effect_replaced, effect_other, effects_leave_kind, effects_leave_capacity, effects_leave_settings, capacity_replaced, capacity_other, capacities_leave_kind, capacities_leave_effect, capacities_leave_settings}
use Rattle.offices.specs.Offices.{HoldsSameAt}

pub holds_itself : (t : ℕ) (s : Sheet) → HoldsSameAt t s s
holds_itself t s = record { settings = refl; kinds = λ k a. refl; effects = λ k j a b. refl; capacities = λ j a. refl }

module _ {t : ℕ} {s v : Sheet} (h : InRange s) (g : InRange v) (a : t < station_count) (same : HoldsSameAt t s v) where
  pub same_kinds : s.kinds ≡ v.kinds
  same_kinds = ext_get_or 0 s.kinds v.kinds (h.kinds_long ∙ sym g.kinds_long) (λ i l. same.kinds i (rw h.kinds_long at l))

  -- ---- looks at the station
  station_same : station_effects s t ≡ station_effects v t
  station_same =
      let long : length (station_effects s t) ≡ station_length = (station_in_range s t h a).effects_long in
      let long' : length (station_effects v t) ≡ station_length = (station_in_range v t g a).effects_long in
      ext_get_or (pos 0) (station_effects s t) (station_effects v t) (long ∙ sym long') (λ i l.
      let m : i < station_length = rw long at l in
      let f : i / 3 * 3 + i % 3 ≡ i = omega arith in
      let b : i / 3 < case_count = omega arith in
      let c : i % 3 < component_count = omega arith in
      rw f at (effect_seen s t h a (i / 3) (i % 3) b c ∙ same.effects (i / 3) (i % 3) b c ∙ sym (effect_seen v t g a (i / 3) (i % 3) b c)))

  capacities_found : capacities_at s t ≡ capacities_at v t
  unfolding capacities_at
  capacities_found = λ i. record { n = same.capacities 0 (omega arith) i; y = same.capacities 1 (omega arith) i; z = same.capacities 2 (omega arith) i }

  pub extremes_found : (j : ℕ) → extremes_at s t j ≡ extremes_at v t j
  unfolding extremes_at
  extremes_found j = λ i. extremes_of (same.settings i) (λ k. get_or (same_kinds i) k 0) (λ k. effect_of (station_same i) k j)

  pub utilisation_found : utilisation_at s t ≡ utilisation_at v t
  unfolding utilisation_at
  utilisation_found = λ i. utilised_of (same.settings i) (λ k. get_or (same_kinds i) k 0) (effect_of (station_same i)) (capacities_found i)

  -- ---- edits
  pub kind_same : (k n : ℕ) → k < case_count → HoldsSameAt t (with_kind s k n) (with_kind v k n)
  unfolding with_kind
  kind_same k n l =
      record {
        settings = same.settings;
        kinds = λ k' b. ap (λ (x : List ℕ). get_or (set x k n) k' 0) same_kinds;
        effects = λ k' j b c. at k' j b c (eq_or_ne k' k);
        capacities = λ j c. kind_leaves_capacity s k n t j ∙ same.capacities j c ∙ sym (kind_leaves_capacity v k n t j);
      }
    where
      at : (k' j : ℕ) → k' < case_count → j < component_count → (k' ≡ k) ⊎ (k' ≡ k → ⊥) → effect_at (with_kind s k n) k' t j ≡ effect_at (with_kind v k n) k' t j
      at k' j b c (inl e) = rw e (effect_cleared s k n t j (well_formed h) l a c ∙ sym (effect_cleared v k n t j (well_formed g) l a c))
      at k' j b c (inr ne) = effect_kept s k n k' t j l b c ne ∙ same.effects k' j b c ∙ sym (effect_kept v k n k' t j l b c ne)

  -- effects that are stored at any station, the same ones at t
  pub effects_same : (k u : ℕ) (x y z x' y' z' : ℤ) → k < case_count → u < station_count → (u ≡ t → x ∷ y ∷ z ∷ [] ≡ x' ∷ y' ∷ z' ∷ []) →
      HoldsSameAt t (with_effects s k u x y z) (with_effects v k u x' y' z')
  effects_same k u x y z x' y' z' l m values =
      record {
        settings = effects_leave_settings s k u x y z ∙ same.settings ∙ sym (effects_leave_settings v k u x' y' z');
        kinds = λ k' b. effects_leave_kind s k u x y z k' ∙ same.kinds k' b ∙ sym (effects_leave_kind v k u x' y' z' k');
        effects = λ k' j b c. at k' j b c (eq_or_ne k' k) (eq_or_ne u t);
        capacities = λ j c. effects_leave_capacity s k u x y z t j ∙ same.capacities j c ∙ sym (effects_leave_capacity v k u x' y' z' t j);
      }
    where
      other : (k' j : ℕ) → k' < case_count → j < component_count → ((k' ≡ k) × (t ≡ u) → ⊥) → effect_at (with_effects s k u x y z) k' t j ≡ effect_at (with_effects v k u x' y' z') k' t j
      other k' j b c ne = effect_other s k u x y z k' t j l b c ne ∙ same.effects k' j b c ∙ sym (effect_other v k u x' y' z' k' t j l b c ne)

      at : (k' j : ℕ) → k' < case_count → j < component_count → (k' ≡ k) ⊎ (k' ≡ k → ⊥) → (u ≡ t) ⊎ (u ≡ t → ⊥) → effect_at (with_effects s k u x y z) k' t j ≡ effect_at (with_effects v k u x' y' z') k' t j
      at k' j b c (inr ne) w = other k' j b c (λ e. ne e.0)
      at k' j b c (inl e) (inr ne) = other k' j b c (λ w. ne (sym w.1))
      at k' j b c (inl e) (inl f) =
          rw (e, ← f) (effect_replaced s k u x y z j (well_formed h) l m c ∙ ap (λ (w : List ℤ). get_or w j (pos 0)) (values f) ∙ sym (effect_replaced v k u x' y' z' j (well_formed g) l m c))

  -- likewise capacities
  pub capacities_same : (u x y z x' y' z' : ℕ) → u < station_count → (u ≡ t → x ∷ y ∷ z ∷ [] ≡ x' ∷ y' ∷ z' ∷ []) →
      HoldsSameAt t (with_capacities s u x y z) (with_capacities v u x' y' z')
  capacities_same u x y z x' y' z' m values =
      record {
        settings = capacities_leave_settings s u x y z ∙ same.settings ∙ sym (capacities_leave_settings v u x' y' z');
        kinds = λ k b. capacities_leave_kind s u x y z k ∙ same.kinds k b ∙ sym (capacities_leave_kind v u x' y' z' k);
        effects = λ k j b c. capacities_leave_effect s u x y z k t j ∙ same.effects k j b c ∙ sym (capacities_leave_effect v u x' y' z' k t j);
        capacities = λ j c. at j c (eq_or_ne u t);
      }
    where
      at : (j : ℕ) → j < component_count → (u ≡ t) ⊎ (u ≡ t → ⊥) → capacity_at (with_capacities s u x y z) t j ≡ capacity_at (with_capacities v u x' y' z') t j
      at j c (inl f) =
          rw (← f) (capacity_replaced s u x y z j (well_formed h) m c ∙ ap (λ (w : List ℕ). get_or w j 0) (values f) ∙ sym (capacity_replaced v u x' y' z' j (well_formed g) m c))
      at j c (inr ne) =
          let ne' : t ≡ u → ⊥ = λ e. ne (sym e) in
          capacity_other s u x y z t j c ne' ∙ same.capacities j c ∙ sym (capacity_other v u x' y' z' t j c ne')

  pub settings_same : (f : Settings → Settings) → HoldsSameAt t (with_settings s (f s.settings)) (with_settings v (f v.settings))
  unfolding with_settings effect_at capacity_at
  settings_same f = record { settings = ap f same.settings; kinds = same.kinds; effects = same.effects; capacities = same.capacities }
