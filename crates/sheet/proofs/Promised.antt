-- The looks at a sheet in range govern: what is computed from a station's part of the effects is so of the accessors' effects.
-- Assumes nothing.
use Prim.Native.Nat.{ℕ, ◌≤◌, ◌<◌}
use mathlib.Core.Path.{◌≡◌, refl, sym, ap, ◌∙◌, subst}
use mathlib.Core.Logic.{⊎_elim}
use native.Mathlib.Omega.{arith}
use lib.ListN.{get_or-eq_default}
use lib.IntN.{ℤ, pos, ◌*ℤ◌}
use lib.Signed.{◌≤ℤ◌}
use Rattle.integers.proofs.Linear.{sum_agrees}
use Rattle.wire.proofs.Cases.{eq_or_ne}
use Rattle.standard.specs.declared.Settings.{Settings}
use Rattle.standard.specs.declared.Capacities.{Capacities}
use Rattle.standard.specs.Combination.{Combination, case_count, taken, factored_effect, numerator_of, utilisation_of, denominator_of}
use Rattle.standard.specs.Governing.{Reaches, Maximum, Minimum, Utilisation}
use Rattle.envelope.specs.declared.Extremes as extremes
use Rattle.envelope.specs.declared.Utilised.{Utilised}
use Rattle.envelope.specs.Range.{effect_of}
use Rattle.station.specs.Promises.{ExtremesGovern, UtilisationGoverns}
use Rattle.station.proofs.Promised.{extremes_govern, utilisation_governs}
use Rattle.refusals.specs.Refusals.{due_extremes}
use Rattle.refusals.proofs.Fits.{extremes_range, utilisation_range}
use Rattle.sheet.specs.declared.Sheet.{Sheet}
use Rattle.sheet.specs.declared.Answer.{Answer}
use Rattle.sheet.specs.declared.Answer.TheVariants as answer
use Rattle.sheet.specs.Sheet.{kind_at, effect_at, capacity_at}
use Rattle.sheet.specs.Looks.{station_effects, capacities_at, extremes_at, utilisation_at, due_utilisation, unless_due, ExtremesPromised, UtilisationPromised}
use Rattle.sheet.specs.Range.{InRange}
use Rattle.sheet.proofs.Refusals.{answered_none, answered_due}
use Rattle.sheet.proofs.Stations.{effect_seen}

-- ---- a factored effect depends on the effects of the cases alone
module _ (s : Settings) (kind : ℕ → ℕ) where
  effect_agrees : (c : Combination) (f g : ℕ → ℤ) → ((k : ℕ) → k < case_count → f k ≡ g k) → factored_effect s kind c f ≡ factored_effect s kind c g
  unfolding factored_effect
  effect_agrees c f g e = sum_agrees case_count _ _ (λ k l. ap (λ (z : ℤ). pos (taken s kind c k) *ℤ z) (e k l))

  module _ (f g : ℕ → ℤ) (e : (k : ℕ) → k < case_count → f k ≡ g k) (c : Combination) (v : ℤ) where
    reaches_agrees : Reaches s kind f c v → Reaches s kind g c v
    reaches_agrees r = record { admissible = r.admissible; exact = sym (effect_agrees c f g e) ∙ r.exact }

    maximum_agrees : Maximum s kind f c v → Maximum s kind g c v
    maximum_agrees m = record {
      none_above = λ d ok. subst (λ (z : ℤ). z ≤ℤ v) (effect_agrees d f g e) (m.none_above d ok);
      named = reaches_agrees m.named;
    }

    minimum_agrees : Minimum s kind f c v → Minimum s kind g c v
    minimum_agrees m = record {
      none_below = λ d ok. subst (λ (z : ℤ). v ≤ℤ z) (effect_agrees d f g e) (m.none_below d ok);
      named = reaches_agrees m.named;
    }

  module _ (f g : ℕ → ℕ → ℤ) (e : (k j : ℕ) → k < case_count → j < 3 → f k j ≡ g k j) (p : Capacities) where
    used_agrees : (c : Combination) → utilisation_of s kind f p c ≡ utilisation_of s kind g p c
    used_agrees c =
        let at : (j : ℕ) → j < 3 → factored_effect s kind c (λ k. f k j) ≡ factored_effect s kind c (λ k. g k j) =
        λ j l. effect_agrees c (λ k. f k j) (λ k. g k j) (λ k m. e k j m l) in
        λ i. numerator_of p (at 0 (omega arith) i) (at 1 (omega arith) i) (at 2 (omega arith) i)

    utilisation_agrees : {c : Combination} {n d : ℕ} {pass : _} → Utilisation s kind f p c n d pass → Utilisation s kind g p c n d pass
    utilisation_agrees {c} {n} u = record {
      none_above = λ x ok. subst (λ (a : ℕ). a ≤ n) (used_agrees x) (u.none_above x ok);
      admissible = u.admissible;
      exact = sym (used_agrees c) ∙ u.exact;
      over = u.over;
      verdict = (
        λ t x ok. subst (λ (a : ℕ). a ≤ denominator_of p) (used_agrees x) (u.verdict.0 t x ok),
        λ all. u.verdict.1 (λ x ok. subst (λ (a : ℕ). a ≤ denominator_of p) (sym (used_agrees x)) (all x ok)),
      );
    }

-- ---- an answer tells what it holds
same_extremes : (x y : extremes.Extremes) → answer.Extremes x ≡ answer.Extremes y → x ≡ y
same_extremes x y e = cc

not_extremes : (n : ℕ) (x : extremes.Extremes) → answer.Refused n ≡ answer.Extremes x → ⊥
not_extremes n x e = let z : ◌≡◌ {A = ℕ} 0 1 = cc in omega arith

same_utilisation : (x y : Utilised) → answer.Utilisation x ≡ answer.Utilisation y → x ≡ y
same_utilisation x y e = cc

not_utilisation : (n : ℕ) (x : Utilised) → answer.Refused n ≡ answer.Utilisation x → ⊥
not_utilisation n x e = let z : ◌≡◌ {A = ℕ} 0 1 = cc in omega arith

-- where a look answers so, no refusal is due, and what it holds is what was found
found : {X : Type 0} (made : X → Answer) → ((x y : X) → made x ≡ made y → x ≡ y) → ((n : ℕ) (x : X) → answer.Refused n ≡ made x → ⊥) →
    (due : ℕ) (is x : X) {r : Answer} → r ≡ unless_due due (made is) → r ≡ made x → (due ≡ 0) × (is ≡ x)
found made same not due is x e q = ⊎_elim
    (λ (z : due ≡ 0). (z, same is x (answered_none due (made is) z ∙ (sym e ∙ q))))
    (λ (n : due ≡ 0 → ⊥). absurd (not due x (answered_due due (made is) refl n ∙ (sym e ∙ q))))
    (eq_or_ne due 0)

-- ---- a sheet in range
module _ (w : Sheet) (h : InRange w) where
  none_past : (k : ℕ) → case_count ≤ k → kind_at w k ≡ 0
  none_past k l = get_or-eq_default w.kinds 0 (omega (arith, h.kinds_long))

  pub extremes_govern_at : (t j : ℕ) → t < 16 → j < 3 → ExtremesGovern w.settings (kind_at w) (λ k. effect_at w k t j) (extremes_at w t j)
  unfolding extremes_at
  extremes_govern_at t j a b =
      let g = extremes_govern w.settings (kind_at w) none_past (λ k. effect_of (station_effects w t) k j) (extremes_at w t j) refl h.settings in
      let same : (k : ℕ) → k < case_count → effect_of (station_effects w t) k j ≡ effect_at w k t j = λ k l. effect_seen w t h a k j l b in
      record {
        maximum = maximum_agrees w.settings (kind_at w) _ _ same _ _ g.maximum;
        minimum = minimum_agrees w.settings (kind_at w) _ _ same _ _ g.minimum;
      }

  pub utilisation_governs_at : (t : ℕ) → t < 16 → UtilisationGoverns w.settings (kind_at w) (λ k j. effect_at w k t j) (capacities_at w t) (utilisation_at w t)
  unfolding utilisation_at
  utilisation_governs_at t a =
      let g = utilisation_governs w.settings (kind_at w) none_past (effect_of (station_effects w t)) (capacities_at w t) (utilisation_at w t) refl h.settings in
      record {
        greatest = utilisation_agrees w.settings (kind_at w) (effect_of (station_effects w t)) (λ k j. effect_at w k t j)
            (λ k j l b. effect_seen w t h a k j l b) (capacities_at w t) g.greatest;
      }

  -- the answers of the looks
  pub extremes_promised : (t j : ℕ) (r : Answer) → r ≡ unless_due (due_extremes t j) (answer.Extremes (extremes_at w t j)) → ExtremesPromised w t j r
  extremes_promised t j r e = record {
    govern = λ x q.
        let f = found answer.Extremes same_extremes not_extremes (due_extremes t j) (extremes_at w t j) x e q in
        let range = extremes_range t j f.0 in
        subst (ExtremesGovern w.settings (kind_at w) (λ k. effect_at w k t j)) f.1 (extremes_govern_at t j range.0 range.1);
  }

  pub utilisation_promised : (t : ℕ) (r : Answer) → r ≡ unless_due (due_utilisation w t) (answer.Utilisation (utilisation_at w t)) → UtilisationPromised w t r
  utilisation_promised t r e = record {
    governs = λ x q.
        let f = found answer.Utilisation same_utilisation not_utilisation (due_utilisation w t) (utilisation_at w t) x e q in
        subst (UtilisationGoverns w.settings (kind_at w) (λ k j. effect_at w k t j) (capacities_at w t)) f.1
        (utilisation_governs_at t (utilisation_range (capacity_at w t 0) t f.0).0);
  }
