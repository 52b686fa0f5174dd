-- The law of the pair holds after any list of readings.
-- Assumes nothing.
use Prim.Native.Nat.{ℕ, ◌≤◌, ◌<◌}
use mathlib.Core.Path.{◌≡◌, sym, ap, ◌∙◌, subst}
use mathlib.Core.Logic.{⊎_elim}
use native.Mathlib.Omega.{arith}
use lib.IntN.{ℤ, pos, neg_ℤ, neg_ℤ-neg_ℤ}
use lib.ListN.{get_or-eq_default}
use Rattle.wire.proofs.Cases.{lt_or_ge}
use Rattle.standard.specs.declared.Settings.{Settings}
use Rattle.standard.specs.Combination.{case_count}
use Rattle.envelope.specs.Range.{effect_of, station_count, component_count}
use Rattle.envelope.specs.Envelope.{governing_of, extreme_in, extremes_of}
use Rattle.sheet.specs.declared.Sheet.{Sheet}
use Rattle.sheet.specs.Sheet.{kind_at}
use Rattle.sheet.specs.Looks.{station_effects, extremes_at}
use Rattle.sheet.specs.Range.{InRange}
use Rattle.sheet.proofs.Stations.{station_in_range, effect_seen}
use Rattle.demands.proofs.Readings.{readings_in_range}
use Rattle.demands.proofs.Demands.{look_answered}
use Rattle.pair.specs.Pair.{SignsTurned, Opposite, Pair, LawOfThePair}
use Rattle.pair.proofs.Turned.{turned_made}

-- the extremes of effects, and of the same with their signs turned
opposite_extremes : (s : Settings) (kind : ℕ → ℕ) (e : ℕ → ℤ) → Opposite (extremes_of s kind e) (extremes_of s kind (λ k. neg_ℤ (e k)))
unfolding extremes_of extreme_in
opposite_extremes s kind e =
    record {
      maximum = sym (neg_ℤ-neg_ℤ (governing_of s kind (λ k. neg_ℤ (e k))).value);
      minimum = ap (λ (x : ℕ → ℤ). neg_ℤ (governing_of s kind x).value) (λ i k. neg_ℤ-neg_ℤ (e k) i);
    }

module _ (s v : Sheet) (h : InRange s) (g : InRange v) (turned : SignsTurned s v) where
  same_kinds : kind_at v ≡ kind_at s
  same_kinds = λ i k. at k i
    where
      at : (k : ℕ) → kind_at v k ≡ kind_at s k
      at k =
          ⊎_elim (λ (a : k < case_count). turned.kinds k a)
          (λ (a : case_count ≤ k). get_or-eq_default v.kinds 0 (omega (arith, g.kinds_long)) ∙ sym (get_or-eq_default s.kinds 0 (omega (arith, h.kinds_long))))
          (lt_or_ge k case_count)

  -- a station has no effects past the last case
  none_past : (w : Sheet) (r : InRange w) (t j k : ℕ) → t < station_count → case_count ≤ k → effect_of (station_effects w t) k j ≡ pos 0
  none_past w r t j k a b = get_or-eq_default (station_effects w t) (pos 0) (omega (arith, (station_in_range w t r a).effects_long))

  turned_effects : (t j : ℕ) → t < station_count → j < component_count →
      ◌≡◌ {A = ℕ → ℤ} (λ k. effect_of (station_effects v t) k j) (λ k. neg_ℤ (effect_of (station_effects s t) k j))
  turned_effects t j a b = λ i k. at k i
    where
      at : (k : ℕ) → effect_of (station_effects v t) k j ≡ neg_ℤ (effect_of (station_effects s t) k j)
      at k =
          ⊎_elim (λ (c : k < case_count). effect_seen v t g a k j c b ∙ turned.effects k t j c a b ∙ ap neg_ℤ (sym (effect_seen s t h a k j c b)))
          (λ (c : case_count ≤ k). none_past v g t j k a c ∙ ap neg_ℤ (sym (none_past s h t j k a c)))
          (lt_or_ge k case_count)

  opposite_at : (t j : ℕ) → t < station_count → j < component_count → Opposite (extremes_at s t j) (extremes_at v t j)
  unfolding extremes_at
  opposite_at t j a b =
      let same : extremes_at v t j ≡ extremes_of s.settings (kind_at s) (λ k. neg_ℤ (effect_of (station_effects s t) k j)) =
      λ i. extremes_of (turned.settings i) (same_kinds i) (turned_effects t j a b i) in
      subst (Opposite (extremes_at s t j)) (sym same)
      (opposite_extremes s.settings (kind_at s) (λ k. effect_of (station_effects s t) k j))

  pub pair : Pair s v
  pair =
      record {
        extremes = opposite_at;
        answers = λ t j a b m n p q.
            let x = look_answered s h t j a b m p.rest p.room p.input p.read in
            let y = look_answered v g t j a b n q.rest q.room q.input q.read in
            record { former = extremes_at s t j; turned = extremes_at v t j; answered = (x.0, y.0); bytes = (x.1, y.1); opposite = opposite_at t j a b };
      }

pub law_of_the_pair : LawOfThePair
law_of_the_pair ms s r = (turned_made (readings_in_range r), λ ns v q turned. pair s v (readings_in_range r) (readings_in_range q) turned)
