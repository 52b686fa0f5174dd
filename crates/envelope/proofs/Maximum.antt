-- The extremes are the extremes over all admissible combinations, and name combinations that reach them.
-- Assumes nothing.
use Prim.Native.Nat.{ℕ, ◌≤◌}
use native.Mathlib.Omega.{arith}
use mathlib.Core.Path.{◌≡◌, refl, sym, ap, ◌∙◌, subst}
use mathlib.Core.Bool.{false}
use lib.IntN.{ℤ, pos, negsuc, neg_ℤ, ◌+ℤ◌, ◌*ℤ◌, neg_ℤ-neg_ℤ}
use lib.Signed.{◌≤ℤ◌}
use Rattle.integers.specs.Sums.{mask_of, sumℤ}
use Rattle.integers.proofs.Signs.{le_in, le_out, ≤_trans, neg_up, neg_down}
use Rattle.integers.proofs.Linear.{left_commutes, distributes, minus_one, sum_adds, sum_scales}
use Rattle.integers.proofs.Masks.{bit_of_mask}
use Rattle.standard.specs.declared.Settings.{Settings}
use Rattle.standard.specs.Range.{SettingsInRange}
use Rattle.standard.specs.Rows.{factor_of}
use Rattle.standard.specs.Combination.{Combination, taken, factored_effect, case_count, named}
use Rattle.standard.specs.Governing.{Reaches, Maximum, Minimum}
use Rattle.standard.specs.Kinds.{class_of}
use Rattle.standard.proofs.Facts.{unknown_none}
use Rattle.optimum.specs.Row.{best_combination, row_maximum, acts_in, low_in}
use Rattle.optimum.proofs.RowBound.{row_bound}
use Rattle.optimum.proofs.RowReached.{row_reached}
use Rattle.envelope.specs.declared.Best.{Best}
use Rattle.envelope.specs.declared.Extreme.{Extreme}
use Rattle.envelope.specs.declared.Extremes.{Extremes}
use Rattle.envelope.specs.declared.Weights.{Weights}
use Rattle.envelope.specs.Envelope.{governing_of, extreme_in, extreme_of, negated_of, extremes_of, weighed}
use Rattle.envelope.proofs.Rows.{BestOpen, best_open}

-- an effect on every case, added or scaled, is so in the factored effect
module _ (s : Settings) (kind : ℕ → ℕ) (c : Combination) where
  effect_adds : (g h : ℕ → ℤ) → factored_effect s kind c (λ k. g k +ℤ h k) ≡ factored_effect s kind c g +ℤ factored_effect s kind c h
  unfolding factored_effect
  effect_adds g h =
      ap (sumℤ case_count) (λ i k. distributes (pos (taken s kind c k)) (g k) (h k) i)
      ∙ sum_adds case_count (λ k. pos (taken s kind c k) *ℤ g k) (λ k. pos (taken s kind c k) *ℤ h k)

  effect_scales : (a : ℤ) (g : ℕ → ℤ) → factored_effect s kind c (λ k. a *ℤ g k) ≡ a *ℤ factored_effect s kind c g
  unfolding factored_effect
  effect_scales a g =
      ap (sumℤ case_count) (λ i k. left_commutes (pos (taken s kind c k)) a (g k) i)
      ∙ sum_scales case_count a (λ k. pos (taken s kind c k) *ℤ g k)

  pub effect_weighed : (w : Weights) (effect : ℕ → ℕ → ℤ) → factored_effect s kind c (weighed w effect)
      ≡ w.n *ℤ factored_effect s kind c (λ k. effect k 0) +ℤ w.y *ℤ factored_effect s kind c (λ k. effect k 1) +ℤ w.z *ℤ factored_effect s kind c (λ k. effect k 2)
  effect_weighed w effect =
      effect_adds (λ k. w.n *ℤ effect k 0 +ℤ w.y *ℤ effect k 1) (λ k. w.z *ℤ effect k 2)
      ∙ (λ i. effect_adds (λ k. w.n *ℤ effect k 0) (λ k. w.y *ℤ effect k 1) i +ℤ effect_scales w.z (λ k. effect k 2) i)
      ∙ (λ i. effect_scales w.n (λ k. effect k 0) i +ℤ effect_scales w.y (λ k. effect k 1) i +ℤ w.z *ℤ factored_effect s kind c (λ k. effect k 2))

  effect_negates : (e : ℕ → ℤ) → factored_effect s kind c (λ k. neg_ℤ (e k)) ≡ neg_ℤ (factored_effect s kind c e)
  effect_negates e =
      ap (factored_effect s kind c) (λ i k. sym (minus_one (e k)) i)
      ∙ effect_scales (negsuc 0) e ∙ minus_one (factored_effect s kind c e)

-- the combination that the masks name is the best one of its row
module _ (s : Settings) (r : ℕ) (kind : ℕ → ℕ) (e : ℕ → ℤ) (empty : (k : ℕ) → case_count ≤ k → kind k ≡ 0) where
  no_factor : (k : ℕ) → case_count ≤ k → factor_of s r (kind k) ≡ 0
  unfolding class_of
  no_factor k l = ap (factor_of s r) (empty k l) ∙ unknown_none s r 0 refl

  none_acts : (k : ℕ) → case_count ≤ k → acts_in s r kind e k ≡ false
  unfolding acts_in
  none_acts k l = rw (no_factor k l)

  none_low : (k : ℕ) → case_count ≤ k → low_in s r kind e k ≡ false
  unfolding low_in
  none_low k l = rw (no_factor k l)

  named_best : best_combination s r kind e ≡ named r (mask_of case_count (acts_in s r kind e)) (mask_of case_count (low_in s r kind e))
  named_best = λ i. record { row = r; acting = λ k. sym (bit_of_mask case_count (acts_in s r kind e) none_acts k) i; low = λ k. sym (bit_of_mask case_count (low_in s r kind e) none_low k) i }

abbrev pub named_by : Extreme → Combination
named_by x = named x.row x.acting x.low

module _ (s : Settings) (kind : ℕ → ℕ) (range : SettingsInRange s) (empty : (k : ℕ) → case_count ≤ k → kind k ≡ 0) where
  pub extreme_maximum : (e : ℕ → ℤ) → Maximum s kind e (named_by (extreme_of s kind e)) (extreme_of s kind e).value
  unfolding governing_of extreme_in
  extreme_maximum e =
      let b : Best = governing_of s kind e in
      let o : BestOpen s (λ r. row_maximum s r kind e) b = best_open s (λ r. row_maximum s r kind e) range in
      record {
        none_above = λ d ok. ≤_trans (row_bound s kind e d ok) (o.none_above d.row ok.open_row);
        named = subst (λ (v : ℤ). Reaches s kind e (named_by (extreme_of s kind e)) v) (sym o.value)
            (subst (λ (c : Combination). Reaches s kind e c (row_maximum s b.row kind e)) (named_best s b.row kind e empty)
            (row_reached s b.row kind e o.open_row));
      }

  pub extreme_minimum : (e : ℕ → ℤ) → let x : Extreme = negated_of (extreme_of s kind (λ k. neg_ℤ (e k))) in Minimum s kind e (named_by x) x.value
  extreme_minimum e =
      let x : Extreme = extreme_of s kind (λ k. neg_ℤ (e k)) in
      let h : Maximum s kind (λ k. neg_ℤ (e k)) (named_by x) x.value = extreme_maximum (λ k. neg_ℤ (e k)) in
      record {
        none_below = λ d ok. flip (factored_effect s kind d e) x.value (subst (λ (v : ℤ). v ≤ℤ x.value) (effect_negates s kind d e) (h.none_above d ok));
        named = record {
          admissible = h.named.admissible;
          exact = sym (neg_ℤ-neg_ℤ (factored_effect s kind (named_by x) e)) ∙ ap neg_ℤ (sym (effect_negates s kind (named_by x) e) ∙ h.named.exact);
        };
      }
    where
      flip : (a v : ℤ) → neg_ℤ a ≤ℤ v → neg_ℤ v ≤ℤ a
      flip a v l = le_in (neg_ℤ v) a (omega (arith, le_out (neg_ℤ a) v l, neg_up a, neg_down a, neg_up v, neg_down v))

  -- both of them, of what `extremes_of` gives
  pub extremes_governing : (e : ℕ → ℤ) → let x : Extremes = extremes_of s kind e in
      Maximum s kind e (named_by x.maximum) x.maximum.value × Minimum s kind e (named_by x.minimum) x.minimum.value
  unfolding extremes_of
  extremes_governing e = (extreme_maximum e, extreme_minimum e)
