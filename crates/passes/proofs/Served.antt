-- The sums of one pass serve both extremes, and those of four directions the eight patterns of signs.
-- Assumes nothing.
use Prim.Native.Nat.{ℕ, zero, suc, ◌<◌, ◌≤◌}
use native.Mathlib.Omega.{arith}
use mathlib.Core.Bool.{Bool, true, false, not}
use mathlib.Core.List.{List}
use mathlib.Core.Path.{◌≡◌, refl, sym, ap, ◌∙◌, subst}
use lib.IntN.{ℤ, neg_ℤ, ◌+ℤ◌, ◌*ℤ◌, nat_abs}
use Rattle.standard.specs.declared.Settings.{Settings}
use Rattle.standard.specs.declared.Capacities.{Capacities}
use Rattle.standard.specs.Kinds.{kind_count, fluid}
use Rattle.standard.specs.Combination.{bit}
use Rattle.optimum.specs.Row.{total_of, acts_together}
use Rattle.envelope.specs.declared.Best.{Best}
use Rattle.envelope.specs.declared.Weights.{Weights}
use Rattle.envelope.specs.declared.Sign.{Sign}
use Rattle.envelope.specs.Range.{component_count, effect_limit, effect_most, CapacitiesInRange}
use Rattle.envelope.specs.Places.{Places}
use Rattle.envelope.specs.Directions.{turned, signs_by}
use Rattle.envelope.specs.Envelope.{best_of, governing_of, weighed, pattern_of, pattern_best, higher_by, peak_of}
use Rattle.envelope.proofs.Patterns.{pattern_directed, pattern_opposed, pattern_in_range}
use Rattle.sums.specs.Sums.{total_count, SumsOf, Summed, AllTotalsOf, fluid_acts}
use Rattle.sums.proofs.Gathered.{summed}
use Rattle.sums.proofs.Totals.{total_adds, total_scales, total_negated}
use Rattle.directions.specs.Four.{directed, FourOf, eight_by, fluid_in}
use Rattle.directions.proofs.Sizes.{directed_most}
use Rattle.terms.proofs.Exchange.{value_is, negated_value_is, fluid_is, negated_fluid_is, sums_most, terms_in_range}
use Rattle.governing.specs.Ways.{ReadyBetween, toward_of, eight_of}
use Rattle.governing.proofs.Ranges.{ready_of}
use Rattle.passes.specs.Passes.{BothWays, ServesBoth, ServesPatterns, ComponentPass, PatternPass, ComponentReady, PatternsReady}

pub ready_between : (held : ℕ → ℕ → ℕ) (kind : ℕ → ℕ) (e : ℕ → ℤ) → ((k : ℕ) → kind k < kind_count) → ((k : ℕ) → nat_abs (e k) ≤ effect_most) → Summed held kind e →
    ReadyBetween held
ready_between held kind e below small h = record { held_range = sums_most held kind e below h small; terms_range = terms_in_range held kind e below h small }

pub serves_both : (held : ℕ → ℕ → ℕ) (kind : ℕ → ℕ) (e : ℕ → ℤ) → ((k : ℕ) → kind k < kind_count) → ((k : ℕ) → nat_abs (e k) ≤ effect_most) → Summed held kind e →
    ServesBoth held kind e
unfolding governing_of
serves_both held kind e below small h =
    record {
      ready = ready_of (ready_between held kind e below small h);
      governs = λ s. record {
        as_is = ap (best_of s) (λ i row. value_is held kind e below h s row i);
        turned = ap (best_of s) (λ i row. negated_value_is held kind e below h s row i);
      };
      tells_fluid = record { as_is = fluid_is held kind e below h; turned = negated_fluid_is held kind e below h };
    }

pub component_served : (held : ℕ → ℕ → ℕ) (totals : ℕ → ℤ) (places : List ℕ) (e : ℕ → ℤ) → ((k : ℕ) → nat_abs (e k) ≤ effect_most) → SumsOf held totals places e kind_count →
    ComponentPass held totals places e
component_served held totals places e small h =
    record { serves = λ kind below placed added. serves_both held kind e below small (summed held totals places kind e placed added h) }

pub component_ready : (held : ℕ → ℕ → ℕ) (totals : ℕ → ℤ) (places : List ℕ) (e : ℕ → ℤ) → ((k : ℕ) → nat_abs (e k) ≤ effect_most) → SumsOf held totals places e kind_count →
    ComponentReady held totals places e
component_ready held totals places e small h =
    record { ready = λ kind below placed added. ready_between held kind e below small (summed held totals places kind e placed added h) }

-- ---- the patterns
module _ (p : Capacities) (effect : ℕ → ℕ → ℤ) where
  abbrev by_pattern : ℕ → ℕ → ℤ
  by_pattern i = weighed (pattern_of p i) effect

  -- a pattern with its sign turned is the one with the opposite signs
  opposite_pattern : (i j : ℕ) (a b : Bool) → bit i 0 ≡ a → bit i 1 ≡ b → bit i 2 ≡ false → bit j 0 ≡ not a → bit j 1 ≡ not b → bit j 2 ≡ true →
      (λ k. neg_ℤ (by_pattern i k)) ≡ by_pattern j
  opposite_pattern i j a b i0 i1 i2 j0 j1 j2 =
      λ t k. (ap neg_ℤ (sym (pattern_directed p effect k i a b i0 i1 i2)) ∙ pattern_opposed p effect k j a b j0 j1 j2) t

  -- what sums say both ways of the first four patterns holds of the eight
  module _ {A : Type 0} (f : (ℕ → ℕ → ℕ) → Sign → A) (g : (ℕ → ℤ) → A) (held : ℕ → ℕ → ℕ → ℕ) (b : (d : ℕ) → d < 4 → BothWays f g (held d) (by_pattern d)) where
    pub eight : (i : ℕ) → i ≤ 7 → eight_by f held i ≡ g (by_pattern i)
    eight zero l = (b 0 (omega arith)).as_is
    eight (suc zero) l = (b 1 (omega arith)).as_is
    eight (suc (suc zero)) l = (b 2 (omega arith)).as_is
    eight (suc (suc (suc zero))) l = (b 3 (omega arith)).as_is
    eight (suc (suc (suc (suc zero)))) l = (b 3 (omega arith)).turned ∙ ap g (opposite_pattern 3 4 true true refl refl refl refl refl refl)
    eight (suc (suc (suc (suc (suc zero))))) l = (b 2 (omega arith)).turned ∙ ap g (opposite_pattern 2 5 false true refl refl refl refl refl refl)
    eight (suc (suc (suc (suc (suc (suc zero)))))) l = (b 1 (omega arith)).turned ∙ ap g (opposite_pattern 1 6 true false refl refl refl refl refl refl)
    eight (suc (suc (suc (suc (suc (suc (suc zero))))))) l = (b 0 (omega arith)).turned ∙ ap g (opposite_pattern 0 7 false false refl refl refl refl refl refl)
    eight (suc (suc (suc (suc (suc (suc (suc (suc i)))))))) l = absurd (omega arith)

peak_same : (b c : ℕ → Best) (n : ℕ) → ((i : ℕ) → i ≤ n → b i ≡ c i) → peak_of b n ≡ peak_of c n
unfolding peak_of
peak_same b c zero h = λ i. record { pattern = 0; best = h 0 (omega arith) i }
peak_same b c (suc n) h = λ i. higher_by (peak_same b c n (λ j l. h j (omega arith)) i) (suc n) (h (suc n) (omega arith) i)

module _ (held : ℕ → ℕ → ℕ → ℕ) (kind : ℕ → ℕ) (effect : ℕ → ℕ → ℤ) (p : Capacities) (h : ServesPatterns held kind effect p) where
  pub peak_served : (s : Settings) → peak_of (eight_of s held) 7 ≡ peak_of (pattern_best s kind effect p) 7
  peak_served s =
      peak_same (eight_of s held) (pattern_best s kind effect p) 7 (eight p effect (toward_of s) (governing_of s kind) held (λ d l. (h.along d l).governs s))

  pub fluid_served : (i : ℕ) → i ≤ 7 → fluid_in held i ≡ acts_together kind (weighed (pattern_of p i) effect) fluid
  fluid_served = eight p effect fluid_acts (λ x. acts_together kind x fluid) held (λ d l. (h.along d l).tells_fluid)

-- ---- the totals in a direction
module _ (totals : ℕ → ℕ → ℤ) (kind : ℕ → ℕ) (effect : ℕ → ℕ → ℤ) (h : AllTotalsOf totals kind effect) (w : Weights) (j : ℕ) (l : j < total_count) where
  weighed_total : (a : ℤ) (c : ℕ) → c < component_count → a *ℤ totals j c ≡ total_of kind (λ k. a *ℤ effect k c) (suc j)
  weighed_total a c b = ap (λ (x : ℤ). a *ℤ x) ((h.on c b).each j l) ∙ sym (total_scales kind (suc j) a (λ k. effect k c))

  turned_total : (t : Bool) (g : ℕ → ℤ) → turned t (total_of kind g (suc j)) ≡ total_of kind (λ k. turned t (g k)) (suc j)
  turned_total true g = sym (total_negated kind (suc j) g)
  turned_total false g = refl

  pub direction_total : (p q : Bool) →
      signs_by p q (w.n *ℤ totals j 0) (w.y *ℤ totals j 1) (w.z *ℤ totals j 2)
      ≡ total_of kind (λ k. signs_by p q (w.n *ℤ effect k 0) (w.y *ℤ effect k 1) (w.z *ℤ effect k 2)) (suc j)
  direction_total p q =
      let n : ℕ → ℤ = λ k. turned p (w.n *ℤ effect k 0) in
      let y : ℕ → ℤ = λ k. turned q (w.y *ℤ effect k 1) in
      let z : ℕ → ℤ = λ k. w.z *ℤ effect k 2 in
      (λ i. (ap (turned p) (weighed_total w.n 0 (omega arith)) ∙ turned_total p (λ k. w.n *ℤ effect k 0)) i
      +ℤ ((ap (turned q) (weighed_total w.y 1 (omega arith)) ∙ turned_total q (λ k. w.y *ℤ effect k 1)) i +ℤ weighed_total w.z 2 (omega arith) i))
      ∙ (λ i. total_of kind n (suc j) +ℤ sym (total_adds kind (suc j) y z) i)
      ∙ sym (total_adds kind (suc j) n (λ k. y k +ℤ z k))

-- ---- the four directions
module _ (totals : ℕ → ℕ → ℤ) (effect : ℕ → ℕ → ℤ) (p : Capacities) where
  -- a direction is a pattern
  is_pattern : (d : ℕ) → d < 4 → (k : ℕ) → directed (pattern_of p 0) effect d k ≡ weighed (pattern_of p d) effect k
  is_pattern zero l k = pattern_directed p effect k 0 false false refl refl refl
  is_pattern (suc zero) l k = pattern_directed p effect k 1 true false refl refl refl
  is_pattern (suc (suc zero)) l k = pattern_directed p effect k 2 false true refl refl refl
  is_pattern (suc (suc (suc zero))) l k = pattern_directed p effect k 3 true true refl refl refl
  is_pattern (suc (suc (suc (suc d)))) l k = absurd (omega arith)

  -- and its totals are those of its effects
  total_along : (kind : ℕ → ℕ) → AllTotalsOf totals kind effect → (d : ℕ) → d < 4 → (j : ℕ) → j < total_count →
      directed (pattern_of p 0) totals d j ≡ total_of kind (directed (pattern_of p 0) effect d) (suc j)
  total_along kind h zero l j m = direction_total totals kind effect h (pattern_of p 0) j m false false
  total_along kind h (suc zero) l j m = direction_total totals kind effect h (pattern_of p 0) j m true false
  total_along kind h (suc (suc zero)) l j m = direction_total totals kind effect h (pattern_of p 0) j m false true
  total_along kind h (suc (suc (suc zero))) l j m = direction_total totals kind effect h (pattern_of p 0) j m true true
  total_along kind h (suc (suc (suc (suc d)))) l j m = absurd (omega arith)

  pub patterns_served : (held : ℕ → ℕ → ℕ → ℕ) (places : List ℕ) → ((k c : ℕ) → nat_abs (effect k c) ≤ effect_limit) → CapacitiesInRange p →
      FourOf held (directed (pattern_of p 0) totals) places (directed (pattern_of p 0) effect) kind_count → PatternPass held totals places effect p
  patterns_served held places small range h = record { serves = λ kind below placed added. record { along = served kind below placed added } }
    where
      served : (kind : ℕ → ℕ) → ((k : ℕ) → kind k < kind_count) → Places places kind → AllTotalsOf totals kind effect → (d : ℕ) → d < 4 →
          ServesBoth (held d) kind (weighed (pattern_of p d) effect)
      served kind below placed added d l =
          let along = directed (pattern_of p 0) effect d in
          let most = directed_most (pattern_of p 0) (pattern_in_range p 0 range) effect small d in
          subst (ServesBoth (held d) kind) (λ t k. is_pattern d l k t)
          ((component_served (held d) (directed (pattern_of p 0) totals d) places along most (h.along d l)).serves kind below placed
          (record { each = total_along kind added d l }))

  pub patterns_ready : (held : ℕ → ℕ → ℕ → ℕ) (places : List ℕ) → ((k c : ℕ) → nat_abs (effect k c) ≤ effect_limit) → CapacitiesInRange p →
      FourOf held (directed (pattern_of p 0) totals) places (directed (pattern_of p 0) effect) kind_count → PatternsReady held totals places effect
  patterns_ready held places small range h =
      record {
        along = λ kind below placed added d l.
            let most = directed_most (pattern_of p 0) (pattern_in_range p 0 range) effect small d in
            (component_ready (held d) (directed (pattern_of p 0) totals d) places (directed (pattern_of p 0) effect d) most (h.along d l)).ready kind below placed
            (record { each = total_along kind added d l });
      }
