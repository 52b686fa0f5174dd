-- The total of the cases of a kind is linear in their effects, and in range.
-- Assumes nothing.
use Prim.Native.Nat.{ℕ, zero, suc, ◌+◌, ◌*◌, ◌<◌, ◌≤◌}
use native.Mathlib.Omega.{arith}
use mathlib.Core.List.{List}
use mathlib.Core.Path.{◌≡◌, sym, ap, ◌∙◌}
use lib.Dec.{eqb}
use lib.IntN.{ℤ, pos, negsuc, neg_ℤ, ◌+ℤ◌, ◌*ℤ◌, nat_abs}
use lib.ListN.{length, get_or, get_or-eq_default}
use Rattle.integers.proofs.Linear.{minus_one, where_adds, where_scales, where_most}
use Rattle.integers.proofs.Sums.{ltb_cases}
use Rattle.standard.specs.Combination.{case_count}
use Rattle.optimum.specs.Row.{total_of}
use Rattle.envelope.specs.declared.StationSums.{StationSums}
use Rattle.envelope.specs.Range.{kind_of, effect_of, total_at, component_count, effect_limit, total_most, EffectsInRange, TotalsInRange}
use Rattle.sums.specs.Sums.{total_count, TotalsHeld}

module _ (kind : ℕ → ℕ) (j : ℕ) where
  pub total_adds : (g h : ℕ → ℤ) → total_of kind (λ k. g k +ℤ h k) j ≡ total_of kind g j +ℤ total_of kind h j
  unfolding total_of
  total_adds g h = where_adds case_count (λ k. eqb (kind k) j) g h

  pub total_scales : (a : ℤ) (g : ℕ → ℤ) → total_of kind (λ k. a *ℤ g k) j ≡ a *ℤ total_of kind g j
  unfolding total_of
  total_scales a g = where_scales case_count (λ k. eqb (kind k) j) a g

  pub total_negated : (g : ℕ → ℤ) → total_of kind (λ k. neg_ℤ (g k)) j ≡ neg_ℤ (total_of kind g j)
  total_negated g =
      ap (λ (f : ℕ → ℤ). total_of kind f j) (λ i k. sym (minus_one (g k)) i) ∙ total_scales (negsuc 0) g ∙ minus_one (total_of kind g j)

-- a total of effects in range is in its range
total_size : (kind : ℕ → ℕ) (e : ℕ → ℤ) (j : ℕ) → ((k : ℕ) → nat_abs (e k) ≤ effect_limit) → nat_abs (total_of kind e j) ≤ total_most
unfolding total_of
total_size kind e j small = where_most case_count (λ k. eqb (kind k) j) effect_limit e (λ k _. small k)

pub held_in_range : (totals : StationSums) (kinds : List ℕ) (effects : List ℤ) → TotalsHeld totals kinds effects → EffectsInRange effects → TotalsInRange totals
held_in_range totals kinds effects h r = record { range = range }
  where
    inside : (which j : ℕ) → which < total_count → j < component_count → nat_abs (total_at totals which j) ≤ total_most
    inside which j w l = rw ((h.are.on j l).each which w) (total_size (kind_of kinds) (λ k. effect_of effects k j) (suc which) (λ k. r.range (k * 3 + j)))

    past : (sums : List ℤ) (j : ℕ) → length sums ≡ component_count → component_count ≤ j → nat_abs (get_or sums j (pos 0)) ≤ total_most
    past sums j long l = let e : get_or sums j (pos 0) ≡ pos 0 = get_or-eq_default sums (pos 0) (omega (arith, long)) in rw e (omega arith)

    range : (which j : ℕ) → nat_abs (total_at totals which j) ≤ total_most
    range zero j = ltb_cases j 3 (λ _. nat_abs (get_or totals.dead j (pos 0)) ≤ total_most) (inside 0 j (omega arith)) (past totals.dead j h.dead_long)
    range (suc zero) j = ltb_cases j 3 (λ _. nat_abs (get_or totals.fluid j (pos 0)) ≤ total_most) (inside 1 j (omega arith)) (past totals.fluid j h.fluid_long)
    range (suc (suc which)) j = omega arith
