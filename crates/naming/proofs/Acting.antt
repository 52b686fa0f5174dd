-- The acting cases are those that all act, those that act together where their total is above zero, those of the subsets whose effect
-- is, and the lead of each group.
-- Assumes nothing.
use Prim.Native.Nat.{ℕ, zero, suc, ◌+◌, ◌*◌, ◌<◌, ◌^◌}
use native.Mathlib.Omega.{arith}
use mathlib.Core.Bool.{Bool, true, false, ◌&&◌}
use mathlib.Core.Path.{◌≡◌, refl, sym, ◌∙◌}
use borrow.Author.Tests.{lt-ltb}
use lib.Dec.{eqb, ltb}
use lib.IntN.{ℤ}
use Rattle.integers.specs.Sums.{when, sum, most, most_at, mask_of, up}
use Rattle.integers.proofs.Sums.{eqb_cases, ltb_cases, sum_same, sum_none, sum_only, sum_plus, sum_swap, most_ge, most_at_lem}
use Rattle.standard.specs.declared.Settings.{Settings}
use Rattle.standard.specs.declared.Class.{Class}
use Rattle.standard.specs.declared.Class.TheVariants.{Always, Together, Subset, OneOf, Unknown}
use Rattle.standard.specs.Kinds.{class_of, group_count}
use Rattle.standard.specs.Rows.{factor_of}
use Rattle.standard.specs.Combination.{case_count}
use Rattle.standard.proofs.Facts.{group_below}
use Rattle.optimum.specs.Row.{group_by, is_together, group_of, worth_of, leader_of, total_of, acts_by, acts_in}
use Rattle.naming.specs.Sets.{lead_bit}

abbrev pub is_always : Class → Bool
is_always Always = true
is_always Together = false
is_always Subset = false
is_always (OneOf g) = false
is_always Unknown = false

abbrev pub is_subset : Class → Bool
is_subset Always = false
is_subset Together = false
is_subset Subset = true
is_subset (OneOf g) = false
is_subset Unknown = false

-- a case of a group that adds nothing does not act, and one that adds something and leads does
adds_none : (own lead : Bool) (f u x : ℕ) → when own (f * u) ≡ 0 → when (own && (ltb 0 f && (lead && ltb 0 u))) x ≡ 0
adds_none false lead f u x e = refl
adds_none true lead zero u x e = refl
adds_none true lead (suc f) zero x e = off (ltb 0 (suc f)) lead
  where
    off : (t l : Bool) → when (t && (l && false)) x ≡ 0
    off true true = refl
    off true false = refl
    off false l = refl
adds_none true lead (suc f) (suc u) x e = absurd (omega arith)

adds_some : (own : Bool) (f u x : ℕ) → 0 < when own (f * u) → when (own && (ltb 0 f && (true && ltb 0 u))) x ≡ x
adds_some false f u x h = absurd (omega arith)
adds_some true zero u x h = absurd (omega arith)
adds_some true (suc f) zero x h = absurd (omega arith)
adds_some true (suc f) (suc u) x h = rw (lt-ltb 0 (suc f) (omega arith), lt-ltb 0 (suc u) (omega arith))

not_lead : (own t p : Bool) (x : ℕ) → when (own && (t && (false && p))) x ≡ 0
not_lead false t p x = refl
not_lead true true p x = refl
not_lead true false p x = refl

and_true : (t : Bool) (x : ℕ) → when (t && true) x ≡ when t x
and_true true x = refl
and_true false x = refl

and_false : (t : Bool) (x : ℕ) → when (t && false) x ≡ 0
and_false true x = refl
and_false false x = refl

-- by class: by itself, or as the lead of its group
module _ (f positive joint : Bool) (lead : ℕ → ℕ) (k x : ℕ) where
  abbrev led : Class → ℕ → ℕ
  led q g = when (eqb (group_by q) g && (f && (eqb (lead g) k && positive))) x

  parted : (q : Class) → ((g : ℕ) → q ≡ OneOf g → g < group_count) →
      when (f && acts_by q positive (eqb (lead (group_by q)) k) joint) x
      ≡ when (is_always q && f) x + when ((is_together q && f) && joint) x + when ((is_subset q && f) && positive) x + sum group_count (led q)
  unfolding sum
  parted Always h = omega (arith, and_true f x)
  parted Together h = omega arith
  parted Subset h = omega arith
  parted (OneOf g) h =
      let l : g < group_count = h g refl in
      omega (
        arith,
        sum_only group_count g (led (OneOf g)) l
            (λ j ne. eqb_cases g j (λ t. when (t && (f && (eqb (lead j) k && positive))) x ≡ 0) (λ e. absurd (ne (sym e))) (λ _. refl)),
        eqb_cases g g (λ t. when (t && (f && (eqb (lead g) k && positive))) x ≡ when (f && (eqb (lead g) k && positive)) x) (λ _. refl) (λ ne. absurd (ne refl)),
      )
  parted Unknown h = omega (arith, and_false f x)

-- whether case k has a factor
abbrev pub factored : Settings → ℕ → (ℕ → ℕ) → ℕ → Bool
factored s row kind k = ltb 0 (factor_of s row (kind k))

module _ (s : Settings) (row : ℕ) (kind : ℕ → ℕ) (x : ℕ → ℤ) where
  -- the cases that all act, those that act together and those that act by themselves
  abbrev always : ℕ → Bool
  always k = is_always (class_of (kind k)) && factored s row kind k

  abbrev joint : ℕ → Bool
  joint k = ltb 0 (up (total_of kind x (kind k)))

  abbrev jointly : ℕ → Bool
  jointly k = (is_together (class_of (kind k)) && factored s row kind k) && joint k

  abbrev positive : ℕ → Bool
  positive k = (is_subset (class_of (kind k)) && factored s row kind k) && ltb 0 (up (x k))

  -- whether case k is of group g, and what it adds for the group
  abbrev own : ℕ → ℕ → Bool
  own g k = eqb (group_of (kind k)) g

  abbrev adds : ℕ → ℕ → ℕ
  adds g = worth_of s row kind x g

  abbrev leading : ℕ → ℕ → ℕ
  leading g k = when (own g k && (factored s row kind k && (eqb (leader_of s row kind x g) k && ltb 0 (up (x k))))) (2 ^ k)

  each : (k : ℕ) → when (acts_in s row kind x k) (2 ^ k) ≡ when (always k) (2 ^ k) + when (jointly k) (2 ^ k) + when (positive k) (2 ^ k) + sum group_count (λ g. leading g k)
  unfolding acts_in group_of
  each k = parted (factored s row kind k) (ltb 0 (up (x k))) (joint k) (leader_of s row kind x) k (2 ^ k) (class_of (kind k)) (λ g q. group_below (kind k) g q)

  -- the lead of a group, as a bit
  one_lead : (g : ℕ) → sum case_count (leading g) ≡ lead_bit case_count (adds g)
  unfolding lead_bit
  one_lead g =
      ltb_cases 0 (most case_count (adds g)) (λ t. sum case_count (leading g) ≡ when t (2 ^ most_at case_count (adds g)))
      (λ h. let m : (most_at case_count (adds g) < case_count) × (adds g (most_at case_count (adds g)) ≡ most case_count (adds g)) = most_at_lem case_count (adds g) h in
      sum_only case_count (most_at case_count (adds g)) (leading g) m.0
      (λ k ne. eqb_cases (most_at case_count (adds g)) k (λ t. when (own g k && (factored s row kind k && (t && ltb 0 (up (x k))))) (2 ^ k) ≡ 0)
      (λ q. absurd (ne (sym q))) (λ _. not_lead (own g k) (factored s row kind k) (ltb 0 (up (x k))) (2 ^ k)))
      ∙ at_lead (most_at case_count (adds g)) (omega (arith, m.1)))
      (λ h. sum_none case_count (leading g)
      (λ k l. adds_none (own g k) (eqb (leader_of s row kind x g) k) (factor_of s row (kind k)) (up (x k)) (2 ^ k) (omega (arith, most_ge case_count k (adds g) l))))
    where
      at_lead : (j : ℕ) → 0 < adds g j → when (own g j && (factored s row kind j && (eqb j j && ltb 0 (up (x j))))) (2 ^ j) ≡ 2 ^ j
      at_lead j h =
          eqb_cases j j (λ t. when (own g j && (factored s row kind j && (t && ltb 0 (up (x j))))) (2 ^ j) ≡ 2 ^ j)
          (λ _. adds_some (own g j) (factor_of s row (kind j)) (up (x j)) (2 ^ j) h) (λ ne. absurd (ne refl))

  pub acting_is : mask_of case_count (acts_in s row kind x) ≡ mask_of case_count (λ k. is_always (class_of (kind k)) && factored s row kind k)
      + mask_of case_count (λ k. (is_together (class_of (kind k)) && factored s row kind k) && ltb 0 (up (total_of kind x (kind k))))
      + mask_of case_count (λ k. (is_subset (class_of (kind k)) && factored s row kind k) && ltb 0 (up (x k)))
      + sum group_count (λ g. lead_bit case_count (worth_of s row kind x g))
  unfolding mask_of
  acting_is =
      let a : ℕ → ℕ = λ k. when (always k) (2 ^ k) in
      let j : ℕ → ℕ = λ k. when (jointly k) (2 ^ k) in
      let p : ℕ → ℕ = λ k. when (positive k) (2 ^ k) in
      let l : ℕ → ℕ = λ k. sum group_count (λ g. leading g k) in
      sum_same case_count (λ k. when (acts_in s row kind x k) (2 ^ k)) (λ k. a k + j k + p k + l k) (λ k _. each k)
      ∙ sum_plus case_count (λ k. a k + j k + p k) l
      ∙ (λ i. (sum_plus case_count (λ k. a k + j k) p ∙ (λ n. sum_plus case_count a j n + sum case_count p)) i
      + (sum_swap case_count group_count (λ k g. leading g k) ∙ sum_same group_count (λ g. sum case_count (leading g)) (λ g. lead_bit case_count (adds g)) (λ g _. one_lead g)) i)
