-- A row's value from the terms is its maximum over the cases, for the effects and for the effects negated; and the terms are in range.
-- Assumes nothing.
use Prim.Native.Nat.{ℕ, zero, suc, ◌+◌, ◌*◌, ◌<◌, ◌≤◌, max}
use native.Mathlib.Nat.{mul-le-mul_left, le_antisymm, le_trans}
use native.Mathlib.Omega.{arith}
use mathlib.Core.Path.{◌≡◌, refl, sym, ap, ◌∙◌, subst}
use mathlib.Core.Bool.{Bool, true, false, false≢true}
use borrow.Author.Tests.{ne_eqb, lt-ltb, le-ltb}
use lib.Dec.{eqb, ltb}
use lib.IntN.{ℤ, pos, neg_ℤ, ◌+ℤ◌, ◌-ℤ◌, nat_abs}
use Rattle.integers.specs.Sums.{when, sum, most, up, down}
use Rattle.integers.proofs.Signs.{eq_in, add_parts, one_part, abs_add, abs_parts, abs_negated, neg_up, neg_down}
use Rattle.integers.proofs.Sums.{eqb_cases, ltb_cases, sum_same, sum_mono, sum_only, sum_swap, sum_times, sum_most, most_ge, most_le, most_same, most_times}
use Rattle.integers.proofs.Linear.{where_parts}
use Rattle.standard.specs.declared.Settings.{Settings}
use Rattle.standard.specs.declared.Class.{Class}
use Rattle.standard.specs.declared.Class.TheVariants.{Always, Together, Subset, OneOf, Unknown}
use Rattle.standard.specs.Kinds.{class_of, kind_count, group_count, fluid}
use Rattle.standard.specs.Rows.{factor_of}
use Rattle.standard.specs.Combination.{case_count}
use Rattle.optimum.specs.Row.{greatest_by, least_by, group_by, is_together, lower_of, greatest_of, least_of, group_of, joint_of, total_of, acts_together, gain_of, row_maximum, worth_of}
use Rattle.envelope.specs.declared.Sign.{Sign}
use Rattle.envelope.specs.declared.Sign.TheVariants.{Plus, Minus}
use Rattle.envelope.specs.Range.{effect_most}
use Rattle.sums.specs.Sums.{part_of, of_kind, alone, held_by, held_of, total_count, fluid_acts, Summed}
use Rattle.terms.specs.Value.{terms_by, terms_between, terms_of, TermsInRange, value_of}
use Rattle.terms.proofs.Lines.{by_group, excess, gain_by, loss_by, by_terms}
use Rattle.sums.proofs.Held.{held_le, held_most, part_le}
use Rattle.sums.proofs.Totals.{total_negated}

module _ (n K : ℕ) (kind p : ℕ → ℕ) (below : (k : ℕ) → kind k < K) where
  -- a weighted sum over the kinds is one over the cases
  pub sum_of_kinds : (w : ℕ → ℕ) → sum K (λ j. w j * sum n (of_kind kind p j)) ≡ sum n (λ k. w (kind k) * p k)
  sum_of_kinds w =
      sum_same K (λ j. w j * sum n (of_kind kind p j)) (λ j. sum n (λ k. w j * of_kind kind p j k)) (λ j l. sym (sum_times n (w j) (of_kind kind p j)))
      ∙ sum_swap K n (λ j k. w j * of_kind kind p j k)
      ∙ sum_same n (λ k. sum K (λ j. w j * of_kind kind p j k)) (λ k. w (kind k) * p k)
      (λ k l. sum_only K (kind k) (λ j. w j * of_kind kind p j k) (below k)
      (λ j ne. eqb_cases (kind k) j (λ t. w j * when t (p k) ≡ 0) (λ e. absurd (ne (sym e))) (λ _. omega arith))
      ∙ eqb_cases (kind k) (kind k) (λ t. w (kind k) * when t (p k) ≡ w (kind k) * p k) (λ _. refl) (λ ne. absurd (ne refl)))

  -- the best of a group over its kinds is the best over its cases
  module _ (grp f : ℕ → ℕ) (g : ℕ) where
    abbrev by_kind : ℕ → ℕ
    by_kind j = when (eqb (grp j) g) (f j * most n (of_kind kind p j))

    abbrev by_case : ℕ → ℕ
    by_case k = when (eqb (grp (kind k)) g) (f (kind k) * p k)

    -- a kind adds no more than the best case
    kind_le : (j : ℕ) → by_kind j ≤ most n by_case
    kind_le j =
        eqb_cases (grp j) g (λ t. when t (f j * most n (of_kind kind p j)) ≤ most n by_case)
        (λ e. subst (λ (x : ℕ). x ≤ most n by_case) (most_times n (f j) (of_kind kind p j))
        (most_le n (most n by_case) (λ k. f j * of_kind kind p j k)
        (λ k l. eqb_cases (kind k) j (λ t. f j * when t (p k) ≤ most n by_case)
        (λ q. le_trans (at_case j k e q) (most_ge n k by_case l)) (λ _. omega arith))))
        (λ _. omega arith)
      where
        at_case : (j k : ℕ) → grp j ≡ g → kind k ≡ j → f j * p k ≤ when (eqb (grp (kind k)) g) (f (kind k) * p k)
        at_case j k e q =
            subst (λ (i : ℕ). f i * p k ≤ when (eqb (grp (kind k)) g) (f (kind k) * p k)) q
            (eqb_cases (grp (kind k)) g (λ t. f (kind k) * p k ≤ when t (f (kind k) * p k)) (λ _. omega arith)
            (λ ne. absurd (ne (ap grp q ∙ e))))

    case_le : (k : ℕ) → k < n → by_case k ≤ most K by_kind
    case_le k l = le_trans at_kind (most_ge K (kind k) by_kind (below k))
      where
        own : p k ≤ of_kind kind p (kind k) k
        own = eqb_cases (kind k) (kind k) (λ t. p k ≤ when t (p k)) (λ _. omega arith) (λ ne. absurd (ne refl))

        at_kind : by_case k ≤ by_kind (kind k)
        at_kind = eqb_cases (grp (kind k)) g (λ t. when t (f (kind k) * p k) ≤ when t (f (kind k) * most n (of_kind kind p (kind k))))
            (λ _. mul-le-mul_left (f (kind k)) (le_trans own (most_ge n k (of_kind kind p (kind k)) l))) (λ _. omega arith)

    pub most_of_kinds : most K by_kind ≡ most n by_case
    most_of_kinds = le_antisymm (most_le K (most n by_case) by_kind (λ j l. kind_le j)) (most_le n (most K by_kind) by_case case_le)

-- a kind of a group gives nothing by itself, and another kind stands in no group
alone_none : (q : Class) (f : ℕ) → alone q ≡ true → (greatest_by q f ≡ 0) × (least_by q f ≡ 0) × (when (is_together q) f ≡ 0)
alone_none Always f e = absurd (false≢true e)
alone_none Together f e = absurd (false≢true e)
alone_none Subset f e = absurd (false≢true e)
alone_none (OneOf g) f e = (refl, refl, refl)
alone_none Unknown f e = absurd (false≢true e)

groupless : (q : Class) → alone q ≡ false → group_by q ≡ group_count
groupless Always e = refl
groupless Together e = refl
groupless Subset e = refl
groupless (OneOf g) e = absurd (false≢true (sym e))
groupless Unknown e = refl

module _ (s : Settings) (row : ℕ) where
  alone_gain : (j : ℕ) → alone (class_of j) ≡ true → greatest_of s row j ≡ 0
  unfolding greatest_of
  alone_gain j e = (alone_none (class_of j) (factor_of s row j) e).0

  alone_loss : (j : ℕ) → alone (class_of j) ≡ true → least_of s row j ≡ 0
  unfolding least_of
  alone_loss j e = (alone_none (class_of j) (lower_of s row j) e).1

  alone_joint : (j : ℕ) → alone (class_of j) ≡ true → joint_of s row j ≡ 0
  unfolding joint_of
  alone_joint j e = (alone_none (class_of j) (factor_of s row j) e).2

  no_gain : greatest_of s row 0 ≡ 0
  unfolding greatest_of class_of
  no_gain = refl

  no_loss : least_of s row 0 ≡ 0
  unfolding least_of class_of
  no_loss = refl

  no_joint : joint_of s row 0 ≡ 0
  unfolding joint_of class_of
  no_joint = refl

-- u holds the parts p of the cases by kind
Holds : ℕ → (kind p u : ℕ → ℕ) → Type 0
Holds n kind p u = (j : ℕ) → 0 < j → j < kind_count → u j ≡ held_of j n (of_kind kind p j)

-- a weight that the kinds of groups do not have goes by the other kinds alone
weighs : (w x y : ℕ → ℕ) → w 0 ≡ 0 → ((j : ℕ) → alone (class_of j) ≡ true → w j ≡ 0) →
    ((j : ℕ) → 0 < j → j < kind_count → alone (class_of j) ≡ false → x j ≡ y j) → (j : ℕ) → j < kind_count → w j * x j ≡ w j * y j
weighs w x y none late same zero l = rw none (omega arith)
weighs w x y none late same (suc j) l = go (alone (class_of (suc j))) refl
  where
    go : (t : Bool) → alone (class_of (suc j)) ≡ t → w (suc j) * x (suc j) ≡ w (suc j) * y (suc j)
    go true e = rw (late (suc j) e) (omega arith)
    go false e = ap (λ (z : ℕ). w (suc j) * z) (same (suc j) (omega arith) l e)

module _ (n : ℕ) (kind p u : ℕ → ℕ) (h : Holds n kind p u) where
  -- of these kinds sums are held
  summed : (j : ℕ) → 0 < j → j < kind_count → alone (class_of j) ≡ false → u j ≡ sum n (of_kind kind p j)
  unfolding held_by Holds
  summed j p l e = h j p l ∙ rw e

  -- and a group finds maxima
  leads : (f : ℕ → ℕ) (g : ℕ) → g < group_count → (j : ℕ) → j < kind_count →
      when (eqb (group_of j) g) (f j * u j) ≡ when (eqb (group_of j) g) (f j * most n (of_kind kind p j))
  unfolding held_by Holds group_of class_of
  leads f g k zero l = rw (ne_eqb group_count g (λ q. omega arith))
  leads f g k (suc j) l = go (alone (class_of (suc j))) refl
    where
      go : (t : Bool) → alone (class_of (suc j)) ≡ t → when (eqb (group_of (suc j)) g) (f (suc j) * u (suc j)) ≡ when (eqb (group_of (suc j)) g) (f (suc j) * most n (of_kind kind p (suc j)))
      go true e = ap (λ (x : ℕ). when (eqb (group_of (suc j)) g) (f (suc j) * x)) (h (suc j) (omega arith) l ∙ rw e)
      go false e = rw (groupless (class_of (suc j)) e, ne_eqb group_count g (λ q. omega arith))

-- D and F stand in no group
never_alone : (j : ℕ) → j < total_count → alone (class_of (suc j)) ≡ false
unfolding class_of
never_alone zero l = refl
never_alone (suc zero) l = refl
never_alone (suc (suc j)) l = absurd (omega arith)

-- a number from its parts, and from them exchanged
of_parts : (z : ℤ) → pos (up z) +ℤ neg_ℤ (pos (down z)) ≡ z
of_parts z = eq_in (pos (up z) +ℤ neg_ℤ (pos (down z))) z (omega (arith, add_parts (pos (up z)) (neg_ℤ (pos (down z))), neg_up (pos (down z)), neg_down (pos (down z))))

of_parts_negated : (z : ℤ) → pos (down z) +ℤ neg_ℤ (pos (up z)) ≡ neg_ℤ z
of_parts_negated z =
    eq_in (pos (down z) +ℤ neg_ℤ (pos (up z))) (neg_ℤ z)
    (omega (arith, add_parts (pos (down z)) (neg_ℤ (pos (up z))), neg_up (pos (up z)), neg_down (pos (up z)), neg_up z, neg_down z))

less_excess : (a b : ℕ) → ltb b a ≡ ltb 0 (up (pos a +ℤ neg_ℤ (pos b)))
less_excess a b =
    let z : ℤ = pos a +ℤ neg_ℤ (pos b) in
    let parts : up z + b ≡ a + down z = omega (arith, add_parts (pos a) (neg_ℤ (pos b)), neg_up (pos b), neg_down (pos b)) in
    ltb_cases b a (λ t. t ≡ ltb 0 (up z))
    (λ l. sym (lt-ltb 0 (up z) (omega (arith, parts))))
    (λ l. sym (le-ltb 0 (up z) (omega (arith, parts, one_part z))))

counted : (kind : ℕ → ℕ) (j : ℕ) (part : ℕ → ℕ) → sum case_count (of_kind kind part j) ≡ sum case_count (λ k. when (eqb (kind k) j) 1 * part k)
counted kind j part = sum_same case_count (of_kind kind part j) (λ k. when (eqb (kind k) j) 1 * part k)
    (λ k _. eqb_cases (kind k) j (λ t. when t (part k) ≡ when t 1 * part k) (λ _. omega arith) (λ _. omega arith))

-- the value of a row from what is held above zero and below
module _ (kind : ℕ → ℕ) (e : ℕ → ℤ) (below : (k : ℕ) → kind k < kind_count) (u d : ℕ → ℕ)
    (hu : Holds case_count kind (λ k. up (e k)) u) (hd : Holds case_count kind (λ k. down (e k)) d) where
  -- of a kind whose effects are added up, what is held is their total
  total_held : (j : ℕ) → 0 < j → j < kind_count → alone (class_of j) ≡ false → excess u d j ≡ total_of kind e j
  unfolding total_of
  total_held j p l a =
      let above = summed case_count kind (λ k. up (e k)) u hu j p l a ∙ counted kind j (λ k. up (e k)) in
      let less = summed case_count kind (λ k. down (e k)) d hd j p l a ∙ counted kind j (λ k. down (e k)) in
      eq_in (excess u d j) (total_of kind e j)
      (omega (
        arith,
        add_parts (pos (u j)) (neg_ℤ (pos (d j))),
        neg_up (pos (d j)),
        neg_down (pos (d j)),
        where_parts case_count (λ k. eqb (kind k) j) e,
      ))

  held_value : (s : Settings) (row : ℕ) → value_of s row (terms_by u d) ≡ row_maximum s row kind e
  unfolding row_maximum
  held_value s row = by_terms s row u d ∙ (λ i. pos (gain i) -ℤ pos (loss i))
    where
      loss : loss_by s row d ≡ sum case_count (λ k. least_of s row (kind k) * down (e k))
      loss =
          sum_same kind_count (λ j. least_of s row j * d j) (λ j. least_of s row j * sum case_count (of_kind kind (λ k. down (e k)) j))
          (weighs (least_of s row) d (λ j. sum case_count (of_kind kind (λ k. down (e k)) j)) (no_loss s row) (alone_loss s row) (summed case_count kind (λ k. down (e k)) d hd))
          ∙ sum_of_kinds case_count kind_count kind (λ k. down (e k)) below (least_of s row)

      own : sum kind_count (λ j. greatest_of s row j * u j) ≡ sum case_count (λ k. greatest_of s row (kind k) * up (e k))
      own =
          sum_same kind_count (λ j. greatest_of s row j * u j) (λ j. greatest_of s row j * sum case_count (of_kind kind (λ k. up (e k)) j))
          (weighs (greatest_of s row) u (λ j. sum case_count (of_kind kind (λ k. up (e k)) j)) (no_gain s row) (alone_gain s row) (summed case_count kind (λ k. up (e k)) u hu))
          ∙ sum_of_kinds case_count kind_count kind (λ k. up (e k)) below (greatest_of s row)

      led : (g : ℕ) → g < group_count → most kind_count (by_group s row u g) ≡ most case_count (worth_of s row kind e g)
      led g l =
          most_same kind_count (by_group s row u g) (λ j. when (eqb (group_of j) g) (factor_of s row j * most case_count (of_kind kind (λ k. up (e k)) j)))
          (leads case_count kind (λ k. up (e k)) u hu (factor_of s row) g l)
          ∙ most_of_kinds case_count kind_count kind (λ k. up (e k)) below group_of (factor_of s row) g

      joint : (j : ℕ) → j < kind_count → joint_of s row j * up (excess u d j) ≡ joint_of s row j * up (total_of kind e j)
      joint =
          weighs (joint_of s row) (λ j. up (excess u d j)) (λ j. up (total_of kind e j)) (no_joint s row) (alone_joint s row)
          (λ j p l a. ap up (total_held j p l a))

      gain : gain_by s row u d ≡ gain_of s row kind e
      gain =
          λ i. own i + sum_same group_count (λ g. most kind_count (by_group s row u g)) (λ g. most case_count (worth_of s row kind e g)) led i
          + sum_same kind_count (λ j. joint_of s row j * up (excess u d j)) (λ j. joint_of s row j * up (total_of kind e j)) joint i

-- D and F come into the terms by their totals alone
terms_agree : (u d u' d' : ℕ → ℕ) → ((j : ℕ) → j < total_count → excess u d (suc j) ≡ excess u' d' (suc j)) →
    ((j : ℕ) → total_count < j → j < kind_count → (u j ≡ u' j) × (d j ≡ d' j)) → terms_by u d ≡ terms_by u' d'
unfolding terms_by
terms_agree u d u' d' total other =
    let at : (j : ℕ) → total_count < j → j < kind_count → u j ≡ u' j = λ j a b. (other j a b).0 in
    λ i. record {
      dead = total 0 (omega arith) i;
      fluid = pos (up (total 1 (omega arith) i));
      earth = pos (at 3 (omega arith) (omega arith) i) +ℤ pos (at 4 (omega arith) (omega arith) i);
      lowered = neg_ℤ (pos ((other 3 (omega arith) (omega arith)).1 i));
      live = pos (at 5 (omega arith) (omega arith) i);
      straining = pos (at 14 (omega arith) (omega arith) i);
      roof = pos (max (at 6 (omega arith) (omega arith) i) (at 8 (omega arith) (omega arith) i));
      snow = pos (at 7 (omega arith) (omega arith) i);
      wind = pos (at 9 (omega arith) (omega arith) i);
      quake = pos (at 10 (omega arith) (omega arith) i);
      flood = pos (at 11 (omega arith) (omega arith) i);
      ice = pos (at 12 (omega arith) (omega arith) i);
      icewind = pos (at 13 (omega arith) (omega arith) i);
    }

-- what the terms are made from: the totals of D and F, and what is held of the other kinds above zero and below
record TermsFrom (kind : ℕ → ℕ) (e : ℕ → ℤ) (u d : ℕ → ℕ) : Type 0 where
  total : (j : ℕ) → j < total_count → excess u d (suc j) ≡ total_of kind e (suc j)
  others : (j : ℕ) → total_count < j → j < kind_count →
      (u j ≡ held_of j case_count (of_kind kind (λ k. up (e k)) j)) × (d j ≡ held_of j case_count (of_kind kind (λ k. down (e k)) j))

module _ (kind : ℕ → ℕ) (e : ℕ → ℤ) (below : (k : ℕ) → kind k < kind_count) (u d : ℕ → ℕ) (h : TermsFrom kind e u d) where
  value_from : (s : Settings) (row : ℕ) → value_of s row (terms_by u d) ≡ row_maximum s row kind e
  unfolding Holds
  value_from s row =
      let above : ℕ → ℕ = λ j. held_of j case_count (of_kind kind (λ k. up (e k)) j) in
      let less : ℕ → ℕ = λ j. held_of j case_count (of_kind kind (λ k. down (e k)) j) in
      ap (value_of s row) (terms_agree u d above less (λ j l. h.total j l ∙ sym (added j l)) h.others)
      ∙ held_value kind e below above less (λ j p l. refl) (λ j p l. refl) s row
    where
      added : (j : ℕ) → j < total_count → excess (λ i. held_of i case_count (of_kind kind (λ k. up (e k)) i)) (λ i. held_of i case_count (of_kind kind (λ k. down (e k)) i)) (suc j) ≡ total_of kind e (suc j)
      added j l = total_held kind e below _ _ (λ i p m. refl) (λ i p m. refl) (suc j) (omega arith) (omega arith) (never_alone j l)

  fluid_from : ltb (d fluid) (u fluid) ≡ acts_together kind e fluid
  fluid_from = less_excess (u fluid) (d fluid) ∙ ap (λ (z : ℤ). ltb 0 (up z)) (h.total 1 (omega arith))

module _ (held : ℕ → ℕ → ℕ) (kind : ℕ → ℕ) (e : ℕ → ℤ) (below : (k : ℕ) → kind k < kind_count) (h : Summed held kind e) where
  -- as they are
  from_sums : TermsFrom kind e (λ j. held j 0) (λ j. held j 1)
  from_sums = record {
    total = λ j l. (λ i. pos (h.total j 0 l (omega arith) i) +ℤ neg_ℤ (pos (h.total j 1 l (omega arith) i))) ∙ of_parts (total_of kind e (suc j));
    others = λ j p l. (h.others j 0 p l (omega arith), h.others j 1 p l (omega arith));
  }

  -- and negated: what is above zero of the one is below zero of the other
  from_negated : TermsFrom kind (λ k. neg_ℤ (e k)) (λ j. held j 1) (λ j. held j 0)
  from_negated = record {
    total = λ j l. (λ i. pos (h.total j 1 l (omega arith) i) +ℤ neg_ℤ (pos (h.total j 0 l (omega arith) i)))
        ∙ of_parts_negated (total_of kind e (suc j)) ∙ sym (total_negated kind (suc j) e);
    others = λ j p l. (
      h.others j 1 p l (omega arith) ∙ ap (λ (f : ℕ → ℕ). held_of j case_count (of_kind kind f j)) (λ i k. sym (neg_up (e k)) i),
      h.others j 0 p l (omega arith) ∙ ap (λ (f : ℕ → ℕ). held_of j case_count (of_kind kind f j)) (λ i k. sym (neg_down (e k)) i),
    );
  }

  pub value_is : (s : Settings) (row : ℕ) → value_of s row (terms_of held Plus) ≡ row_maximum s row kind e
  value_is = value_from kind e below (λ j. held j 0) (λ j. held j 1) from_sums

  pub negated_value_is : (s : Settings) (row : ℕ) → value_of s row (terms_of held Minus) ≡ row_maximum s row kind (λ k. neg_ℤ (e k))
  negated_value_is = value_from kind (λ k. neg_ℤ (e k)) below (λ j. held j 1) (λ j. held j 0) from_negated

  pub fluid_is : fluid_acts held Plus ≡ acts_together kind e fluid
  fluid_is = fluid_from kind e below (λ j. held j 0) (λ j. held j 1) from_sums

  pub negated_fluid_is : fluid_acts held Minus ≡ acts_together kind (λ k. neg_ℤ (e k)) fluid
  negated_fluid_is = fluid_from kind (λ k. neg_ℤ (e k)) below (λ j. held j 1) (λ j. held j 0) from_negated

-- ---- the sizes of the terms
total : (H : ℕ → ℕ) (m : ℕ) → sum kind_count H ≤ m → H 1 + H 2 + H 3 + H 4 + H 5 + H 6 + H 7 + H 8 + H 9 + H 10 + H 11 + H 12 + H 13 + H 14 ≤ m
unfolding sum
total H m h = omega arith

size_of_difference : (a b : ℕ) → nat_abs (pos a +ℤ neg_ℤ (pos b)) ≤ a + b
size_of_difference a b = omega (arith, abs_add (pos a) (neg_ℤ (pos b)), abs_negated (pos b))

module _ (n : ℕ) (kind p : ℕ → ℕ) (below : (k : ℕ) → kind k < kind_count) (small : (k : ℕ) → p k ≤ effect_most) where
  all_most : sum kind_count (λ j. held_of j n (of_kind kind p j)) ≤ n * effect_most
  all_most =
      omega (
        arith,
        sum_mono kind_count (λ j. held_of j n (of_kind kind p j)) (λ j. 1 * sum n (of_kind kind p j)) (λ j l. omega (arith, held_le (alone (class_of j)) n (of_kind kind p j))),
        sum_of_kinds n kind_count kind p below (λ j. 1),
        sum_most n effect_most (λ k. 1 * p k) (λ k l. omega (arith, small k)),
      )

  held_total : (u : ℕ → ℕ) → ((j : ℕ) → 0 < j → j < kind_count → u j ≤ held_of j n (of_kind kind p j)) → u 1 + u 2 + u 3 + u 4 + u 5 + u 6 + u 7 + u 8 + u 9 + u 10 + u 11 + u 12 + u 13 + u 14 ≤ n * effect_most
  held_total u h =
      omega (
        arith,
        total (λ j. held_of j n (of_kind kind p j)) (n * effect_most) all_most,
        h 1 (omega arith) (omega arith),
        h 2 (omega arith) (omega arith),
        h 3 (omega arith) (omega arith),
        h 4 (omega arith) (omega arith),
        h 5 (omega arith) (omega arith),
        h 6 (omega arith) (omega arith),
        h 7 (omega arith) (omega arith),
        h 8 (omega arith) (omega arith),
        h 9 (omega arith) (omega arith),
        h 10 (omega arith) (omega arith),
        h 11 (omega arith) (omega arith),
        h 12 (omega arith) (omega arith),
        h 13 (omega arith) (omega arith),
        h 14 (omega arith) (omega arith),
      )

small_terms : (u d : ℕ → ℕ) (m : ℕ) → u 1 + u 2 + u 3 + u 4 + u 5 + u 6 + u 7 + u 8 + u 9 + u 10 + u 11 + u 12 + u 13 + u 14 ≤ m →
    d 1 + d 2 + d 3 + d 4 + d 5 + d 6 + d 7 + d 8 + d 9 + d 10 + d 11 + d 12 + d 13 + d 14 ≤ m → m + m ≤ 64 * effect_most → TermsInRange (terms_by u d)
unfolding terms_by
small_terms u d m hu hd l =
    record {
      small = omega (arith, size_of_difference (u 1) (d 1), size_of_difference (u 2) (d 2), abs_parts (excess u d 2), abs_negated (pos (d 3)));
      roof_up = refl;
      snow_up = refl;
    }

-- of the effects with a sign, from any two sides
pub with_sign : (held : ℕ → ℕ → ℕ) → ((above below : ℕ) → above < 2 → below < 2 → TermsInRange (terms_between held above below)) →
    (sign : Sign) → TermsInRange (terms_of held sign)
with_sign held h Plus = h 0 1 (omega arith) (omega arith)
with_sign held h Minus = h 1 0 (omega arith) (omega arith)

-- a total is within what its parts make
total_within : (kind : ℕ → ℕ) (e : ℕ → ℤ) (j t : ℕ) → part_of t (total_of kind e j) ≤ sum case_count (of_kind kind (λ k. part_of t (e k)) j)
unfolding total_of
total_within kind e j zero = omega (arith, where_parts case_count (λ k. eqb (kind k) j) e, one_part (total_of kind e j), counted kind j (λ k. up (e k)), counted kind j (λ k. down (e k)))
total_within kind e j (suc t) = omega (arith, where_parts case_count (λ k. eqb (kind k) j) e, one_part (total_of kind e j), counted kind j (λ k. up (e k)), counted kind j (λ k. down (e k)))

module _ (held : ℕ → ℕ → ℕ) (kind : ℕ → ℕ) (e : ℕ → ℤ) (below : (k : ℕ) → kind k < kind_count) (h : Summed held kind e) (small : (k : ℕ) → nat_abs (e k) ≤ effect_most) where
  within : (t : ℕ) → t < 2 → (j : ℕ) → 0 < j → j < kind_count → held j t ≤ held_of j case_count (of_kind kind (λ k. part_of t (e k)) j)
  unfolding held_by
  within t m zero p l = absurd (omega arith)
  within t m (suc j) p l =
      ltb_cases j total_count (λ _. held (suc j) t ≤ held_of (suc j) case_count (of_kind kind (λ k. part_of t (e k)) (suc j)))
      (λ b. rw (never_alone j b) (omega (arith, h.total j t b m, total_within kind e (suc j) t)))
      (λ b. omega (arith, h.others (suc j) t (omega arith) l m))

  pub sums_most : (j t : ℕ) → 0 < j → j < kind_count → t < 2 → held j t ≤ case_count * effect_most
  unfolding held_by
  sums_most j t p l m = omega (arith, within t m j p l, held_most (alone (class_of j)) (λ k. eqb (kind k) j) e small t case_count)

  side : (t : ℕ) → t < 2 → let u : ℕ → ℕ = λ j. held j t in u 1 + u 2 + u 3 + u 4 + u 5 + u 6 + u 7 + u 8 + u 9 + u 10 + u 11 + u 12 + u 13 + u 14 ≤ case_count * effect_most
  side t m = held_total case_count kind (λ k. part_of t (e k)) below (λ k. omega (arith, part_le t (e k), small k)) (λ j. held j t) (within t m)

  pub terms_in_range : (above below : ℕ) → above < 2 → below < 2 → TermsInRange (terms_between held above below)
  terms_in_range above below a b =
      small_terms (λ j. held j above) (λ j. held j below) (case_count * effect_most) (side above a) (side below b) (omega arith)

  pub signed_terms_in_range : (sign : Sign) → TermsInRange (terms_of held sign)
  signed_terms_in_range = with_sign held terms_in_range
