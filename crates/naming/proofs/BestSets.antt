-- The sets named from the cases of each kind are those of the row's best combination, whatever the row and the settings.
-- Assumes nothing.
use Prim.Native.Nat.{ℕ, zero, suc, ◌+◌, ◌*◌, ◌<◌, ◌≤◌, ◌^◌, max}
use native.Mathlib.Omega.{arith}
use mathlib.Core.Bool.{Bool, true, false, ◌&&◌, ◌||◌, false≢true}
use mathlib.Core.List.{List}
use mathlib.Core.Path.{◌≡◌, refl, sym, ap, ◌∙◌, subst}
use borrow.Author.Tests.{lt-leb}
use lib.Dec.{T, eqb, leb, ltb, eqb→eq, ltb→lt}
use lib.IntN.{ℤ, neg_ℤ}
use lib.ListN.{get_or}
use Rattle.integers.specs.Sums.{when, sum, most, mask_of, up, down}
use Rattle.integers.specs.Sets.{has}
use Rattle.integers.proofs.Masks.{mask_below, bit_in_mask}
use Rattle.integers.proofs.Signs.{neg_up}
use Rattle.integers.proofs.Tests.{and_right}
use Rattle.integers.proofs.Sums.{when_le, eqb_cases, ltb_cases, sum_same, sum_plus, sum_swap}
use Rattle.standard.specs.declared.Settings.{Settings}
use Rattle.standard.specs.declared.Class.{Class}
use Rattle.standard.specs.declared.Class.TheVariants.{Always, Together, Subset, OneOf, Unknown}
use Rattle.standard.specs.Kinds.{class_of, kind_count, group_count, fluid, permanent_earth, self_straining}
use Rattle.standard.specs.Range.{SettingsInRange}
use Rattle.standard.specs.Rows.{factor_of}
use Rattle.standard.specs.Columns.{kinds_in}
use Rattle.standard.specs.Combination.{case_count}
use Rattle.standard.proofs.Facts.{kind_in, shared_factor, shared_factor_lem}
use Rattle.standard.proofs.Table.{tabulate, same_at}
use Rattle.optimum.specs.Row.{group_by, is_together, group_of, acts_together, worth_of, acts_in, low_in}
use Rattle.envelope.specs.Places.{Places}
use Rattle.naming.specs.Sets.{lead_bit, above_in, lead_in, gathered_of, group_sets, chosen_of, ChosenInRange, named_of}
use Rattle.integers.proofs.Folds.{mask_same, when_sum, in_run, sum_run, most_multiple, most_at_multiple, ltb_times}
use Rattle.naming.proofs.Acting.{is_always, is_subset, factored, acting_is}

-- ---- the lead of a group
-- a positive factor leaves the lead where it is
lead_multiple : (n w : ℕ) (g h : ℕ → ℕ) → 0 < w → ((k : ℕ) → k < n → h k ≡ w * g k) → lead_bit n g ≡ lead_bit n h
unfolding lead_bit
lead_multiple n w g h l e =
    λ i. when (sym test i) (2 ^ sym (most_at_multiple w g h l n e) i)
  where
    test : ltb 0 (most n h) ≡ ltb 0 (most n g)
    test = (let z : 0 ≡ w * 0 = omega arith in λ i. ltb (z i) (most_multiple w g h n e i)) ∙ ltb_times w 0 (most n g) l

-- what a case of a group adds, by the factor w that those with a factor share
by_shared : (f u w : ℕ) → (0 < f → f ≡ w) → f * u ≡ w * when (ltb 0 f) u
by_shared f u w h =
    ltb_cases 0 f (λ t. f * u ≡ w * when t u)
    (λ l. ap (λ (y : ℕ). y * u) (h l))
    (λ l. let z : f ≡ 0 = omega arith in rw z (omega arith))

class_of_group : (q : Class) (g : ℕ) → group_by q ≡ g → g < group_count → q ≡ OneOf g
class_of_group Always g e l = absurd (omega arith)
class_of_group Together g e l = absurd (omega arith)
class_of_group Subset g e l = absurd (omega arith)
class_of_group (OneOf h) g e l = ap OneOf e
class_of_group Unknown g e l = absurd (omega arith)

-- ---- the cases of one or two runs of kinds
-- one of the numbers of two runs
abbrev in_either : (first count next more : ℕ) → ℕ → Bool
in_either first count next more j = in_run first count j || in_run next more j

-- the kinds of each class, Hp, and the kinds of each group are such runs
record Runs : Type 0 where
  always : tabulate (λ j. is_always (class_of j)) 0 kind_count ≡ tabulate (in_either 1 1 permanent_earth 1) 0 kind_count
  joint : tabulate (λ j. is_together (class_of j)) 0 kind_count ≡ tabulate (in_run fluid 1) 0 kind_count
  fluid : tabulate (λ j. is_together (class_of j)) 0 kind_count ≡ tabulate (λ j. eqb j fluid) 0 kind_count
  earth : tabulate (λ j. eqb j permanent_earth) 0 kind_count ≡ tabulate (in_run 3 1) 0 kind_count
  free : tabulate (λ j. is_subset (class_of j)) 0 kind_count ≡ tabulate (in_either 4 2 self_straining 1) 0 kind_count
  roof : tabulate (λ j. eqb (group_of j) 0) 0 kind_count ≡ tabulate (in_run 6 3) 0 kind_count
  wind : tabulate (λ j. eqb (group_of j) 1) 0 kind_count ≡ tabulate (in_run 9 1) 0 kind_count
  quake : tabulate (λ j. eqb (group_of j) 2) 0 kind_count ≡ tabulate (in_run 10 1) 0 kind_count
  flood : tabulate (λ j. eqb (group_of j) 3) 0 kind_count ≡ tabulate (in_run 11 1) 0 kind_count
  ice : tabulate (λ j. eqb (group_of j) 4) 0 kind_count ≡ tabulate (in_run 12 1) 0 kind_count
  icewind : tabulate (λ j. eqb (group_of j) 5) 0 kind_count ≡ tabulate (in_run 13 1) 0 kind_count

runs : Runs
unfolding class_of group_of
runs = record { always = refl; joint = refl; fluid = refl; earth = refl; free = refl; roof = refl; wind = refl; quake = refl; flood = refl; ice = refl; icewind = refl }

six : (g : ℕ → ℕ) → sum group_count g ≡ g 0 + g 1 + g 2 + g 3 + g 4 + g 5
unfolding sum
six g = omega arith

-- two runs, the second past the first
either_run : (a b f : Bool) (y : ℕ) → (T a → b ≡ false) → when ((a || b) && f) y ≡ when (a && f) y + when (b && f) y
either_run true true f y e = absurd (false≢true (sym (e tt)))
either_run true false f y e = omega arith
either_run false true f y e = omega arith
either_run false false f y e = refl

runs_apart : (first count next more j : ℕ) → first + count ≤ next → T (in_run first count j) → in_run next more j ≡ false
runs_apart first count next more j l t =
    let h : j < first + count = ltb→lt j (first + count) (and_right (leb first j) (ltb j (first + count)) t) in rw (lt-leb next j (omega arith))

-- where those that pass t are told by one test
one_test : (t f own all : Bool) (y : ℕ) → (T t → own ≡ all) → when ((t && f) && own) y ≡ when all (when (t && f) y)
one_test true true own all y e = ap (λ (b : Bool). when b y) (e tt)
one_test true false own true y e = refl
one_test true false own false y e = refl
one_test false f own true y e = refl
one_test false f own false y e = refl

and_exchanged : (a b c : Bool) → (a && b) && c ≡ b && (a && c)
and_exchanged true true c = refl
and_exchanged true false c = refl
and_exchanged false true c = refl
and_exchanged false false c = refl

module _ (places : List ℕ) (kind : ℕ → ℕ) (held : Places places kind) where
  -- the cases whose kind is in the run and among those of the set
  pub gathered_is : (set first count : ℕ) → 0 < first → first + count ≤ kind_count →
      gathered_of places set first count ≡ mask_of case_count (λ k. in_run first count (kind k) && has set (kind k))
  unfolding gathered_of mask_of
  gathered_is set first count h l =
      sum_same count (λ i. when (has set (first + i)) (get_or places (first + i) 0)) (λ i. sum case_count (at i))
      (λ i m. ap (λ (y : ℕ). when (has set (first + i)) y) (held.each (first + i) (omega arith) (omega arith))
      ∙ when_sum (has set (first + i)) case_count (λ k. when (eqb (kind k) (first + i)) (2 ^ k)))
      ∙ sum_swap count case_count at
      ∙ sum_same case_count (λ k. sum count (λ i. at i k)) (λ k. when (in_run first count (kind k) && has set (kind k)) (2 ^ k))
      (λ k m. sum_run (has set) first count (kind k) (2 ^ k))
    where
      at : ℕ → ℕ → ℕ
      at i k = when (has set (first + i)) (when (eqb (kind k) (first + i)) (2 ^ k))

  -- or in one of two runs
  gathered_both : (set first count next more : ℕ) → 0 < first → first + count ≤ next → next + more ≤ kind_count →
      gathered_of places set first count + gathered_of places set next more ≡ mask_of case_count (λ k. in_either first count next more (kind k) && has set (kind k))
  unfolding mask_of
  gathered_both set first count next more h l m =
      let a : ℕ → ℕ = λ k. when (in_run first count (kind k) && has set (kind k)) (2 ^ k) in
      let b : ℕ → ℕ = λ k. when (in_run next more (kind k) && has set (kind k)) (2 ^ k) in
      (λ i. gathered_is set first count h (omega arith) i + gathered_is set next more (omega arith) m i)
      ∙ sym (sum_plus case_count a b)
      ∙ sym (sum_same case_count (λ k. when (in_either first count next more (kind k) && has set (kind k)) (2 ^ k)) (λ k. a k + b k)
      (λ k _. either_run (in_run first count (kind k)) (in_run next more (kind k)) (has set (kind k)) (2 ^ k) (runs_apart first count next more (kind k) l)))

  gathered_below : (set first count : ℕ) → 0 < first → first + count ≤ kind_count → gathered_of places set first count < 2 ^ case_count
  gathered_below set first count h l =
      omega (arith, gathered_is set first count h l, mask_below case_count (λ k. in_run first count (kind k) && has set (kind k)))

  group_below : (set g : ℕ) → g < group_count → get_or (group_sets places set) g 0 < 2 ^ case_count
  group_below set zero l = gathered_below set 6 3 (omega arith) (omega arith)
  group_below set (suc zero) l = gathered_below set 9 1 (omega arith) (omega arith)
  group_below set (suc (suc zero)) l = gathered_below set 10 1 (omega arith) (omega arith)
  group_below set (suc (suc (suc zero))) l = gathered_below set 11 1 (omega arith) (omega arith)
  group_below set (suc (suc (suc (suc zero)))) l = gathered_below set 12 1 (omega arith) (omega arith)
  group_below set (suc (suc (suc (suc (suc zero))))) l = gathered_below set 13 1 (omega arith) (omega arith)
  group_below set (suc (suc (suc (suc (suc (suc g)))))) l = absurd (omega arith)

  pub chosen_in_range : (row : ℕ) (joint : Bool) → ChosenInRange (chosen_of row places joint)
  unfolding chosen_of
  chosen_in_range row joint =
      record {
        always =
            omega (
              arith,
              gathered_below (kinds_in row) 1 1 (omega arith) (omega arith),
              gathered_below (kinds_in row) 3 1 (omega arith) (omega arith),
              gathered_below (kinds_in row) fluid 1 (omega arith) (omega arith),
              when_le joint (gathered_of places (kinds_in row) fluid 1),
            );
        earth = gathered_below (kinds_in row) 3 1 (omega arith) (omega arith);
        free =
            omega (
              arith,
              gathered_both (kinds_in row) 4 2 self_straining 1 (omega arith) (omega arith) (omega arith),
              mask_below case_count (λ k. in_either 4 2 self_straining 1 (kind k) && has (kinds_in row) (kind k)),
            );
        groups = group_below (kinds_in row);
      }

  module _ (below : (k : ℕ) → kind k < kind_count) (s : Settings) (range : SettingsInRange s) (row : ℕ) where
    -- the cases whose kind passes a test and has a factor
    abbrev passing : (ℕ → Bool) → ℕ → Bool
    passing test k = test (kind k) && factored s row kind k

    -- another test that the same kinds pass
    by_test : (test own : ℕ → Bool) → tabulate test 0 kind_count ≡ tabulate own 0 kind_count →
        mask_of case_count (λ k. own (kind k) && has (kinds_in row) (kind k)) ≡ mask_of case_count (passing test)
    by_test test own same =
        mask_same case_count (λ k. own (kind k) && has (kinds_in row) (kind k)) (passing test)
        (λ k m. λ i. sym (same_at test own 0 kind_count (kind k) same (omega arith) (omega (arith, below k))) i && kind_in s row (kind k) range (below k) i)

    -- where these kinds are a run, or two
    run_passing : (test : ℕ → Bool) (first count : ℕ) → 0 < first → first + count ≤ kind_count →
        tabulate test 0 kind_count ≡ tabulate (in_run first count) 0 kind_count → gathered_of places (kinds_in row) first count ≡ mask_of case_count (passing test)
    run_passing test first count h l run = gathered_is (kinds_in row) first count h l ∙ by_test test (in_run first count) run

    runs_passing : (test : ℕ → Bool) (first count next more : ℕ) → 0 < first → first + count ≤ next → next + more ≤ kind_count →
        tabulate test 0 kind_count ≡ tabulate (in_either first count next more) 0 kind_count →
        gathered_of places (kinds_in row) first count + gathered_of places (kinds_in row) next more ≡ mask_of case_count (passing test)
    runs_passing test first count next more h l m both = gathered_both (kinds_in row) first count next more h l m ∙ by_test test (in_either first count next more) both

    module _ (test : ℕ → Bool) (set : ℕ) (is : set ≡ mask_of case_count (passing test)) where
      member_passing : (k : ℕ) → k < case_count → has set k ≡ passing test k
      member_passing k m = ap (λ (y : ℕ). has y k) is ∙ bit_in_mask case_count (passing test) k m

      -- those of them that pass another test
      members_passing : (q : ℕ → Bool) → mask_of case_count (λ k. has set k && q k) ≡ mask_of case_count (λ k. passing test k && q k)
      members_passing q =
          mask_same case_count (λ k. has set k && q k) (λ k. passing test k && q k)
          (λ k m. ap (λ (t : Bool). t && q k) (member_passing k m))

    module _ (x : ℕ → ℤ) where
      -- the lead among a group's cases by their effects is the lead by what they add
      lead_is : (g first count : ℕ) → g < group_count → 0 < first → first + count ≤ kind_count →
          tabulate (λ j. eqb (group_of j) g) 0 kind_count ≡ tabulate (in_run first count) 0 kind_count →
          lead_bit case_count (λ k. when (has (gathered_of places (kinds_in row) first count) k) (up (x k))) ≡ lead_bit case_count (worth_of s row kind x g)
      unfolding group_of
      lead_is g first count m h l run =
          lead_multiple case_count w (λ k. when (has (gathered_of places (kinds_in row) first count) k) (up (x k))) (worth_of s row kind x g) (omega arith)
          (λ k n. by_group_lem k ∙ ap (λ (t : Bool). w * when t (up (x k))) (sym (member_passing (λ j. eqb (group_of j) g) _ (run_passing (λ j. eqb (group_of j) g) first count h l run) k n)))
        where
          -- the factor that the group's cases share, or 1 where none has a factor
          w : ℕ
          w = max (shared_factor row g) 1

          by_group_lem : (k : ℕ) → worth_of s row kind x g k ≡ w * when (eqb (group_of (kind k)) g && factored s row kind k) (up (x k))
          by_group_lem k =
              eqb_cases (group_of (kind k)) g (λ t. when t (factor_of s row (kind k) * up (x k)) ≡ w * when (t && factored s row kind k) (up (x k)))
              (λ e. by_shared (factor_of s row (kind k)) (up (x k)) w
              (λ p. omega (arith, shared_factor_lem s row (kind k) g (class_of_group (class_of (kind k)) g e m) p)))
              (λ _. omega arith)

      -- those that act together: F, by the total of its effects
      joint_are : mask_of case_count (λ k. (is_together (class_of (kind k)) && factored s row kind k) && acts_together kind x (kind k))
          ≡ when (acts_together kind x fluid) (gathered_of places (kinds_in row) fluid 1)
      unfolding mask_of
      joint_are =
          let all : Bool = acts_together kind x fluid in
          let own : ℕ → Bool = λ k. is_together (class_of (kind k)) && factored s row kind k in
          sum_same case_count (λ k. when (own k && acts_together kind x (kind k)) (2 ^ k)) (λ k. when all (when (own k) (2 ^ k)))
          (λ k l. one_test (is_together (class_of (kind k))) (factored s row kind k) (acts_together kind x (kind k)) all (2 ^ k)
          (λ t. ap (acts_together kind x)
          (eqb→eq (kind k) fluid (subst (λ (b : Bool). T b) (same_at (λ j. is_together (class_of j)) (λ j. eqb j fluid) 0 kind_count (kind k) runs.fluid (omega arith) (omega (arith, below k))) t))))
          ∙ sym (when_sum all case_count (λ k. when (own k) (2 ^ k)))
          ∙ ap (λ (y : ℕ). when all y) (sym (run_passing (λ j. is_together (class_of j)) fluid 1 (omega arith) (omega arith) runs.joint))

      pub named_acting : (joint : Bool) → joint ≡ acts_together kind x fluid → (named_of (chosen_of row places joint) x).acting ≡ mask_of case_count (acts_in s row kind x)
      unfolding named_of chosen_of above_in lead_in sum
      named_acting joint e =
          omega (
            arith,
            acting_is s row kind x,
            runs_passing (λ j. is_always (class_of j)) 1 1 permanent_earth 1 (omega arith) (omega arith) (omega arith) runs.always,
            joint_are,
            ap (λ (t : Bool). when t (gathered_of places (kinds_in row) fluid 1)) e,
            six (λ g. lead_bit case_count (worth_of s row kind x g)),
            members_passing (λ j. is_subset (class_of j)) _
                (runs_passing (λ j. is_subset (class_of j)) 4 2 self_straining 1 (omega arith) (omega arith) (omega arith) runs.free) (λ k. ltb 0 (up (x k))),
            lead_is 0 6 3 (omega arith) (omega arith) (omega arith) runs.roof,
            lead_is 1 9 1 (omega arith) (omega arith) (omega arith) runs.wind,
            lead_is 2 10 1 (omega arith) (omega arith) (omega arith) runs.quake,
            lead_is 3 11 1 (omega arith) (omega arith) (omega arith) runs.flood,
            lead_is 4 12 1 (omega arith) (omega arith) (omega arith) runs.ice,
            lead_is 5 13 1 (omega arith) (omega arith) (omega arith) runs.icewind,
          )

      pub named_low : (joint : Bool) → (named_of (chosen_of row places joint) x).low ≡ mask_of case_count (low_in s row kind x)
      unfolding named_of chosen_of above_in low_in
      named_low joint =
          mask_same case_count (λ k. has (gathered_of places (kinds_in row) 3 1) k && ltb 0 (up (neg_ℤ (x k)))) (λ k. has (gathered_of places (kinds_in row) 3 1) k && ltb 0 (down (x k)))
          (λ k m. ap (λ (u : ℕ). has (gathered_of places (kinds_in row) 3 1) k && ltb 0 u) (neg_up (x k)))
          ∙ members_passing (λ j. eqb j permanent_earth) _ (run_passing (λ j. eqb j permanent_earth) 3 1 (omega arith) (omega arith) runs.earth) (λ k. ltb 0 (down (x k)))
          ∙ mask_same case_count (λ k. (eqb (kind k) permanent_earth && factored s row kind k) && ltb 0 (down (x k))) (low_in s row kind x)
          (λ k m. and_exchanged (eqb (kind k) permanent_earth) (factored s row kind k) (ltb 0 (down (x k))))
