-- The frames worked by hand hold: each is computed once over the table, and the computed extremes are those over all admissible combinations.
-- Assumes nothing.
use Prim.Native.Nat.{ℕ, ◌≤◌}
use native.Mathlib.Omega.{arith}
use mathlib.Core.Bool.{Bool, true, false, not, ◌&&◌, ◌||◌}
use mathlib.Core.List.{List, [], ◌∷◌}
use mathlib.Core.Path.{◌≡◌, refl, ap, subst}
use lib.Dec.{T, eqb, leb, eqb→eq, leb→le}
use lib.IntN.{ℤ, pos, negsuc, neg_ℤ}
use lib.Signed.{◌≤ℤ◌}
use lib.ListN.{length, get_or-eq_default}
use Rattle.integers.specs.Sums.{sum, sumℤ, sum_where, most}
use Rattle.integers.proofs.Tests.{and_left, and_right, neither}
use Rattle.standard.specs.declared.Settings.{Settings}
use Rattle.standard.specs.declared.Capacities.{Capacities}
use Rattle.standard.specs.Kinds.{class_of}
use Rattle.standard.specs.Range.{method_outside, live_outside, zone_outside, switch_outside, straining_outside, SettingsInRange}
use Rattle.standard.specs.Rows.{factor_of, low_of, plain_rows, flood_rows, ice_rows, open_rows, is_open_row}
use Rattle.standard.specs.Combination.{Combination, Admissible, factored_effect, case_count, denominator_of}
use Rattle.standard.specs.Governing.{Reaches, Maximum, Minimum, Utilisation}
use Rattle.optimum.specs.Row.{lower_of, least_of, greatest_of, group_of, joint_of, total_of, row_maximum, best_combination}
use Rattle.optimum.proofs.RowReached.{row_reached}
use Rattle.envelope.specs.declared.Extreme.{Extreme}
use Rattle.envelope.specs.declared.Utilised.{Utilised}
use Rattle.envelope.specs.Range.{kind_of, listed}
use Rattle.envelope.specs.Envelope.{best_from, best_among, best_over, best_of, governing_of, extreme_in, extreme_of, negated_of, pattern_of, peak_of, utilised_of}
use Rattle.envelope.proofs.Maximum.{named_by, extreme_maximum, extreme_minimum}
use Rattle.envelope.proofs.Utilisation.{named_in, utilisation_greatest}
use Rattle.worked.specs.Worked.{Frame, Claim, maximum, minimum, maximum_in, utilisation, only_n, MaximumIn, Holds, Entry, worked, All, WorkedByHand}

same : ℤ → ℤ → Bool
same (pos a) (pos b) = eqb a b
same (pos a) (negsuc b) = false
same (negsuc a) (pos b) = false
same (negsuc a) (negsuc b) = eqb a b

same_eq : (a b : ℤ) → T (same a b) → a ≡ b
unfolding same
same_eq (pos a) (pos b) t = ap pos (eqb→eq a b t)
same_eq (pos a) (negsuc b) t = absurd t
same_eq (negsuc a) (pos b) t = absurd t
same_eq (negsuc a) (negsuc b) t = ap negsuc (eqb→eq a b t)

alike : Bool → Bool → Bool
alike true b = b
alike false b = not b

alike_eq : (a b : Bool) → T (alike a b) → a ≡ b
unfolding alike
alike_eq true true t = refl
alike_eq true false t = absurd t
alike_eq false true t = absurd t
alike_eq false false t = refl

-- some setting is outside its limits
outside_range : Settings → Bool
outside_range s =
    method_outside s.method || (live_outside s.live || (zone_outside s.zone || (switch_outside s.ice || straining_outside s.method s.straining)))

within_range : (s : Settings) → outside_range s ≡ false → SettingsInRange s
unfolding outside_range
within_range s e =
    let a = neither (method_outside s.method) _ e in
    let b = neither (live_outside s.live) _ a.1 in
    let c = neither (zone_outside s.zone) _ b.1 in
    let d = neither (switch_outside s.ice) _ c.1 in
    record { method = a.0; live = b.0; zone = c.0; ice = d.0; straining = d.1 }

-- a frame that the laws take: settings in range, and no more cases than a sheet has
fair : Frame → Bool
fair f = alike (outside_range f.settings) false && leb (length f.kinds) case_count

module _ (f : Frame) (ok : T (fair f)) where
  range : SettingsInRange f.settings
  unfolding fair
  range =
      within_range f.settings
      (alike_eq (outside_range f.settings) false (and_left (alike (outside_range f.settings) false) (leb (length f.kinds) case_count) ok))

  empty : (k : ℕ) → case_count ≤ k → kind_of f.kinds k ≡ 0
  unfolding fair
  empty k l =
      let m : length f.kinds ≤ case_count = leb→le (length f.kinds) case_count (and_right (alike (outside_range f.settings) false) (leb (length f.kinds) case_count) ok) in
      get_or-eq_default f.kinds 0 (omega arith)

-- the two extremes and the utilisation of a frame, as they are computed
abbrev greatest : Frame → Extreme
greatest f = extreme_of f.settings (kind_of f.kinds) (listed f.effects)

abbrev least : Frame → Extreme
least f = negated_of (extreme_of f.settings (kind_of f.kinds) (λ k. neg_ℤ (listed f.effects k)))

abbrev in_row : Frame → ℕ → ℤ
in_row f row = row_maximum f.settings row (kind_of f.kinds) (listed f.effects)

abbrev used : Frame → Capacities → Utilised
used f p = utilised_of f.settings (kind_of f.kinds) (only_n f.effects) p

-- each of the rows is open and has the number for its maximum
reached : Frame → ℤ → List ℕ → Bool
reached f v [] = true
reached f v (row ∷ rows) = (is_open_row f.settings row && same (in_row f row) v) && reached f v rows

meets : Frame → Claim → Bool
meets f (maximum v) = same (greatest f).value v
meets f (minimum v) = same (least f).value v
meets f (maximum_in v rows) = same (greatest f).value v && reached f v rows
meets f (utilisation p n d pass) = eqb (used f p).numerator n && (eqb (used f p).denominator d && alike (used f p).pass pass)

-- the best combination of such a row is a maximum, where no combination is above
all_reached : (f : Frame) (v : ℤ) →
    ((d : Combination) → Admissible f.settings (kind_of f.kinds) d → factored_effect f.settings (kind_of f.kinds) d (listed f.effects) ≤ℤ v) →
    (rows : List ℕ) → T (reached f v rows) → MaximumIn f v rows
unfolding reached
all_reached f v none [] t = tt
all_reached f v none (row ∷ rows) t =
    let open_and_same = is_open_row f.settings row && same (in_row f row) v in
    let h = and_left open_and_same (reached f v rows) t in (
      (
        best_combination f.settings row (kind_of f.kinds) (listed f.effects),
        refl,
        record {
          none_above = none;
          named =
              subst (Reaches f.settings (kind_of f.kinds) (listed f.effects) (best_combination f.settings row (kind_of f.kinds) (listed f.effects)))
              (same_eq (in_row f row) v (and_right (is_open_row f.settings row) (same (in_row f row) v) h))
              (row_reached f.settings row (kind_of f.kinds) (listed f.effects) (and_left (is_open_row f.settings row) (same (in_row f row) v) h));
        },
      ),
      all_reached f v none rows (and_right open_and_same (reached f v rows) t),
    )

-- the greatest number that is computed is the maximum
greatest_holds : (f : Frame) (v : ℤ) → T (fair f) → T (same (greatest f).value v) → (c : Combination) × Maximum f.settings (kind_of f.kinds) (listed f.effects) c v
greatest_holds f v ok t = (
  named_by (greatest f),
  subst (Maximum f.settings (kind_of f.kinds) (listed f.effects) (named_by (greatest f))) (same_eq (greatest f).value v t)
      (extreme_maximum f.settings (kind_of f.kinds) (range f ok) (empty f ok) (listed f.effects)),
)

-- what is computed holds over all admissible combinations
holds : (f : Frame) (c : Claim) → T (fair f) → T (meets f c) → Holds f c
unfolding meets
holds f (maximum v) ok t = greatest_holds f v ok t
holds f (minimum v) ok t = (
  named_by (least f),
  subst (Minimum f.settings (kind_of f.kinds) (listed f.effects) (named_by (least f))) (same_eq (least f).value v t)
      (extreme_minimum f.settings (kind_of f.kinds) (range f ok) (empty f ok) (listed f.effects)),
)
holds f (maximum_in v rows) ok t =
    let m = greatest_holds f v ok (and_left (same (greatest f).value v) (reached f v rows) t) in
    (m, all_reached f v m.1.none_above rows (and_right (same (greatest f).value v) (reached f v rows) t))
holds f (utilisation p n d pass) ok t =
    let u : Utilised = used f p in
    let r = and_right (eqb u.numerator n) (eqb u.denominator d && alike u.pass pass) t in (
      named_in u,
      subst (λ (b : Bool). Utilisation f.settings (kind_of f.kinds) (only_n f.effects) p (named_in u) n d b)
          (alike_eq u.pass pass (and_right (eqb u.denominator d) (alike u.pass pass) r))
          (subst (λ (y : ℕ). Utilisation f.settings (kind_of f.kinds) (only_n f.effects) p (named_in u) n y u.pass)
          (eqb→eq u.denominator d (and_left (eqb u.denominator d) (alike u.pass pass) r))
          (subst (λ (x : ℕ). Utilisation f.settings (kind_of f.kinds) (only_n f.effects) p (named_in u) x u.denominator u.pass)
          (eqb→eq u.numerator n (and_left (eqb u.numerator n) (eqb u.denominator d && alike u.pass pass) t))
          (utilisation_greatest f.settings (kind_of f.kinds) (range f ok) (empty f ok) (only_n f.effects) p))),
    )

checks : List Entry → Bool
checks [] = true
checks (x ∷ xs) = (fair x.of && meets x.of x.claim) && checks xs

each_holds : (xs : List Entry) → T (checks xs) → All xs
unfolding checks
each_holds [] t = tt
each_holds (x ∷ xs) t =
    let h = and_left (fair x.of && meets x.of x.claim) (checks xs) t in (
      holds x.of x.claim (and_left (fair x.of) (meets x.of x.claim) h) (and_right (fair x.of) (meets x.of x.claim) h),
      each_holds xs (and_right (fair x.of && meets x.of x.claim) (checks xs) t),
    )

table_checks : T (checks worked)
unfolding checks fair outside_range reached meets same alike extreme_in governing_of best_of best_over best_among best_from row_maximum greatest_of least_of lower_of group_of joint_of total_of class_of factor_of low_of plain_rows flood_rows ice_rows open_rows is_open_row pattern_of peak_of utilised_of denominator_of sum sumℤ sum_where most
table_checks = tt

pub worked_by_hand : WorkedByHand
worked_by_hand = each_holds worked table_checks
