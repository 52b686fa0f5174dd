-- The cases of a set by their effects, one number at a time: what is no member changes nothing, and a member joins.
-- Assumes nothing.
use Prim.Native.Nat.{ℕ, suc, ◌+◌, ◌<◌, ◌^◌, max}
use native.Mathlib.Omega.{arith}
use mathlib.Core.Bool.{Bool, true, false, cond, ◌&&◌}
use mathlib.Core.Path.{◌≡◌, refl, sym, ap, ◌∙◌}
use borrow.Author.Tests.{lt-ltb}
use lib.Dec.{ltb, leb-suc-zero}
use lib.IntN.{ℤ, pos, negsuc}
use lib.Signed.{lt_z}
use Rattle.std.proofs.Common.{Some, None}
use Rattle.integers.specs.Sums.{when, sum, most, most_at, mask_of, up}
use Rattle.integers.proofs.Folds.{mask_more, mask_skip, most_more}
use Rattle.integers.proofs.Masks.{mask_below}
use Rattle.integers.proofs.Signs.{eq_in, one_part}
use Rattle.integers.specs.Sets.{has, TakesLowest}
use Rattle.integers.proofs.Sums.{ltb_cases}
use Rattle.integers.proofs.Walks.{Walk, Turn, walk_from, walk_turn, walk_end}
use Rattle.standard.specs.Combination.{case_count}
use Rattle.naming.specs.Sets.{lead_bit, above_in, lead_in}

-- a number is above one that is not negative where its part above zero is
pub part_above : (m : ℕ) (x : ℤ) → lt_z (pos m) x ≡ ltb m (up x)
part_above m (pos n) = refl
part_above m (negsuc n) = sym (leb-suc-zero m)

-- the greater of a number and one that is not negative
greater : (m : ℕ) (x : ℤ) → pos (max m (up x)) ≡ cond (ltb m (up x)) x (pos m)
greater m x =
    ltb_cases m (up x) (λ t. pos (max m (up x)) ≡ cond t x (pos m))
    (λ l. eq_in (pos (max m (up x))) x (omega (arith, one_part x)))
    (λ l. ap pos (omega arith))

-- the bit of the first number that has the greatest value
lead_more : (n : ℕ) (g : ℕ → ℕ) (v : ℕ) → g n ≡ v → lead_bit (suc n) g ≡ cond (ltb (most n g) v) (2 ^ n) (lead_bit n g)
unfolding lead_bit most most_at
lead_more n g v e =
    rw (sym e)
    (ltb_cases (most n g) (g n)
    (λ t. when (ltb 0 (max (most n g) (g n))) (2 ^ cond t n (most_at n g)) ≡ cond t (2 ^ n) (when (ltb 0 (most n g)) (2 ^ most_at n g)))
    (λ l. rw (lt-ltb 0 (max (most n g) (g n)) (omega arith)))
    (λ l. let m : max (most n g) (g n) ≡ most n g = omega arith in rw m))

-- the lead and its effect
pub record Led : Type 0 where
  pub lead : ℕ
  pub most : ℤ

module _ (p : ℕ → Bool) (x : ℕ → ℤ) where
  pub above_none : above_in p x 0 ≡ 0
  unfolding above_in mask_of sum
  above_none = refl

  pub above_skip : (n : ℕ) → p n ≡ false → above_in p x (suc n) ≡ above_in p x n
  unfolding above_in
  above_skip n e = mask_skip n (λ k. p k && ltb 0 (up (x k))) (ap (λ (b : Bool). b && ltb 0 (up (x n))) e)

  pub above_join : (n : ℕ) → p n ≡ true → above_in p x (suc n) ≡ above_in p x n + when (lt_z (pos 0) (x n)) (2 ^ n)
  unfolding above_in
  above_join n e =
      mask_more n (λ k. p k && ltb 0 (up (x k))) (lt_z (pos 0) (x n)) (ap (λ (b : Bool). b && ltb 0 (up (x n))) e ∙ sym (part_above 0 (x n)))

  pub above_most : (n : ℕ) → above_in p x n < 2 ^ n
  unfolding above_in
  above_most n = mask_below n (λ k. p k && ltb 0 (up (x k)))

  abbrev value : ℕ → ℕ
  value k = when (p k) (up (x k))

  abbrev pub led : ℕ → Led
  led n = record { lead = lead_in p x n; most = pos (most n value) }

  pub led_none : led 0 ≡ (record { lead = 0; most = pos 0 })
  unfolding lead_in lead_bit most
  led_none = refl

  pub led_skip : (n : ℕ) → p n ≡ false → led (suc n) ≡ led n
  unfolding lead_in
  led_skip n e =
      λ i. record {
        lead = (lead_more n value 0 zero_value ∙ ap (λ (b : Bool). cond b (2 ^ n) (lead_bit n value)) (leb-suc-zero (most n value))) i;
        most = ap pos (most_more n value 0 zero_value ∙ max_none (most n value)) i;
      }
    where
      zero_value : value n ≡ 0
      zero_value = ap (λ (b : Bool). when b (up (x n))) e

      max_none : (m : ℕ) → max m 0 ≡ m
      max_none m = omega arith

  pub led_join : (n : ℕ) (t : Bool) → p n ≡ true → lt_z (led n).most (x n) ≡ t →
      led (suc n) ≡ (record { lead = cond t (2 ^ n) (led n).lead; most = cond t (x n) (led n).most })
  unfolding lead_in
  led_join n t e h =
      λ i. record {
        lead = (lead_more n value (up (x n)) own_value ∙ ap (λ (b : Bool). cond b (2 ^ n) (lead_bit n value)) test) i;
        most =
            (ap pos (most_more n value (up (x n)) own_value) ∙ greater (most n value) (x n)
            ∙ ap (λ (b : Bool). cond b (x n) (pos (most n value))) test)
            i;
      }
    where
      own_value : value n ≡ up (x n)
      own_value = ap (λ (b : Bool). when b (up (x n))) e

      test : ltb (most n value) (up (x n)) ≡ t
      test = sym (part_above (most n value) (x n)) ∙ h

-- ---- the walk over a set
module _ (set : ℕ) (x : ℕ → ℤ) where
  pub above_from : set < 2 ^ case_count → Walk (has set) case_count (above_in (has set) x) set 0
  above_from h = walk_from case_count set (above_in (has set) x) 0 h (sym (above_none (has set) x))

  pub above_turn : {rest k next a : ℕ} → Walk (has set) case_count (above_in (has set) x) rest a → TakesLowest rest (Some k) next →
      Turn (has set) case_count (above_in (has set) x) k next a
  above_turn {rest = rest} {k = k} {next = next} {a = a} w t =
      walk_turn (has set) case_count (above_in (has set) x) (λ n _. above_skip (has set) x n) rest k next a w t.0 t.1

  pub above_end : {rest next a : ℕ} → Walk (has set) case_count (above_in (has set) x) rest a → TakesLowest rest None next → a ≡ above_in (has set) x case_count
  above_end {a = a} w t = walk_end (has set) case_count (above_in (has set) x) (λ n _. above_skip (has set) x n) a (rw t.0 at w)

  pub led_from : set < 2 ^ case_count → Walk (has set) case_count (led (has set) x) set (record { lead = 0; most = pos 0 })
  led_from h = walk_from case_count set (led (has set) x) _ h (sym (led_none (has set) x))

  pub led_turn : {rest k next : ℕ} {a : Led} → Walk (has set) case_count (led (has set) x) rest a → TakesLowest rest (Some k) next →
      Turn (has set) case_count (led (has set) x) k next a
  led_turn {rest = rest} {k = k} {next = next} {a = a} w t =
      walk_turn (has set) case_count (led (has set) x) (λ n _. led_skip (has set) x n) rest k next a w t.0 t.1

  pub led_end : {rest next : ℕ} {a : Led} → Walk (has set) case_count (led (has set) x) rest a → TakesLowest rest None next →
      a.lead ≡ lead_in (has set) x case_count
  led_end {a = a} w t =
      ap (λ (m : Led). m.lead) (walk_end (has set) case_count (led (has set) x) (λ n _. led_skip (has set) x n) a (rw t.0 at w))
