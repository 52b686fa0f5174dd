-- Laws of sums, maxima and sets over the numbers below n: equal members, one number more, a sum of one term, values that are multiplied.
-- Assumes nothing.
use Prim.Native.Nat.{ℕ, zero, suc, ◌+◌, ◌*◌, ◌-◌, ◌<◌, ◌≤◌, ◌^◌, max}
use native.Mathlib.Decide.{dec_lt}
use native.Mathlib.Nat.{add-zero, mul-le-mul_left, mul-suc}
use native.Mathlib.Omega.{arith}
use mathlib.Core.Bool.{Bool, true, false, cond, ◌&&◌}
use mathlib.Core.Path.{◌≡◌, refl, sym, ap, ◌∙◌}
use borrow.Author.Tests.{eq-eqb, ne_eqb, lt-ltb, le-ltb, le-leb, lt-leb}
use lib.Dec.{eqb, ltb, leb}
use Rattle.integers.specs.Sums.{when, sum, most, most_at, mask_of}
use Rattle.integers.proofs.Sums.{ltb_cases, sum_same, sum_none, sum_only, most_same, most_times}

-- ---- sets and sums
pub mask_same : (n : ℕ) (p q : ℕ → Bool) → ((k : ℕ) → k < n → p k ≡ q k) → mask_of n p ≡ mask_of n q
unfolding mask_of
mask_same n p q e = sum_same n (λ k. when (p k) (2 ^ k)) (λ k. when (q k) (2 ^ k)) (λ k l. ap (λ (t : Bool). when t (2 ^ k)) (e k l))

pub mask_more : (n : ℕ) (q : ℕ → Bool) (t : Bool) → q n ≡ t → mask_of (suc n) q ≡ mask_of n q + when t (2 ^ n)
unfolding mask_of sum
mask_more n q t e = ap (λ (b : Bool). mask_of n q + when b (2 ^ n)) e

pub mask_skip : (n : ℕ) (q : ℕ → Bool) → q n ≡ false → mask_of (suc n) q ≡ mask_of n q
mask_skip n q e = mask_more n q false e ∙ add-zero (mask_of n q)

pub when_sum : (t : Bool) (n : ℕ) (g : ℕ → ℕ) → when t (sum n g) ≡ sum n (λ k. when t (g k))
when_sum true n g = refl
when_sum false n g = sym (sum_none n (λ k. 0) (λ k l. refl))

-- j is one of the `count` numbers from `first` on
abbrev pub in_run : ℕ → ℕ → ℕ → Bool
in_run first count j = leb first j && ltb j (first + count)

-- of the terms over a run only that of j can be other than 0
module _ (p : ℕ → Bool) (first count j v : ℕ) where
  abbrev term : ℕ → ℕ
  term i = when (p (first + i)) (when (eqb j (first + i)) v)

  other_term : (i : ℕ) → (j ≡ first + i → ⊥) → term i ≡ 0
  other_term i ne = ap (λ (t : Bool). when (p (first + i)) (when t v)) (ne_eqb j (first + i) ne) ∙ none (p (first + i))
    where
      none : (t : Bool) → when t 0 ≡ 0
      none true = refl
      none false = refl

  own_term : (i : ℕ) → first + i ≡ j → term i ≡ when (p j) v
  own_term i e = rw (e, eq-eqb j j refl)

  pub sum_run : sum count term ≡ when (in_run first count j && p j) v
  sum_run = go (dec_lt j first) (dec_lt j (first + count))
    where
      go : Dec (j < first) → Dec (j < first + count) → sum count term ≡ when (in_run first count j && p j) v
      go (yes l) d = sum_none count term (λ i m. other_term i (λ e. omega arith)) ∙ rw (lt-leb first j l)
      go (no l) (no h) =
          sum_none count term (λ i m. other_term i (λ e. omega arith))
          ∙ (let b : leb first j ≡ true = le-leb first j (omega arith) in
          let a : ltb j (first + count) ≡ false = le-ltb j (first + count) (omega arith) in
          rw (b, a))
      go (no l) (yes h) =
          sum_only count (j - first) term (omega arith) (λ i ne. other_term i (λ e. ne (omega arith)))
          ∙ own_term (j - first) (omega arith)
          ∙ (let b : leb first j ≡ true = le-leb first j (omega arith) in rw (b, lt-ltb j (first + count) h))

-- ---- the greatest value
pub most_more : (n : ℕ) (g : ℕ → ℕ) (v : ℕ) → g n ≡ v → most (suc n) g ≡ max (most n g) v
unfolding most
most_more n g v e = ap (λ (y : ℕ). max (most n g) y) e

-- a positive factor keeps the order
pub ltb_times : (w a b : ℕ) → 0 < w → ltb (w * a) (w * b) ≡ ltb a b
ltb_times w a b h =
    ltb_cases a b (λ t. ltb (w * a) (w * b) ≡ t)
    (λ l. let m : w * suc a ≤ w * b = mul-le-mul_left w l in lt-ltb (w * a) (w * b) (omega (arith, mul-suc w a)))
    (λ l. le-ltb (w * a) (w * b) (mul-le-mul_left w l))

-- values that are a positive multiple of others
module _ (w : ℕ) (g h : ℕ → ℕ) where
  pub most_multiple : (n : ℕ) → ((k : ℕ) → k < n → h k ≡ w * g k) → most n h ≡ w * most n g
  most_multiple n e = most_same n h (λ k. w * g k) e ∙ most_times n w g

  pub most_at_multiple : 0 < w → (n : ℕ) → ((k : ℕ) → k < n → h k ≡ w * g k) → most_at n h ≡ most_at n g
  unfolding most_at
  most_at_multiple l zero e = refl
  most_at_multiple l (suc n) e =
      λ i. cond (test i) n (most_at_multiple l n (λ k m. e k (omega arith)) i)
    where
      test : ltb (most n h) (h n) ≡ ltb (most n g) (g n)
      test =
          (λ i. ltb (most_multiple n (λ k m. e k (omega arith)) i) (e n (omega arith) i)) ∙ ltb_times w (most n g) (g n) l
