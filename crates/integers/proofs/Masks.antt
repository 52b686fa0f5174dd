-- A set as a number: it has no bit from n on, and bit k is set where k is in the set.
-- Assumes nothing.
use Prim.Native.Nat.{ℕ, zero, suc, ◌+◌, ◌*◌, ◌-◌, ◌/◌, ◌%◌, ◌<◌, ◌≤◌, ◌^◌}
use native.Mathlib.Nat as NatL
use native.Mathlib.Decide.{ℕ_discrete, dec_lt}
use native.Mathlib.Omega.{arith}
use mathlib.Core.Bool.{Bool, true, false}
use mathlib.Core.Path.{◌≡◌, sym, ap, ◌∙◌, subst}
use lib.Dec.{eqb}
use lib.Pow.{high, pow-add, pow_pos, pow_mono}
use Rattle.integers.specs.Sums.{when, sum, mask_of}
use Rattle.integers.proofs.Sums.{when_le}

pub mask_below : (n : ℕ) (p : ℕ → Bool) → mask_of n p < 2 ^ n
unfolding mask_of sum
mask_below zero p = omega arith
mask_below (suc n) p = omega (arith, mask_below n p, when_le (p n) (2 ^ n), NatL.pow-suc 2 n)

-- the bits of m with 2 ^ n added or not, where m is below 2 ^ n: the bit n tells which, and a lower bit stays
bit_at : (t : Bool) (m n : ℕ) → m < 2 ^ n → eqb ((m + when t (2 ^ n)) / 2 ^ n % 2) 1 ≡ t
bit_at true m n h = ap (λ (x : ℕ). eqb (x % 2) 1) (ap (λ (x : ℕ). x / 2 ^ n) one ∙ high 1 n h)
  where
    one : m + 2 ^ n ≡ 1 * 2 ^ n + m
    one = omega arith
bit_at false m n h = ap (λ (x : ℕ). eqb (x % 2) 1) (ap (λ (x : ℕ). x / 2 ^ n) (NatL.add-zero m) ∙ NatL.div-eq_of_lt h)

bit_below : (t : Bool) (m k j : ℕ) → (m + when t (2 ^ (suc j + k))) / 2 ^ k % 2 ≡ m / 2 ^ k % 2
bit_below true m k j =
    ap (λ (x : ℕ). (m + x) / 2 ^ k % 2) (pow-add 2 (suc j) k)
    ∙ ap (λ (x : ℕ). x % 2) (NatL.add-mul-div_right m (2 ^ suc j) (pow_pos k))
    ∙ omega (arith, NatL.pow-suc 2 j)
bit_below false m k j = ap (λ (x : ℕ). x / 2 ^ k % 2) (NatL.add-zero m)

pub bit_in_mask : (n : ℕ) (p : ℕ → Bool) (k : ℕ) → k < n → eqb (mask_of n p / 2 ^ k % 2) 1 ≡ p k
unfolding mask_of sum
bit_in_mask zero p k h = absurd (omega arith)
bit_in_mask (suc n) p k h = go (ℕ_discrete n k) (bit_in_mask n p k)
  where
    go : Dec (n ≡ k) → (k < n → eqb (mask_of n p / 2 ^ k % 2) 1 ≡ p k) → eqb ((mask_of n p + when (p n) (2 ^ n)) / 2 ^ k % 2) 1 ≡ p k
    go (yes e) before =
        subst (λ (j : ℕ). eqb ((mask_of n p + when (p n) (2 ^ n)) / 2 ^ j % 2) 1 ≡ p j) e (bit_at (p n) (mask_of n p) n (mask_below n p))
    go (no e) before =
        ap (λ (x : ℕ). eqb x 1)
        (subst (λ (i : ℕ). (mask_of n p + when (p n) (2 ^ i)) / 2 ^ k % 2 ≡ mask_of n p / 2 ^ k % 2)
        {x = suc (n - suc k) + k} {y = n} (omega arith) (bit_below (p n) (mask_of n p) k (n - suc k)))
        ∙ before (omega arith)

pub bit_of_mask : (n : ℕ) (p : ℕ → Bool) → ((k : ℕ) → n ≤ k → p k ≡ false) → (k : ℕ) → eqb (mask_of n p / 2 ^ k % 2) 1 ≡ p k
bit_of_mask n p none k = go (dec_lt k n)
  where
    go : Dec (k < n) → eqb (mask_of n p / 2 ^ k % 2) 1 ≡ p k
    go (yes h) = bit_in_mask n p k h
    go (no h) =
        let from : n ≤ k = omega arith in
        ap (λ (x : ℕ). eqb (x % 2) 1) (NatL.div-eq_of_lt (NatL.lt_of_lt_of_le (mask_below n p) (pow_mono from))) ∙ sym (none k from)
