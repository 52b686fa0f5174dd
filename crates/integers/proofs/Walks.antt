-- Walking over a set, lowest member first: a number is the set of its bits, and what is gathered at the end is gathered over all members.
-- Assumes nothing.
use Prim.Native.Nat.{ℕ, zero, suc, ◌+◌, ◌*◌, ◌-◌, ◌/◌, ◌%◌, ◌<◌, ◌≤◌, ◌^◌, min}
use native.Mathlib.Nat as NatL
use native.Mathlib.Decide.{dec_lt}
use native.Mathlib.Omega.{arith}
use mathlib.Core.Bool.{Bool, true, false, false≢true}
use mathlib.Core.Path.{◌≡◌, refl, sym, ap, ◌∙◌, subst}
use borrow.Author.Tests.{eqb-true, le-leb, lt-leb}
use lib.Bits.{bit_and, and_step, and_self}
use lib.Count.{count_trailing_zeros, under}
use lib.Dec.{eqb}
use lib.Pow.{pow_mono, shr-shr}
use Rattle.integers.specs.Sums.{when, sum, mask_of}
use Rattle.integers.specs.Sets.{has, Lowest, onwards}
use Rattle.integers.proofs.Masks.{mask_below, bit_in_mask}
use Rattle.integers.proofs.Sums.{sum_at_lem}

-- ---- the lowest member
has_half : (n k : ℕ) → has n (suc k) ≡ has (n / 2) k
has_half n k = ap (λ (x : ℕ). eqb (x % 2) 1) (sym (shr-shr n 1 k ∙ ap (λ (x : ℕ). n / 2 ^ x) (omega arith)))

pub lowest_bit : (w n : ℕ) → 0 < n → n < 2 ^ w → Lowest n (count_trailing_zeros w n)
unfolding count_trailing_zeros
lowest_bit zero n p h = absurd (omega arith)
lowest_bit (suc w) n p h = go (n % 2) refl (λ q. lowest_bit w (n / 2) q (omega (arith, NatL.pow-suc 2 w)))
  where
    go : (d : ℕ) → n % 2 ≡ d → (0 < n / 2 → Lowest (n / 2) (count_trailing_zeros w (n / 2))) → Lowest n (under d (count_trailing_zeros w (n / 2)))
    go zero e half =
        let l : Lowest (n / 2) (count_trailing_zeros w (n / 2)) = half (omega arith) in
        record { member = has_half n (count_trailing_zeros w (n / 2)) ∙ l.member; first = lower l }
      where
        lower : Lowest (n / 2) (count_trailing_zeros w (n / 2)) → (k : ℕ) → k < suc (count_trailing_zeros w (n / 2)) → has n k ≡ false
        lower l zero q = ap (λ (x : ℕ). eqb (x % 2) 1) (NatL.div-one n) ∙ rw e
        lower l (suc k) q = has_half n k ∙ l.first k (omega arith)
    go (suc d) e half = record { member = ap (λ (x : ℕ). eqb (x % 2) 1) (NatL.div-one n) ∙ one; first = λ k q. absurd (omega arith) }
      where
        one : eqb (n % 2) 1 ≡ true
        one = let o : n % 2 ≡ 1 = omega arith in rw o

-- taking it away
pub without_lowest_lem : (t n : ℕ) → Lowest n t → bit_and n (n - 1) + 2 ^ t ≡ n
without_lowest_lem zero n l = rw (low, same) (omega (arith, odd))
  where
    odd : n % 2 ≡ 1
    odd = eqb-true (n % 2) 1 (sym (ap (λ (x : ℕ). eqb (x % 2) 1) (NatL.div-one n)) ∙ l.member)

    low : bit_and n (n - 1) ≡ bit_and (n / 2) ((n - 1) / 2) * 2 + min (n % 2) ((n - 1) % 2)
    low = and_step n (n - 1)

    same : bit_and (n / 2) ((n - 1) / 2) ≡ n / 2
    same = ap (bit_and (n / 2)) {x = (n - 1) / 2} {y = n / 2} (omega (arith, odd)) ∙ and_self (n / 2)
without_lowest_lem (suc t) n l = rw (and_step n (n - 1), half) (omega (arith, even, some, NatL.pow-suc 2 t, without_lowest_lem t (n / 2) lower))
  where
    even : n % 2 ≡ 0
    even = digit (n % 2) (NatL.mod-lt n (omega arith)) (sym (ap (λ (x : ℕ). eqb (x % 2) 1) (NatL.div-one n)) ∙ l.first 0 (omega arith))
      where
        digit : (d : ℕ) → d < 2 → eqb d 1 ≡ false → d ≡ 0
        digit zero h e = refl
        digit (suc zero) h e = absurd (false≢true (sym e))
        digit (suc (suc d)) h e = absurd (omega arith)

    lower : Lowest (n / 2) t
    lower = record { member = sym (has_half n t) ∙ l.member; first = λ k h. sym (has_half n k) ∙ l.first (suc k) (omega arith) }

    some : 0 < n / 2
    some = go (dec_lt 0 (n / 2))
      where
        go : Dec (0 < n / 2) → 0 < n / 2
        go (yes h) = h
        go (no h) =
            let z : n / 2 ≡ 0 = omega arith in
            absurd (false≢true (sym (ap (λ (x : ℕ). has x t) z ∙ ap (λ (x : ℕ). eqb (x % 2) 1) (NatL.zero-div (2 ^ t))) ∙ lower.member))

    half : bit_and (n / 2) ((n - 1) / 2) ≡ bit_and (n / 2) (n / 2 - 1)
    half = ap (bit_and (n / 2)) {x = (n - 1) / 2} {y = n / 2 - 1} (omega (arith, even, some))

-- ---- a number is the set of its bits
mask_low : (n : ℕ) (p : ℕ → Bool) → mask_of (suc n) p ≡ when (p 0) 1 + 2 * mask_of n (λ k. p (suc k))
unfolding mask_of sum
mask_low zero p = omega arith
mask_low (suc n) p =
    omega (arith, mask_low n p, twice (p (suc n)))
  where
    twice : (t : Bool) → when t (2 ^ suc n) ≡ 2 * when t (2 ^ n)
    twice true = omega (arith, NatL.pow-suc 2 n)
    twice false = refl

pub mask_of_bits : (n m : ℕ) → m < 2 ^ n → mask_of n (has m) ≡ m
unfolding mask_of sum
mask_of_bits zero m h = omega arith
mask_of_bits (suc n) m h =
    omega (
      arith,
      mask_low n (has m),
      ap (mask_of n) (λ i k. has_half m k i),
      mask_of_bits n (m / 2) (omega (arith, NatL.pow-suc 2 n)),
      lowest,
    )
  where
    digit : (d : ℕ) → d < 2 → when (eqb d 1) 1 ≡ d
    digit zero l = refl
    digit (suc zero) l = refl
    digit (suc (suc d)) l = absurd (omega arith)

    lowest : when (has m 0) 1 ≡ m % 2
    lowest = ap (λ (x : ℕ). when (eqb (x % 2) 1) 1) (NatL.div-one m) ∙ digit (m % 2) (NatL.mod-lt m (omega arith))

-- ---- the walk
onwards_yes : (p : ℕ → Bool) (i k : ℕ) → i ≤ k → onwards p i k ≡ p k
onwards_yes p i k h = rw (le-leb i k h)

onwards_no : (p : ℕ → Bool) (i k : ℕ) → k < i → onwards p i k ≡ false
onwards_no p i k h = rw (lt-leb i k h)

member_from : (p : ℕ → Bool) (i k : ℕ) → onwards p i k ≡ true → i ≤ k
member_from p i k e = go (dec_lt k i)
  where
    go : Dec (k < i) → i ≤ k
    go (yes l) = absurd (false≢true (sym (onwards_no p i k l) ∙ e))
    go (no l) = omega arith

-- `rest` has the members from `upto` on, and F of the numbers below it is gathered
pub record Walk {A : Type 0} (p : ℕ → Bool) (n : ℕ) (F : ℕ → A) (rest : ℕ) (a : A) : Type 0 where
  pub upto : ℕ
  pub inside : upto ≤ n
  pub left : rest ≡ mask_of n (onwards p upto)
  pub gathered : a ≡ F upto

-- at the lowest member of the rest
pub record Met {A : Type 0} (p : ℕ → Bool) (n : ℕ) (F : ℕ → A) (rest t : ℕ) (a : A) : Type 0 where
  pub inside : t < n
  pub member : p t ≡ true
  pub held : 2 ^ t ≤ rest
  pub gathered : a ≡ F t
  pub after : (b : A) → b ≡ F (suc t) → Walk p n F (rest - 2 ^ t) b

-- the same where the lowest member is taken away, and `next` is what is left
pub record Turn {A : Type 0} (p : ℕ → Bool) (n : ℕ) (F : ℕ → A) (t next : ℕ) (a : A) : Type 0 where
  pub inside : t < n
  pub member : p t ≡ true
  pub gathered : a ≡ F t
  pub after : (b : A) → b ≡ F (suc t) → Walk p n F next b

pub walk_from : {A : Type 0} (n m : ℕ) (F : ℕ → A) (a : A) → m < 2 ^ n → a ≡ F 0 → Walk (has m) n F m a
walk_from n m F a h e =
    record {
      upto = 0;
      inside = omega arith;
      left = sym (mask_of_bits n m h) ∙ ap (mask_of n) (λ i k. sym (onwards_yes (has m) 0 k (omega arith)) i);
      gathered = e;
    }

-- F does not change at a number that is no member
module _ {A : Type 0} (p : ℕ → Bool) (n : ℕ) (F : ℕ → A) (skips : (k : ℕ) → k < n → p k ≡ false → F (suc k) ≡ F k) where
  skip : (i d : ℕ) → i + d ≤ n → ((k : ℕ) → i ≤ k → k < i + d → p k ≡ false) → F (i + d) ≡ F i
  skip i zero h none = ap F (NatL.add-zero i)
  skip i (suc d) h none =
      ap F (NatL.add-suc i d) ∙ skips (i + d) (omega arith) (none (i + d) (omega arith) (omega arith))
      ∙ skip i d (omega arith) (λ k l m. none k l (omega arith))

  skip_to : (i j : ℕ) → i ≤ j → j ≤ n → ((k : ℕ) → i ≤ k → k < j → p k ≡ false) → F j ≡ F i
  skip_to i j l h none =
      let e : i + (j - i) ≡ j = omega arith in
      ap F (sym e) ∙ skip i (j - i) (omega arith) (λ k a b. none k a (omega arith))

  pub walk_end : (a : A) → Walk p n F 0 a → a ≡ F n
  walk_end a w = w.gathered ∙ sym (skip_to w.upto n w.inside (omega arith) none)
    where
      none : (k : ℕ) → w.upto ≤ k → k < n → p k ≡ false
      none k l h =
          sym (onwards_yes p w.upto k l) ∙ sym (bit_in_mask n (onwards p w.upto) k h)
          ∙ ap (λ (m : ℕ). has m k) (sym w.left) ∙ ap (λ (x : ℕ). eqb (x % 2) 1) (NatL.zero-div (2 ^ k))

  module _ (rest t : ℕ) (a : A) (w : Walk p n F rest a) (low : Lowest rest t) where
    below : t < n
    below = go (dec_lt t n)
      where
        go : Dec (t < n) → t < n
        go (yes h) = h
        go (no h) =
            let from : n ≤ t = omega arith in
            let more : 2 ^ n ≤ 2 ^ t = pow_mono from in
            let small : rest < 2 ^ t = omega (arith, w.left, mask_below n (onwards p w.upto)) in
            absurd (false≢true (ap (λ (x : ℕ). eqb (x % 2) 1) (sym (NatL.div-eq_of_lt small)) ∙ low.member))

    bit_there : (k : ℕ) → k < n → onwards p w.upto k ≡ has rest k
    bit_there k h = sym (bit_in_mask n (onwards p w.upto) k h) ∙ ap (λ (m : ℕ). has m k) (sym w.left)

    there : onwards p w.upto t ≡ true
    there = bit_there t below ∙ low.member

    from : w.upto ≤ t
    from = member_from p w.upto t there

    not_between : (k : ℕ) → w.upto ≤ k → k < t → p k ≡ false
    not_between k l h = sym (onwards_yes p w.upto k l) ∙ bit_there k (omega (arith, below)) ∙ low.first k h

    split : rest ≡ 2 ^ t + mask_of n (onwards p (suc t))
    unfolding mask_of
    split =
        w.left
        ∙ sum_at_lem n t (2 ^ t) (λ k. when (onwards p w.upto k) (2 ^ k)) (λ k. when (onwards p (suc t) k) (2 ^ k)) below others
        (rw (there, onwards_no p (suc t) t (omega arith)) (omega arith))
      where
        agree : (k : ℕ) → (k ≡ t → ⊥) → Dec (k < t) → Dec (k < w.upto) → onwards p w.upto k ≡ onwards p (suc t) k
        agree k ne (yes h) (yes l) = onwards_no p w.upto k l ∙ sym (onwards_no p (suc t) k (omega arith))
        agree k ne (yes h) (no l) =
            onwards_yes p w.upto k (omega arith) ∙ not_between k (omega arith) h ∙ sym (onwards_no p (suc t) k (omega arith))
        agree k ne (no h) d = onwards_yes p w.upto k (omega (arith, from)) ∙ sym (onwards_yes p (suc t) k (omega arith))

        others : (k : ℕ) → (k ≡ t → ⊥) → when (onwards p w.upto k) (2 ^ k) ≡ when (onwards p (suc t) k) (2 ^ k)
        others k ne = ap (λ (b : Bool). when b (2 ^ k)) (agree k ne (dec_lt k t) (dec_lt k w.upto))

    pub walk_meets : Met p n F rest t a
    walk_meets =
        record {
          inside = below;
          member = sym (onwards_yes p w.upto t from) ∙ there;
          held = omega (arith, split);
          gathered = w.gathered ∙ sym (skip_to w.upto t from (omega (arith, below)) not_between);
          after = λ b e. record { upto = suc t; inside = below; left = omega (arith, split); gathered = e };
        }

  pub walk_turn : (rest t next : ℕ) (a : A) → Walk p n F rest a → Lowest rest t → next + 2 ^ t ≡ rest → Turn p n F t next a
  walk_turn rest t next a w low left =
      let m : Met p n F rest t a = walk_meets rest t a w low in
      record {
        inside = m.inside;
        member = m.member;
        gathered = m.gathered;
        after = λ b e. let r : rest - 2 ^ t ≡ next = omega arith in subst (λ (x : ℕ). Walk p n F x b) r (m.after b e);
      }
