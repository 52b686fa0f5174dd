-- Laws of sums and maxima over the numbers below n.
-- Assumes nothing.
use Prim.Native.Nat.{ℕ, zero, suc, ◌+◌, ◌*◌, ◌<◌, ◌≤◌, max}
use native.Mathlib.Nat.{mul-le-mul_left, le_antisymm}
use native.Mathlib.Omega.{arith}
use native.Mathlib.Decide.{ℕ_discrete}
use mathlib.Core.Path.{◌≡◌, refl, sym, ◌∙◌, subst}
use mathlib.Core.Bool.{Bool, true, false, not, cond}
use lib.Dec.{T, eqb, ltb, ltb→lt, nltb→le}
use lib.IntN.{ℤ, pos, ◌*ℤ◌}
use borrow.Author.Tests.{eq-eqb, ne_eqb}
use Rattle.integers.specs.Sums.{when, sum, sumℤ, most, most_at, up, down}
use Rattle.integers.proofs.Signs.{add_parts, mul_up, mul_down}

pub when_le : (t : Bool) (x : ℕ) → when t x ≤ x
when_le true x = omega arith
when_le false x = omega arith

-- by cases on a test
pub eqb_cases {ℓ} : (a b : ℕ) (P : Bool → Type ℓ) → (a ≡ b → P true) → ((a ≡ b → ⊥) → P false) → P (eqb a b)
eqb_cases a b P f g = go (ℕ_discrete a b)
  where
    go : Dec (a ≡ b) → P (eqb a b)
    go (yes p) = subst P (sym (eq-eqb a b p)) (f p)
    go (no p) = subst P (sym (ne_eqb a b p)) (g p)

pub ltb_cases {ℓ} : (a b : ℕ) (P : Bool → Type ℓ) → (a < b → P true) → (b ≤ a → P false) → P (ltb a b)
ltb_cases a b P f g = go (ltb a b) (ltb→lt a b) (nltb→le a b)
  where
    go : (t : Bool) → (T t → a < b) → (T (not t) → b ≤ a) → P t
    go true h k = f (h tt)
    go false h k = g (k tt)

-- the last number below suc n, or one below n
last_or {ℓ} : (n k : ℕ) (P : ℕ → Type ℓ) → k < suc n → P n → (k < n → P k) → P k
last_or n k P l h f = go (ℕ_discrete n k)
  where
    go : Dec (n ≡ k) → P k
    go (yes p) = subst P p h
    go (no p) = f (omega arith)

pub sum_mono : (n : ℕ) (g h : ℕ → ℕ) → ((k : ℕ) → k < n → g k ≤ h k) → sum n g ≤ sum n h
unfolding sum
sum_mono zero g h e = omega arith
sum_mono (suc n) g h e = omega (arith, sum_mono n g h (λ k l. e k (omega arith)), e n (omega arith))

pub sum_same : (n : ℕ) (g h : ℕ → ℕ) → ((k : ℕ) → k < n → g k ≡ h k) → sum n g ≡ sum n h
unfolding sum
sum_same zero g h e = refl
sum_same (suc n) g h e = omega (arith, sum_same n g h (λ k l. e k (omega arith)), e n (omega arith))

pub sum_plus : (n : ℕ) (g h : ℕ → ℕ) → sum n (λ k. g k + h k) ≡ sum n g + sum n h
unfolding sum
sum_plus zero g h = refl
sum_plus (suc n) g h = omega (arith, sum_plus n g h)

pub sum_times : (n w : ℕ) (g : ℕ → ℕ) → sum n (λ k. w * g k) ≡ w * sum n g
unfolding sum
sum_times zero w g = omega arith
sum_times (suc n) w g = omega (arith, sum_times n w g)

pub sum_none : (n : ℕ) (g : ℕ → ℕ) → ((k : ℕ) → k < n → g k ≡ 0) → sum n g ≡ 0
unfolding sum
sum_none zero g e = refl
sum_none (suc n) g e = omega (arith, sum_none n g (λ k l. e k (omega arith)), e n (omega arith))

-- one place alone, or in one place more
pub sum_at_lem : (n k d : ℕ) (g h : ℕ → ℕ) → k < n → ((j : ℕ) → (j ≡ k → ⊥) → g j ≡ h j) → g k ≡ d + h k → sum n g ≡ d + sum n h
unfolding sum
sum_at_lem zero k d g h l e f = absurd (omega arith)
sum_at_lem (suc n) k d g h l e f = go (ℕ_discrete n k) (λ m. sum_at_lem n k d g h m e f)
  where
    go : Dec (n ≡ k) → (k < n → sum n g ≡ d + sum n h) → sum n g + g n ≡ d + (sum n h + h n)
    go (yes p) ih = omega (arith, sum_same n g h (λ j m. e j (λ q. omega arith)), subst (λ (x : ℕ). g x ≡ d + h x) (sym p) f)
    go (no p) ih = omega (arith, ih (omega arith), e n p)

pub sum_only : (n k : ℕ) (g : ℕ → ℕ) → k < n → ((j : ℕ) → (j ≡ k → ⊥) → g j ≡ 0) → sum n g ≡ g k
sum_only n k g l e =
    sum_at_lem n k (g k) g (λ j. 0) l e (omega arith) ∙ plus_none (sum_none n (λ j. 0) (λ j m. refl))
  where
    plus_none : sum n (λ j. 0) ≡ 0 → g k + sum n (λ j. 0) ≡ g k
    plus_none z = omega arith

pub sum_swap : (n m : ℕ) (f : ℕ → ℕ → ℕ) → sum n (λ a. sum m (f a)) ≡ sum m (λ b. sum n (λ a. f a b))
unfolding sum
sum_swap zero m f = sym (sum_none m (λ b. 0) (λ k l. refl))
sum_swap (suc n) m f = omega (arith, sum_swap n m f, sum_plus m (λ b. sum n (λ a. f a b)) (f n))

pub sum_le_at : (n k : ℕ) (g : ℕ → ℕ) → k < n → g k ≤ sum n g
unfolding sum
sum_le_at zero k g l = absurd (omega arith)
sum_le_at (suc n) k g l = last_or n k (λ j. g j ≤ sum n g + g n) l (omega arith) (λ m. omega (arith, sum_le_at n k g m))

pub sum_prefix : (m n : ℕ) (g : ℕ → ℕ) → m ≤ n → sum m g ≤ sum n g
unfolding sum
sum_prefix m zero g l = let e : m ≡ 0 = omega arith in rw e (omega arith)
sum_prefix m (suc n) g l = go (ℕ_discrete m (suc n)) (λ k. sum_prefix m n g k)
  where
    go : Dec (m ≡ suc n) → (m ≤ n → sum m g ≤ sum n g) → sum m g ≤ sum n g + g n
    go (yes p) ih = rw p (omega arith)
    go (no p) ih = omega (arith, ih (omega arith))

pub sum_most : (n m : ℕ) (g : ℕ → ℕ) → ((k : ℕ) → k < n → g k ≤ m) → sum n g ≤ n * m
unfolding sum
sum_most zero m g e = omega arith
sum_most (suc n) m g e = omega (arith, sum_most n m g (λ k l. e k (omega arith)), e n (omega arith))

pub most_ge : (n k : ℕ) (g : ℕ → ℕ) → k < n → g k ≤ most n g
unfolding most
most_ge zero k g l = absurd (omega arith)
most_ge (suc n) k g l = last_or n k (λ j. g j ≤ max (most n g) (g n)) l (omega arith) (λ m. omega (arith, most_ge n k g m))

pub most_le : (n m : ℕ) (g : ℕ → ℕ) → ((k : ℕ) → k < n → g k ≤ m) → most n g ≤ m
unfolding most
most_le zero m g e = omega arith
most_le (suc n) m g e = omega (arith, most_le n m g (λ k l. e k (omega arith)), e n (omega arith))

-- only one value can be other than 0
pub most_only : (n k : ℕ) (g : ℕ → ℕ) → k < n → ((j : ℕ) → (j ≡ k → ⊥) → g j ≡ 0) → most n g ≡ g k
most_only n k g h none = le_antisymm (most_le n (g k) g each) (most_ge n k g h)
  where
    each : (j : ℕ) → j < n → g j ≤ g k
    each j l = go (ℕ_discrete j k)
      where
        go : Dec (j ≡ k) → g j ≤ g k
        go (yes e) = subst (λ (i : ℕ). g i ≤ g k) (sym e) (omega arith)
        go (no e) = omega (arith, none j e)

pub most_same : (n : ℕ) (g h : ℕ → ℕ) → ((k : ℕ) → k < n → g k ≡ h k) → most n g ≡ most n h
unfolding most
most_same zero g h e = refl
most_same (suc n) g h e = omega (arith, most_same n g h (λ k l. e k (omega arith)), e n (omega arith))

pub most_times : (n w : ℕ) (g : ℕ → ℕ) → most n (λ k. w * g k) ≡ w * most n g
unfolding most
most_times zero w g = omega arith
most_times (suc n) w g = ltb_cases (g n) (most n g) (λ _. max (most n (λ k. w * g k)) (w * g n) ≡ w * max (most n g) (g n))
    (λ l. left (most n g) (g n) (most n (λ k. w * g k)) (most_times n w g) l)
    (λ l. right (most n g) (g n) (most n (λ k. w * g k)) (most_times n w g) l)
  where
    left : (a b c : ℕ) → c ≡ w * a → b < a → max c (w * b) ≡ w * max a b
    left a b c e l =
        let m : max a b ≡ a = omega arith in
        let k : w * b ≤ w * a = mul-le-mul_left w (omega arith) in
        rw m (omega arith)

    right : (a b c : ℕ) → c ≡ w * a → a ≤ b → max c (w * b) ≡ w * max a b
    right a b c e l =
        let m : max a b ≡ b = omega arith in
        let k : w * a ≤ w * b = mul-le-mul_left w l in
        rw m (omega arith)

-- where the greatest value stands
pub most_at_lem : (n : ℕ) (g : ℕ → ℕ) → 0 < most n g → (most_at n g < n) × (g (most_at n g) ≡ most n g)
unfolding most most_at
most_at_lem zero g h = absurd (omega arith)
most_at_lem (suc n) g h =
    ltb_cases (most n g) (g n) (λ t. (cond t n (most_at n g) < suc n) × (g (cond t n (most_at n g)) ≡ max (most n g) (g n)))
    (λ l. (omega arith, omega arith))
    (λ l. let p : (most_at n g < n) × (g (most_at n g) ≡ most n g) = most_at_lem n g (omega arith) in (omega (arith, p.0), omega (arith, p.1)))

-- a weighted sum of integers, by its parts
pub sum_parts : (n : ℕ) (w : ℕ → ℕ) (e : ℕ → ℤ) →
    up (sumℤ n (λ k. pos (w k) *ℤ e k)) + sum n (λ k. w k * down (e k)) ≡ sum n (λ k. w k * up (e k)) + down (sumℤ n (λ k. pos (w k) *ℤ e k))
unfolding sum sumℤ
sum_parts zero w e = refl
sum_parts (suc n) w e =
    omega (arith, sum_parts n w e, add_parts (sumℤ n (λ k. pos (w k) *ℤ e k)) (pos (w n) *ℤ e n), mul_up (w n) (e n), mul_down (w n) (e n))
