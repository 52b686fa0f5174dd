-- Products and sums of integers: a sum of multiples is the multiple of the sum; a sum over members, and what one value changes in it.
-- Assumes nothing.
use Prim.Native.Nat.{ℕ, zero, suc, ◌+◌, ◌*◌, ◌<◌, ◌≤◌}
use native.Mathlib.Decide.{ℕ_discrete}
use native.Mathlib.Omega.{arith}
use mathlib.Core.Bool.{Bool, true, false, cond}
use mathlib.Core.Path.{◌≡◌, refl, sym, ap, ◌∙◌}
use lib.IntN.{ℤ, pos, negsuc, neg_ℤ, ◌+ℤ◌, ◌*ℤ◌, nat_abs}
use Rattle.integers.specs.Sums.{when, sum, sumℤ, sum_where, up, down}
use Rattle.integers.proofs.Signs.{eq_in, add_parts, neg_up, neg_down, abs_add}

-- the product, by parts
pub product_up : (a b : ℤ) → up (a *ℤ b) ≡ up a * up b + down a * down b
product_up (pos a) (pos b) = omega arith
product_up (pos a) (negsuc b) = omega (arith, neg_up (pos (a * suc b)))
product_up (negsuc a) (pos b) = omega (arith, neg_up (pos (suc a * b)))
product_up (negsuc a) (negsuc b) = omega arith

pub product_down : (a b : ℤ) → down (a *ℤ b) ≡ up a * down b + down a * up b
product_down (pos a) (pos b) = omega arith
product_down (pos a) (negsuc b) = omega (arith, neg_down (pos (a * suc b)))
product_down (negsuc a) (pos b) = omega (arith, neg_down (pos (suc a * b)))
product_down (negsuc a) (negsuc b) = omega arith

pub distributes : (a b c : ℤ) → a *ℤ (b +ℤ c) ≡ a *ℤ b +ℤ a *ℤ c
distributes a b c =
    eq_in (a *ℤ (b +ℤ c)) (a *ℤ b +ℤ a *ℤ c)
    (omega (
      arith,
      product_up a (b +ℤ c),
      product_down a (b +ℤ c),
      add_parts (a *ℤ b) (a *ℤ c),
      product_up a b,
      product_down a b,
      product_up a c,
      product_down a c,
      ap (λ (x : ℕ). up a * x) (add_parts b c),
      ap (λ (x : ℕ). down a * x) (add_parts b c),
    ))

pub left_commutes : (a b c : ℤ) → a *ℤ (b *ℤ c) ≡ b *ℤ (a *ℤ c)
left_commutes a b c =
    eq_in (a *ℤ (b *ℤ c)) (b *ℤ (a *ℤ c))
    (omega (
      arith,
      product_up a (b *ℤ c),
      product_down a (b *ℤ c),
      product_up b (a *ℤ c),
      product_down b (a *ℤ c),
      ap (λ (x : ℕ). up a * x) (product_up b c),
      ap (λ (x : ℕ). down a * x) (product_down b c),
      ap (λ (x : ℕ). up a * x) (product_down b c),
      ap (λ (x : ℕ). down a * x) (product_up b c),
      ap (λ (x : ℕ). up b * x) (product_up a c),
      ap (λ (x : ℕ). down b * x) (product_down a c),
      ap (λ (x : ℕ). up b * x) (product_down a c),
      ap (λ (x : ℕ). down b * x) (product_up a c),
    ))

pub minus_one : (x : ℤ) → negsuc 0 *ℤ x ≡ neg_ℤ x
minus_one x = eq_in (negsuc 0 *ℤ x) (neg_ℤ x) (omega (arith, product_up (negsuc 0) x, product_down (negsuc 0) x, neg_up x, neg_down x))

four : (a b c d : ℤ) → (a +ℤ b) +ℤ (c +ℤ d) ≡ (a +ℤ c) +ℤ (b +ℤ d)
four a b c d =
    eq_in ((a +ℤ b) +ℤ (c +ℤ d)) ((a +ℤ c) +ℤ (b +ℤ d))
    (omega (arith, add_parts (a +ℤ b) (c +ℤ d), add_parts (a +ℤ c) (b +ℤ d), add_parts a b, add_parts c d, add_parts a c, add_parts b d))

pub sum_adds : (n : ℕ) (g h : ℕ → ℤ) → sumℤ n (λ k. g k +ℤ h k) ≡ sumℤ n g +ℤ sumℤ n h
unfolding sumℤ
sum_adds zero g h = refl
sum_adds (suc n) g h = ap (λ (x : ℤ). x +ℤ (g n +ℤ h n)) (sum_adds n g h) ∙ four (sumℤ n g) (sumℤ n h) (g n) (h n)

pub sum_scales : (n : ℕ) (a : ℤ) (g : ℕ → ℤ) → sumℤ n (λ k. a *ℤ g k) ≡ a *ℤ sumℤ n g
unfolding sumℤ
sum_scales zero a g = eq_in (pos 0) (a *ℤ pos 0) (omega (arith, product_up a (pos 0), product_down a (pos 0)))
sum_scales (suc n) a g = ap (λ (x : ℤ). x +ℤ a *ℤ g n) (sum_scales n a g) ∙ sym (distributes a (sumℤ n g) (g n))

pub sum_agrees : (n : ℕ) (f g : ℕ → ℤ) → ((k : ℕ) → k < n → f k ≡ g k) → sumℤ n f ≡ sumℤ n g
unfolding sumℤ
sum_agrees zero f g e = refl
sum_agrees (suc n) f g e =
    let p : sumℤ n f ≡ sumℤ n g = sum_agrees n f g (λ k l. e k (omega arith)) in
    let q : f n ≡ g n = e n (omega arith) in
    λ i. p i +ℤ q i

-- one value more or less, taken away and added
replaced : (s a b : ℤ) → s +ℤ a ≡ (s +ℤ b) +ℤ (a +ℤ neg_ℤ b)
replaced s a b =
    eq_in (s +ℤ a) ((s +ℤ b) +ℤ (a +ℤ neg_ℤ b))
    (omega (arith, add_parts s a, add_parts (s +ℤ b) (a +ℤ neg_ℤ b), add_parts s b, add_parts a (neg_ℤ b), neg_up b, neg_down b))

exchanged : (s d a : ℤ) → (s +ℤ d) +ℤ a ≡ (s +ℤ a) +ℤ d
exchanged s d a = eq_in ((s +ℤ d) +ℤ a) ((s +ℤ a) +ℤ d) (omega (arith, add_parts (s +ℤ d) a, add_parts (s +ℤ a) d, add_parts s d, add_parts s a))

-- where one value is another, the sum changes by the difference
pub sum_changed : (n k : ℕ) (g h : ℕ → ℤ) → k < n → ((j : ℕ) → j < n → (j ≡ k → ⊥) → g j ≡ h j) → sumℤ n g ≡ sumℤ n h +ℤ (g k +ℤ neg_ℤ (h k))
unfolding sumℤ
sum_changed zero k g h l same = absurd (omega arith)
sum_changed (suc n) k g h l same = go (λ m. sum_changed n k g h m (λ j b. same j (omega arith))) (ℕ_discrete n k)
  where
    go : (k < n → sumℤ n g ≡ sumℤ n h +ℤ (g k +ℤ neg_ℤ (h k))) → Dec (n ≡ k) → sumℤ n g +ℤ g n ≡ (sumℤ n h +ℤ h n) +ℤ (g k +ℤ neg_ℤ (h k))
    go before (yes e) =
        ap (λ (s : ℤ). s +ℤ g n) (sum_agrees n g h (λ j m. same j (omega arith) (λ q. omega arith)))
        ∙ replaced (sumℤ n h) (g n) (h n) ∙ ap (λ (i : ℕ). (sumℤ n h +ℤ h n) +ℤ (g i +ℤ neg_ℤ (h i))) e
    go before (no ne) =
        let m : k < n = omega arith in
        let last : g n ≡ h n = same n (omega arith) ne in
        (λ i. before m i +ℤ last i) ∙ exchanged (sumℤ n h) (g k +ℤ neg_ℤ (h k)) (h n)

-- ---- over the members
abbrev taken : Bool → ℤ → ℤ
taken t x = cond t x (pos 0)

taken_adds : (t : Bool) (x y : ℤ) → taken t (x +ℤ y) ≡ taken t x +ℤ taken t y
taken_adds true x y = refl
taken_adds false x y = refl

taken_scales : (t : Bool) (a x : ℤ) → taken t (a *ℤ x) ≡ a *ℤ taken t x
taken_scales true a x = refl
taken_scales false a x = eq_in (pos 0) (a *ℤ pos 0) (omega (arith, product_up a (pos 0), product_down a (pos 0)))

taken_most : (t : Bool) (x : ℤ) (m : ℕ) → nat_abs x ≤ m → nat_abs (taken t x) ≤ m
taken_most true x m l = l
taken_most false x m l = omega arith

sum_size : (n m : ℕ) (g : ℕ → ℤ) → ((k : ℕ) → k < n → nat_abs (g k) ≤ m) → nat_abs (sumℤ n g) ≤ n * m
unfolding sumℤ
sum_size zero m g h = omega arith
sum_size (suc n) m g h = omega (arith, abs_add (sumℤ n g) (g n), sum_size n m g (λ k l. h k (omega arith)), h n (omega arith))

sum_zeros : (n : ℕ) → sumℤ n (λ _. pos 0) ≡ pos 0
unfolding sumℤ
sum_zeros zero = refl
sum_zeros (suc n) = ap (λ (x : ℤ). x +ℤ pos 0) (sum_zeros n)

module _ (n : ℕ) where
  pub where_agrees : (p q : ℕ → Bool) (g h : ℕ → ℤ) → ((k : ℕ) → k < n → taken (p k) (g k) ≡ taken (q k) (h k)) → sum_where n p g ≡ sum_where n q h
  unfolding sum_where
  where_agrees p q g h e = sum_agrees n (λ k. taken (p k) (g k)) (λ k. taken (q k) (h k)) e

  pub where_none : (p : ℕ → Bool) (g : ℕ → ℤ) → ((k : ℕ) → k < n → taken (p k) (g k) ≡ pos 0) → sum_where n p g ≡ pos 0
  unfolding sum_where
  where_none p g e = sum_agrees n (λ k. taken (p k) (g k)) (λ _. pos 0) e ∙ sum_zeros n

  module _ (p : ℕ → Bool) where
    pub where_adds : (g h : ℕ → ℤ) → sum_where n p (λ k. g k +ℤ h k) ≡ sum_where n p g +ℤ sum_where n p h
    unfolding sum_where
    where_adds g h =
        ap (sumℤ n) (λ i k. taken_adds (p k) (g k) (h k) i) ∙ sum_adds n (λ k. taken (p k) (g k)) (λ k. taken (p k) (h k))

    pub where_scales : (a : ℤ) (g : ℕ → ℤ) → sum_where n p (λ k. a *ℤ g k) ≡ a *ℤ sum_where n p g
    unfolding sum_where
    where_scales a g = ap (sumℤ n) (λ i k. taken_scales (p k) a (g k) i) ∙ sum_scales n a (λ k. taken (p k) (g k))

    pub where_most : (m : ℕ) (g : ℕ → ℤ) → ((k : ℕ) → k < n → nat_abs (g k) ≤ m) → nat_abs (sum_where n p g) ≤ n * m
    unfolding sum_where
    where_most m g h = sum_size n m (λ k. taken (p k) (g k)) (λ k l. taken_most (p k) (g k) m (h k l))

    -- the value of a member is another
    pub where_changed : (k : ℕ) (g h : ℕ → ℤ) → k < n → p k ≡ true → ((j : ℕ) → j < n → (j ≡ k → ⊥) → g j ≡ h j) →
        sum_where n p g ≡ sum_where n p h +ℤ (g k +ℤ neg_ℤ (h k))
    unfolding sum_where
    where_changed k g h l t same =
        sum_changed n k (λ j. taken (p j) (g j)) (λ j. taken (p j) (h j)) l (λ j m ne. ap (taken (p j)) (same j m ne))
        ∙ ap (λ (b : Bool). sumℤ n (λ j. taken (p j) (h j)) +ℤ (taken b (g k) +ℤ neg_ℤ (taken b (h k)))) t

-- the parts of the sum, from the parts of the members
pub where_parts : (n : ℕ) (p : ℕ → Bool) (e : ℕ → ℤ) →
    up (sum_where n p e) + sum n (λ k. when (p k) 1 * down (e k)) ≡ sum n (λ k. when (p k) 1 * up (e k)) + down (sum_where n p e)
unfolding sum_where sum sumℤ
where_parts zero p e = refl
where_parts (suc n) p e =
    let s : ℤ = sumℤ n (λ k. taken (p k) (e k)) in
    omega (arith, where_parts n p e, add_parts s (taken (p n) (e n)), at_case (p n) (e n))
  where
    at_case : (t : Bool) (x : ℤ) → (up (taken t x) ≡ when t 1 * up x) × (down (taken t x) ≡ when t 1 * down x)
    at_case true x = (omega arith, omega arith)
    at_case false x = (omega arith, omega arith)
