-- Linear facts on integers as facts on naturals, which omega reads: an integer is its part above zero less its part below.
-- Assumes nothing.
use Prim.Native.Nat.{ℕ, zero, suc, ◌+◌, ◌*◌, ◌-◌, ◌<◌, ◌≤◌, min}
use native.Mathlib.Nat as NatL
use native.Mathlib.Omega.{arith}
use mathlib.Core.Path.{◌≡◌, refl, sym, ap, ◌∙◌}
use mathlib.Core.Bool.{Bool, true, false, not, cond, false≢true}
use lib.Dec.{T, ltb, ltb→lt, nltb→le, leb→le, le→leb}
use lib.IntN.{ℤ, pos, negsuc, ◌+ℤ◌, ◌*ℤ◌, neg_ℤ, nat_abs, sub_ℕ}
use borrow.Author.Tests.{ltb-true, ltb-false}
use lib.Signed.{◌≤ℤ◌, lt_z, mag}
use Rattle.integers.specs.Sums.{up, down}

-- order and equality, by parts
pub le_in : (a b : ℤ) → up a + down b ≤ up b + down a → a ≤ℤ b
le_in (pos a) (pos b) h = record { le = le→leb a b (omega arith) }
le_in (pos a) (negsuc b) h = absurd (omega arith)
le_in (negsuc a) (pos b) h = record { le = tt }
le_in (negsuc a) (negsuc b) h = record { le = le→leb b a (omega arith) }

pub le_out : (a b : ℤ) → a ≤ℤ b → up a + down b ≤ up b + down a
le_out (pos a) (pos b) h = omega (arith, leb→le a b h.le)
le_out (pos a) (negsuc b) h = absurd h.le
le_out (negsuc a) (pos b) h = omega arith
le_out (negsuc a) (negsuc b) h = omega (arith, leb→le b a h.le)

pub eq_in : (a b : ℤ) → up a + down b ≡ up b + down a → a ≡ b
eq_in (pos a) (pos b) h = ap pos (omega arith)
eq_in (pos a) (negsuc b) h = absurd (omega arith)
eq_in (negsuc a) (pos b) h = absurd (omega arith)
eq_in (negsuc a) (negsuc b) h = ap negsuc (omega arith)

sub_parts : (a b : ℕ) (t : Bool) → (T t → a < b) → (T (not t) → b ≤ a) →
    let z : ℤ = cond t (negsuc (b - suc a)) (pos (a - b)) in up z + b ≡ a + down z
sub_parts a b true f g = let h : a < b = f tt in omega arith
sub_parts a b false f g = let h : b ≤ a = g tt in omega arith

pub sub_up : (a b : ℕ) → up (sub_ℕ a b) + b ≡ a + down (sub_ℕ a b)
sub_up a b = sub_parts a b (ltb a b) (ltb→lt a b) (nltb→le a b)

sub_abs_by : (a b : ℕ) (t : Bool) → (T t → a < b) → (T (not t) → b ≤ a) → nat_abs (cond t (negsuc (b - suc a)) (pos (a - b))) ≤ a + b
sub_abs_by a b true f g = let h : a < b = f tt in omega arith
sub_abs_by a b false f g = let h : b ≤ a = g tt in omega arith

sub_abs : (a b : ℕ) → nat_abs (sub_ℕ a b) ≤ a + b
sub_abs a b = sub_abs_by a b (ltb a b) (ltb→lt a b) (nltb→le a b)

-- the sum, by parts
pub add_parts : (a b : ℤ) → up (a +ℤ b) + (down a + down b) ≡ up a + up b + down (a +ℤ b)
add_parts (pos a) (pos b) = omega arith
add_parts (pos a) (negsuc b) = omega (arith, sub_up a (suc b))
add_parts (negsuc a) (pos b) = omega (arith, sub_up b (suc a))
add_parts (negsuc a) (negsuc b) = omega arith

-- the negation, by parts
pub neg_up : (a : ℤ) → up (neg_ℤ a) ≡ down a
neg_up (pos zero) = refl
neg_up (pos (suc n)) = refl
neg_up (negsuc n) = refl

pub neg_down : (a : ℤ) → down (neg_ℤ a) ≡ up a
neg_down (pos zero) = refl
neg_down (pos (suc n)) = refl
neg_down (negsuc n) = refl

-- the product with a number that is not negative, by parts
pub mul_up : (f : ℕ) (a : ℤ) → up (pos f *ℤ a) ≡ f * up a
mul_up f (pos n) = refl
mul_up f (negsuc n) = neg_up (pos (f * suc n)) ∙ sym (NatL.mul-zero f)

pub mul_down : (f : ℕ) (a : ℤ) → down (pos f *ℤ a) ≡ f * down a
mul_down f (pos n) = sym (NatL.mul-zero f)
mul_down f (negsuc n) = neg_down (pos (f * suc n))

pub abs_parts : (a : ℤ) → nat_abs a ≡ up a + down a
abs_parts (pos n) = omega arith
abs_parts (negsuc n) = omega arith

pub mag_le : (a : ℤ) → mag a ≤ up a + down a
mag_le (pos n) = omega arith
mag_le (negsuc n) = omega arith

pub abs_negated : (a : ℤ) → nat_abs (neg_ℤ a) ≡ nat_abs a
abs_negated a = omega (arith, abs_parts a, abs_parts (neg_ℤ a), neg_up a, neg_down a)

-- one of the two parts is zero
pub apart : (a : ℤ) (P : ℕ → ℕ → Type 0) → ((n : ℕ) → P n 0) → ((n : ℕ) → P 0 (suc n)) → P (up a) (down a)
apart (pos n) P f g = f n
apart (negsuc n) P f g = g n

-- the same as omega reads it
pub one_part : (a : ℤ) → min (up a) (down a) ≡ 0
one_part (pos n) = omega arith
one_part (negsuc n) = omega arith

-- the size of a sum
pub abs_add : (a b : ℤ) → nat_abs (a +ℤ b) ≤ nat_abs a + nat_abs b
abs_add (pos a) (pos b) = omega arith
abs_add (pos a) (negsuc b) = sub_abs a (suc b)
abs_add (negsuc a) (pos b) = omega (arith, sub_abs b (suc a))
abs_add (negsuc a) (negsuc b) = omega arith

abs_neg : (n : ℕ) → nat_abs (neg_ℤ (pos n)) ≡ n
abs_neg zero = refl
abs_neg (suc n) = refl

pub abs_mul : (a b : ℤ) → nat_abs (a *ℤ b) ≡ nat_abs a * nat_abs b
abs_mul (pos a) (pos b) = refl
abs_mul (pos a) (negsuc b) = abs_neg (a * suc b)
abs_mul (negsuc a) (pos b) = abs_neg (suc a * b)
abs_mul (negsuc a) (negsuc b) = refl

pub ≤_trans : {a b c : ℤ} → a ≤ℤ b → b ≤ℤ c → a ≤ℤ c
≤_trans {a} {b} {c} h k = le_in a c (omega (arith, le_out a b h, le_out b c k))

-- a test of two numbers, by parts
pub less_parts : (a b : ℤ) → lt_z a b ≡ true → up a + down b < up b + down a
less_parts (pos a) (pos b) e = omega (arith, ltb-true a b e)
less_parts (pos a) (negsuc b) e = absurd (false≢true e)
less_parts (negsuc a) (pos b) e = omega arith
less_parts (negsuc a) (negsuc b) e = omega (arith, ltb-true b a e)

pub not_less_parts : (a b : ℤ) → lt_z a b ≡ false → up b + down a ≤ up a + down b
not_less_parts (pos a) (pos b) e = omega (arith, ltb-false a b e)
not_less_parts (pos a) (negsuc b) e = omega arith
not_less_parts (negsuc a) (pos b) e = absurd (false≢true (sym e))
not_less_parts (negsuc a) (negsuc b) e = omega (arith, ltb-false b a e)

-- a test of two numbers, as an order
pub less_le : (a b : ℤ) → T (lt_z a b) → a ≤ℤ b
less_le (pos a) (pos b) t = le_in (pos a) (pos b) (omega (arith, ltb→lt a b t))
less_le (pos a) (negsuc b) t = absurd t
less_le (negsuc a) (pos b) t = record { le = tt }
less_le (negsuc a) (negsuc b) t = le_in (negsuc a) (negsuc b) (omega (arith, ltb→lt b a t))
