-- What the cases of a kind make: none make nothing, one that is no member leaves it, and a member joins it; there is room for each.
-- Assumes nothing.
use Prim.Native.Nat.{ℕ, zero, suc, ◌+◌, ◌*◌, ◌<◌, ◌≤◌, ◌^◌, max}
use native.Mathlib.Omega.{arith}
use mathlib.Core.Bool.{Bool, true, false, cond, false≢true}
use mathlib.Core.Path.{◌≡◌, refl, sym, ap, ◌∙◌}
use lib.IntN.{ℤ, pos, negsuc, neg_ℤ, ◌+ℤ◌, nat_abs}
use Rattle.std.specs.Int.{int_max, int_min}
use Rattle.integers.specs.Sums.{when, sum, most, up, down}
use Rattle.integers.proofs.Signs.{eq_in, add_parts, abs_parts, abs_negated, neg_up, neg_down}
use Rattle.integers.proofs.Sums.{ltb_cases, when_le, sum_le_at, most_le}
use Rattle.integers.proofs.Sums as SumL
use Rattle.standard.specs.Combination.{case_count}
use Rattle.envelope.specs.Range.{effect_most}
use Rattle.sums.specs.declared.Sides.{Sides}
use Rattle.sums.specs.Sums.{part_of, joined_by, held_by, among, sides_by, split_of, sides_in, sides_with, nothing, sum_most, SidesInRange, SidesAtMost, SidesRoom}

-- ---- what is held
held_none : (t : Bool) (g : ℕ → ℕ) → 0 ≡ held_by t 0 g
unfolding held_by sum most
held_none true g = refl
held_none false g = refl

held_more : (t : Bool) (n : ℕ) (g : ℕ → ℕ) → held_by t (suc n) g ≡ joined_by t (held_by t n g) (g n)
unfolding held_by joined_by sum most
held_more true n g = refl
held_more false n g = refl

joined_none : (t : Bool) (a : ℕ) → joined_by t a 0 ≡ a
unfolding joined_by
joined_none true a = omega arith
joined_none false a = omega arith

pub held_le : (t : Bool) (n : ℕ) (g : ℕ → ℕ) → held_by t n g ≤ sum n g
unfolding held_by
held_le true n g = most_le n (sum n g) g (λ k l. sum_le_at n k g l)
held_le false n g = omega arith

pub part_le : (t : ℕ) (x : ℤ) → part_of t x ≤ nat_abs x
part_le zero x = omega (arith, abs_parts x)
part_le (suc t) x = omega (arith, abs_parts x)

-- a number below zero gives back its size
down_back : (n : ℕ) → down (neg_ℤ (pos n)) ≡ n
down_back n = neg_down (pos n)

-- ---- a total
pub split_in_range : (total : ℤ) → nat_abs total < 2 ^ 63 → SidesInRange (split_of total)
split_in_range total l =
    record {
      above = refl;
      below = ap (λ (m : ℕ). neg_ℤ (pos m)) (sym (down_back (down total)));
      above_fits = omega (arith, abs_parts total);
      below_fits = omega (arith, abs_parts total, abs_negated (pos (down total)));
    }

-- ---- the greatest above zero, and the least below
pub greatest : (a b : ℤ) → a ≡ pos (up a) → int_max a b ≡ pos (max (up a) (up b))
greatest (pos n) (pos m) e = ltb_cases m n (λ t. cond t (pos n) (pos m) ≡ pos (max n m)) (λ l. ap pos (omega arith)) (λ l. ap pos (omega arith))
greatest (pos n) (negsuc m) e = ap pos (omega arith)
greatest (negsuc n) b e = absurd (omega (arith, ap down e))

below : (a b : ℕ) → a ≡ b → neg_ℤ (pos a) ≡ neg_ℤ (pos b)
below a b e = ap (λ (n : ℕ). neg_ℤ (pos n)) e

pub least : (a b : ℤ) → a ≡ neg_ℤ (pos (down a)) → int_min a b ≡ neg_ℤ (pos (max (down a) (down b)))
least (pos n) (pos m) e =
    let z : n ≡ 0 = ap up e in
    ltb_cases m n (λ t. cond t (pos m) (pos n) ≡ pos 0) (λ l. absurd (omega arith)) (λ l. ap pos z)
least (pos n) (negsuc m) e = below (suc m) (max 0 (suc m)) (omega arith)
least (negsuc n) (pos m) e = below (suc n) (max (suc n) 0) (omega arith)
least (negsuc n) (negsuc m) e =
    ltb_cases n m (λ t. cond t (negsuc m) (negsuc n) ≡ neg_ℤ (pos (max (suc n) (suc m)))) (λ l. below (suc m) (max (suc n) (suc m)) (omega arith))
    (λ l. below (suc n) (max (suc n) (suc m)) (omega arith))

-- ---- one case more
added_below : (a b : ℤ) → a ≡ neg_ℤ (pos (down a)) → a +ℤ neg_ℤ (pos (down b)) ≡ neg_ℤ (pos (down a + down b))
added_below a b e =
    let d = pos (down b) in
    let s = pos (down a + down b) in
    eq_in (a +ℤ neg_ℤ d) (neg_ℤ s) (omega (arith, add_parts a (neg_ℤ d), neg_up d, neg_down d, neg_up s, neg_down s, ap up e, neg_up (pos (down a))))

module _ (s : Sides) (x a b : ℤ) (h : SidesInRange s) where
  pub compared_sides : (t : Bool) → t ≡ true → a ≡ pos (max (up s.above) (up x)) → b ≡ neg_ℤ (pos (max (down s.below) (down x))) →
      record { above = a; below = b } ≡ sides_with t s x
  unfolding joined_by
  compared_sides true e p q = λ i. record { above = p i; below = q i }
  compared_sides false e p q = absurd (false≢true e)

  pub added_sides : (t : Bool) → t ≡ false → a ≡ s.above +ℤ pos (up x) → b ≡ s.below +ℤ neg_ℤ (pos (down x)) →
      record { above = a; below = b } ≡ sides_with t s x
  unfolding joined_by
  added_sides true e p q = absurd (false≢true (sym e))
  added_sides false e p q =
      λ i. record { above = (p ∙ ap (λ (z : ℤ). z +ℤ pos (up x)) h.above) i; below = (q ∙ added_below s.below x h.below) i }

-- ---- the members
module _ (t : Bool) (p : ℕ → Bool) (e : ℕ → ℤ) where
  pub no_sides : nothing ≡ sides_in t p e 0
  no_sides = λ i. sides_by (held_none t (among p (λ k. up (e k))) i) (held_none t (among p (λ k. down (e k))) i)

  held_skips : (g : ℕ → ℕ) (k : ℕ) → p k ≡ false → held_by t (suc k) (among p g) ≡ held_by t k (among p g)
  held_skips g k q = held_more t k (among p g) ∙ ap (λ (b : Bool). joined_by t (held_by t k (among p g)) (when b (g k))) q ∙ joined_none t (held_by t k (among p g))

  held_joins : (g : ℕ → ℕ) (k : ℕ) → p k ≡ true → joined_by t (held_by t k (among p g)) (g k) ≡ held_by t (suc k) (among p g)
  held_joins g k q = sym (held_more t k (among p g) ∙ ap (λ (b : Bool). joined_by t (held_by t k (among p g)) (when b (g k))) q)

  pub sides_skip : (k : ℕ) → k < case_count → p k ≡ false → sides_in t p e (suc k) ≡ sides_in t p e k
  sides_skip k l q = λ i. sides_by (held_skips (λ n. up (e n)) k q i) (held_skips (λ n. down (e n)) k q i)

  pub sides_join : (k : ℕ) → p k ≡ true → sides_with t (sides_in t p e k) (e k) ≡ sides_in t p e (suc k)
  sides_join k q =
      λ i. sides_by (held_joins (λ n. up (e n)) k q i)
      ((ap (λ (d : ℕ). joined_by t d (down (e k))) (down_back (held_by t k (among p (λ n. down (e n))))) ∙ held_joins (λ n. down (e n)) k q) i)

  -- for effects in range
  module _ (small : (k : ℕ) → nat_abs (e k) ≤ effect_most) where
    pub held_most : (s n : ℕ) → held_by t n (among p (λ k. part_of s (e k))) ≤ n * effect_most
    held_most s n =
        omega (
          arith,
          held_le t n (among p (λ k. part_of s (e k))),
          SumL.sum_most n effect_most (among p (λ k. part_of s (e k))) (λ k l. omega (arith, when_le (p k) (part_of s (e k)), part_le s (e k), small k)),
        )

    pub sides_in_range : (n : ℕ) → n ≤ case_count → SidesInRange (sides_in t p e n)
    sides_in_range n l =
        let d : ℕ = held_by t n (among p (λ k. down (e k))) in
        record {
          above = refl;
          below = ap (λ (m : ℕ). neg_ℤ (pos m)) (sym (down_back d));
          above_fits = omega (arith, held_most 0 n);
          below_fits = omega (arith, abs_negated (pos d), held_most 1 n);
        }

    pub sides_at_most : SidesAtMost (sides_in t p e case_count) sum_most
    sides_at_most =
        record {
          above = omega (arith, held_most 0 case_count);
          below = omega (arith, abs_negated (pos (held_by t case_count (among p (λ k. down (e k))))), held_most 1 case_count);
        }

    pub sides_room : (k : ℕ) → k < case_count → SidesRoom (sides_in t p e k) (e k)
    sides_room k l =
        record {
          range = sides_in_range k (omega arith);
          above = omega (arith, small k, held_most 0 k);
          below = omega (arith, small k, abs_negated (pos (held_by t k (among p (λ n. down (e n))))), held_most 1 k);
        }
