-- The weights of a pattern of signs are in range, and a pattern is a direction or the opposite of one.
-- Assumes nothing.
use Prim.Native.Nat.{ℕ, ◌*◌, ◌≤◌}
use native.Mathlib.Nat.{mul-le-mul}
use native.Mathlib.Omega.{arith}
use mathlib.Core.Bool.{Bool, true, false, not}
use mathlib.Core.Path.{◌≡◌, refl, sym, ap, ◌∙◌}
use lib.IntN.{ℤ, pos, neg_ℤ, ◌+ℤ◌, ◌*ℤ◌, nat_abs, neg_ℤ-neg_ℤ}
use Rattle.integers.specs.Sums.{up, down}
use Rattle.integers.proofs.Linear.{product_up, product_down}
use Rattle.integers.proofs.Signs.{eq_in, add_parts, neg_up, neg_down, mul_up, mul_down, abs_negated}
use Rattle.standard.specs.Combination.{bit}
use Rattle.standard.specs.declared.Capacities.{Capacities}
use Rattle.envelope.specs.Range.{CapacitiesInRange, WeightsInRange, weight_most}
use Rattle.envelope.specs.Envelope.{weighed, signed_by, pattern_of}
use Rattle.envelope.specs.Directions.{turned, signs_by}

-- a sign leaves the size
signed_size : (t : Bool) (x : ℕ) → nat_abs (signed_by t x) ≡ x
signed_size true x = abs_negated (pos x)
signed_size false x = refl

signed_most : (t : Bool) (a b : ℕ) → a ≤ 10000 → b ≤ 10000 → nat_abs (signed_by t (a * b)) ≤ weight_most
signed_most t a b h k = omega (arith, signed_size t (a * b), mul-le-mul h k)

pub pattern_in_range : (p : Capacities) (i : ℕ) → CapacitiesInRange p → WeightsInRange (pattern_of p i)
unfolding pattern_of
pattern_in_range p i r =
    record {
      n = signed_most (bit i 0) p.y p.z r.y_most r.z_most;
      y = signed_most (bit i 1) p.n p.z r.n_most r.z_most;
      z = signed_most (bit i 2) p.n p.y r.n_most r.y_most;
    }

-- ---- a pattern's weighed effects, from those of the pattern without signs
turns : (t : Bool) (w : ℕ) (x : ℤ) → signed_by t w *ℤ x ≡ turned t (pos w *ℤ x)
turns true w x =
    eq_in (neg_ℤ (pos w) *ℤ x) (neg_ℤ (pos w *ℤ x))
    (omega (
      arith,
      product_up (neg_ℤ (pos w)) x,
      product_down (neg_ℤ (pos w)) x,
      neg_up (pos w *ℤ x),
      neg_down (pos w *ℤ x),
      mul_up w x,
      mul_down w x,
      ap (λ (n : ℕ). n * up x) (neg_up (pos w)),
      ap (λ (n : ℕ). n * down x) (neg_up (pos w)),
      ap (λ (n : ℕ). n * up x) (neg_down (pos w)),
      ap (λ (n : ℕ). n * down x) (neg_down (pos w)),
    ))
turns false w x = refl

grouped : (a b c : ℤ) → a +ℤ b +ℤ c ≡ a +ℤ (b +ℤ c)
grouped a b c = eq_in (a +ℤ b +ℤ c) (a +ℤ (b +ℤ c)) (omega (arith, add_parts (a +ℤ b) c, add_parts a b, add_parts a (b +ℤ c), add_parts b c))

negated_sum : (a b c : ℤ) → neg_ℤ a +ℤ (neg_ℤ b +ℤ neg_ℤ c) ≡ neg_ℤ (a +ℤ (b +ℤ c))
negated_sum a b c =
    eq_in (neg_ℤ a +ℤ (neg_ℤ b +ℤ neg_ℤ c)) (neg_ℤ (a +ℤ (b +ℤ c)))
    (omega (
      arith,
      add_parts (neg_ℤ a) (neg_ℤ b +ℤ neg_ℤ c),
      add_parts (neg_ℤ b) (neg_ℤ c),
      neg_up a,
      neg_down a,
      neg_up b,
      neg_down b,
      neg_up c,
      neg_down c,
      neg_up (a +ℤ (b +ℤ c)),
      neg_down (a +ℤ (b +ℤ c)),
      add_parts a (b +ℤ c),
      add_parts b c,
    ))

turned_not : (t : Bool) (x : ℤ) → turned (not t) x ≡ neg_ℤ (turned t x)
turned_not true x = sym (neg_ℤ-neg_ℤ x)
turned_not false x = refl

module _ (p : Capacities) (effect : ℕ → ℕ → ℤ) (k : ℕ) where
  -- the weighed effects of a pattern with given signs
  by_signs : (i : ℕ) (a b c : Bool) → bit i 0 ≡ a → bit i 1 ≡ b → bit i 2 ≡ c →
      weighed (pattern_of p i) effect k ≡ turned a (pos (p.y * p.z) *ℤ effect k 0) +ℤ (turned b (pos (p.n * p.z) *ℤ effect k 1) +ℤ turned c (pos (p.n * p.y) *ℤ effect k 2))
  unfolding pattern_of
  by_signs i a b c ea eb ec =
      (λ j. (ap (λ (t : Bool). signed_by t (p.y * p.z) *ℤ effect k 0) ea ∙ turns a (p.y * p.z) (effect k 0)) j
      +ℤ (ap (λ (t : Bool). signed_by t (p.n * p.z) *ℤ effect k 1) eb ∙ turns b (p.n * p.z) (effect k 1)) j
      +ℤ (ap (λ (t : Bool). signed_by t (p.n * p.y) *ℤ effect k 2) ec ∙ turns c (p.n * p.y) (effect k 2)) j)
      ∙ grouped (turned a (pos (p.y * p.z) *ℤ effect k 0)) (turned b (pos (p.n * p.z) *ℤ effect k 1)) (turned c (pos (p.n * p.y) *ℤ effect k 2))

  pub pattern_directed : (i : ℕ) (a b : Bool) → bit i 0 ≡ a → bit i 1 ≡ b → bit i 2 ≡ false →
      signs_by a b ((pattern_of p 0).n *ℤ effect k 0) ((pattern_of p 0).y *ℤ effect k 1) ((pattern_of p 0).z *ℤ effect k 2) ≡ weighed (pattern_of p i) effect k
  unfolding pattern_of
  pattern_directed i a b ea eb ec = sym (by_signs i a b false ea eb ec)

  -- the pattern with the opposite signs
  pub pattern_opposed : (i : ℕ) (a b : Bool) → bit i 0 ≡ not a → bit i 1 ≡ not b → bit i 2 ≡ true →
      neg_ℤ (signs_by a b ((pattern_of p 0).n *ℤ effect k 0) ((pattern_of p 0).y *ℤ effect k 1) ((pattern_of p 0).z *ℤ effect k 2)) ≡ weighed (pattern_of p i) effect k
  unfolding pattern_of
  pattern_opposed i a b ea eb ec =
      sym (by_signs i (not a) (not b) true ea eb ec
      ∙ (λ j. turned_not a (pos (p.y * p.z) *ℤ effect k 0) j +ℤ (turned_not b (pos (p.n * p.z) *ℤ effect k 1) j +ℤ neg_ℤ (pos (p.n * p.y) *ℤ effect k 2)))
      ∙ negated_sum (turned a (pos (p.y * p.z) *ℤ effect k 0)) (turned b (pos (p.n * p.z) *ℤ effect k 1)) (pos (p.n * p.y) *ℤ effect k 2))
