-- Kinds whose cases act all together or not at all: φ gives each case its factor, and w is the factor of each kind.
-- Assumes nothing.
use Prim.Native.Nat.{ℕ, zero, suc, ◌+◌, ◌*◌, ◌<◌, ◌≤◌}
use native.Mathlib.Nat.{mul-le-mul_left}
use native.Mathlib.Omega.{arith}
use mathlib.Core.Path.{◌≡◌, refl, sym, ap, ◌∙◌}
use mathlib.Core.Bool.{Bool, true, false, cond}
use mathlib.Core.Logic.{◌⊎◌, inl, inr}
use lib.Dec.{T, eqb, ltb}
use lib.IntN.{ℤ}
use Rattle.integers.specs.Sums.{when, sum, sum_where, up, down}
use Rattle.integers.proofs.Signs.{one_part}
use Rattle.integers.proofs.Linear.{where_parts}
use Rattle.integers.proofs.Sums.{eqb_cases, ltb_cases, sum_same, sum_mono, sum_plus, sum_none, sum_swap, sum_times}
use Rattle.optimum.proofs.Bound.{at_group}

-- some number below n has a property, or none has
pub some_or_none : (p : ℕ → Bool) (n : ℕ) → ((k : ℕ) × T (p k)) ⊎ ((k : ℕ) → k < n → p k ≡ false)
some_or_none p zero = inr (λ k l. absurd (omega arith))
some_or_none p (suc n) = go (some_or_none p n) (p n) refl
  where
    go : ((k : ℕ) × T (p k)) ⊎ ((k : ℕ) → k < n → p k ≡ false) → (t : Bool) → p n ≡ t → ((k : ℕ) × T (p k)) ⊎ ((k : ℕ) → k < suc n → p k ≡ false)
    go (inl x) t e = inl x
    go (inr h) true e = inl (n, rw e tt)
    go (inr h) false e = inr (λ k l. ltb_cases k n (λ _. p k ≡ false) (h k) (λ m. let q : k ≡ n = omega arith in rw q e))

-- factors in two parts by a test
pub split : (n : ℕ) (test : ℕ → Bool) (φ part : ℕ → ℕ) →
    sum n (λ k. φ k * part k) ≡ sum n (λ k. cond (test k) 0 (φ k) * part k) + sum n (λ k. when (test k) (φ k) * part k)
split n test φ part =
    sum_same n (λ k. φ k * part k) (λ k. cond (test k) 0 (φ k) * part k + when (test k) (φ k) * part k) (λ k l. go (test k) (φ k) (part k))
    ∙ sum_plus n (λ k. cond (test k) 0 (φ k) * part k) (λ k. when (test k) (φ k) * part k)
  where
    go : (t : Bool) (x y : ℕ) → x * y ≡ cond t 0 x * y + when t x * y
    go true x y = omega arith
    go false x y = omega arith

module _ (n : ℕ) (kind φ : ℕ → ℕ) (e : ℕ → ℤ) where
  -- all cases of kind j take the factor a
  abbrev pub AllAt : ℕ → ℕ → Type 0
  AllAt a j = (k : ℕ) → k < n → kind k ≡ j → φ k ≡ a

  abbrev total : ℕ → ℤ
  total j = sum_where n (λ k. eqb (kind k) j) e

  -- what they add, by a part of their effects
  abbrev added : ℕ → (ℕ → ℕ) → ℕ
  added j part = sum n (λ k. when (eqb (kind k) j) (φ k * part k))

  abbrev counted : ℕ → (ℕ → ℕ) → ℕ
  counted j part = sum n (λ k. when (eqb (kind k) j) 1 * part k)

  at_factor : (a j : ℕ) → AllAt a j → (part : ℕ → ℕ) → added j part ≡ a * counted j part
  at_factor a j same part =
      sum_same n (λ k. when (eqb (kind k) j) (φ k * part k)) (λ k. a * (when (eqb (kind k) j) 1 * part k))
      (λ k l. eqb_cases (kind k) j (λ t. when t (φ k * part k) ≡ a * (when t 1 * part k))
      (λ q. let f : φ k ≡ a = same k l q in rw f (omega arith)) (λ _. omega arith))
      ∙ sum_times n a (λ k. when (eqb (kind k) j) 1 * part k)

  parts : (j : ℕ) → up (total j) + counted j (λ k. down (e k)) ≡ counted j (λ k. up (e k)) + down (total j)
  parts j = omega (arith, where_parts n (λ k. eqb (kind k) j) e)

  kind_bound : (w j : ℕ) → AllAt w j ⊎ AllAt 0 j → added j (λ k. up (e k)) ≤ w * up (total j) + added j (λ k. down (e k))
  kind_bound w j (inl all) =
      let m : w * counted j (λ k. up (e k)) ≤ w * (up (total j) + counted j (λ k. down (e k))) = mul-le-mul_left w (omega (arith, parts j)) in
      omega (arith, at_factor w j all (λ k. up (e k)), at_factor w j all (λ k. down (e k)))
  kind_bound w j (inr none) = omega (arith, at_factor 0 j none (λ k. up (e k)))

  kind_exact : (w j : ℕ) → AllAt (when (ltb 0 (up (total j))) w) j → added j (λ k. up (e k)) ≡ w * up (total j) + added j (λ k. down (e k))
  kind_exact w j =
      ltb_cases 0 (up (total j)) (λ t. AllAt (when t w) j → added j (λ k. up (e k)) ≡ w * up (total j) + added j (λ k. down (e k)))
      (λ p all.
      let m : w * counted j (λ k. up (e k)) ≡ w * (up (total j) + counted j (λ k. down (e k))) = ap (λ (x : ℕ). w * x) (omega (arith, parts j, one_part (total j))) in
      omega (arith, at_factor w j all (λ k. up (e k)), at_factor w j all (λ k. down (e k))))
      (λ p none.
      let z : w * up (total j) ≡ w * 0 = ap (λ (x : ℕ). w * x) (omega arith) in
      omega (arith, at_factor 0 j none (λ k. up (e k)), at_factor 0 j none (λ k. down (e k))))

  -- over all kinds below K, which those with a factor are
  module _ (K : ℕ) (w : ℕ → ℕ) (past : (k : ℕ) → K ≤ kind k → φ k ≡ 0) where
    by_kinds : (part : ℕ → ℕ) → sum K (λ j. added j part) ≡ sum n (λ k. φ k * part k)
    by_kinds part =
        sum_swap K n (λ j k. when (eqb (kind k) j) (φ k * part k))
        ∙ sum_same n (λ k. sum K (λ j. when (eqb (kind k) j) (φ k * part k))) (λ k. φ k * part k)
        (λ k l. ltb_cases (kind k) K (λ _. sum K (λ j. when (eqb (kind k) j) (φ k * part k)) ≡ φ k * part k)
        (λ m. at_group K (kind k) (φ k * part k) m)
        (λ m. sum_none K (λ j. when (eqb (kind k) j) (φ k * part k)) (λ j _. eqb_cases (kind k) j (λ t. when t (φ k * part k) ≡ 0) (λ _. none k m) (λ _. refl))
        ∙ sym (none k m)))
      where
        none : (k : ℕ) → K ≤ kind k → φ k * part k ≡ 0
        none k m = rw (past k m) (omega arith)

    -- a total is no more than what the positive effects add
    pub together_most : ((j : ℕ) → AllAt (w j) j) → sum K (λ j. w j * up (total j)) ≤ sum n (λ k. φ k * up (e k))
    together_most all =
        omega (
          arith,
          by_kinds (λ k. up (e k)),
          sum_mono K (λ j. w j * up (total j)) (λ j. added j (λ k. up (e k)))
              (λ j l. let m : w j * up (total j) ≤ w j * counted j (λ k. up (e k)) = mul-le-mul_left (w j) (omega (arith, parts j, one_part (total j))) in
              omega (arith, at_factor (w j) j (all j) (λ k. up (e k)))),
        )

    pub together_bound : ((j : ℕ) → AllAt (w j) j ⊎ AllAt 0 j) →
        sum n (λ k. φ k * up (e k)) ≤ sum K (λ j. w j * up (total j)) + sum n (λ k. φ k * down (e k))
    together_bound all =
        omega (
          arith,
          by_kinds (λ k. up (e k)),
          by_kinds (λ k. down (e k)),
          sum_mono K (λ j. added j (λ k. up (e k))) (λ j. w j * up (total j) + added j (λ k. down (e k))) (λ j l. kind_bound (w j) j (all j)),
          sum_plus K (λ j. w j * up (total j)) (λ j. added j (λ k. down (e k))),
        )

    pub together_exact : ((j : ℕ) → AllAt (when (ltb 0 (up (total j))) (w j)) j) →
        sum n (λ k. φ k * up (e k)) ≡ sum K (λ j. w j * up (total j)) + sum n (λ k. φ k * down (e k))
    together_exact all =
        omega (
          arith,
          by_kinds (λ k. up (e k)),
          by_kinds (λ k. down (e k)),
          sum_same K (λ j. added j (λ k. up (e k))) (λ j. w j * up (total j) + added j (λ k. down (e k))) (λ j l. kind_exact (w j) j (all j)),
          sum_plus K (λ j. w j * up (total j)) (λ j. added j (λ k. down (e k))),
        )
