-- A case outside the groups takes any factor from lo to hi; of the cases of a group below G at most one takes its factor f, the
-- others 0. An effect is u above zero or d below. No such factors φ give a greater sum of factor × effect than the greatest
-- factors of the positive effects, the least of the negative ones and the best case of each group.
-- Assumes nothing.
use Prim.Native.Nat.{ℕ, zero, suc, ◌+◌, ◌*◌, ◌<◌, ◌≤◌, max}
use native.Mathlib.Nat.{mul-le-mul_right}
use native.Mathlib.Omega.{arith}
use mathlib.Core.Path.{◌≡◌, refl, sym, ◌∙◌, subst}
use lib.Dec.{eqb}
use Rattle.integers.specs.Sums.{when, sum, most}
use Rattle.integers.proofs.Sums.{eqb_cases, ltb_cases, sum_mono, sum_plus, sum_none, sum_only, sum_swap}
use Rattle.optimum.specs.Factors.{worth}

-- what a number adds to the groups, at its own
pub at_group : (G γ x : ℕ) → γ < G → sum G (λ g. when (eqb γ g) x) ≡ x
at_group G γ x l =
    sum_only G γ (λ g. when (eqb γ g) x) l
    (λ j ne. eqb_cases γ j (λ t. when t x ≡ 0) (λ e. absurd (ne (sym e))) (λ _. refl))
    ∙ eqb_cases γ γ (λ t. when t x ≡ x) (λ _. refl) (λ ne. absurd (ne refl))

module _ (grp f u φ : ℕ → ℕ) where
  -- what the acting cases of a group add
  abbrev added : ℕ → ℕ → ℕ
  added g k = when (eqb (grp k) g) (φ k * u k)

  none_acts : (g k : ℕ) → (grp k ≡ g → 0 < φ k → ⊥) → added g k ≡ 0
  none_acts g k h =
      eqb_cases (grp k) g (λ t. when t (φ k * u k) ≡ 0)
      (λ e. let z : φ k ≡ 0 = zero_of (φ k) (h e) in rw z (omega arith)) (λ _. refl)
    where
      zero_of : (x : ℕ) → (0 < x → ⊥) → x ≡ 0
      zero_of zero h = refl
      zero_of (suc x) h = absurd (h (omega arith))

  -- at most one case of the group acts, so all of them add no more than the best
  pub one_bound : (g : ℕ) → ((k : ℕ) → grp k ≡ g → φ k ≤ f k) → ((j k : ℕ) → grp j ≡ g → grp k ≡ g → 0 < φ j → 0 < φ k → j ≡ k) →
      (n : ℕ) → sum n (added g) ≤ most n (worth grp f u g)
  unfolding sum most
  one_bound g le single zero = omega arith
  one_bound g le single (suc n) =
      ltb_cases 0 (φ n) (λ _. sum n (added g) + added g n ≤ max (most n (worth grp f u g)) (worth grp f u g n))
      (λ h. eqb_cases (grp n) g (λ t. sum n (added g) + when t (φ n * u n) ≤ max (most n (worth grp f u g)) (when t (f n * u n)))
      (λ e. omega (
        arith,
        sum_none n (added g) (λ k l. none_acts g k (λ q p. let c : k ≡ n = single k n q e p h in absurd (omega arith))),
        mul-le-mul_right (u n) (le n e),
      ))
      (λ _. omega (arith, one_bound g le single n)))
      (λ h. omega (arith, one_bound g le single n, none_acts g n (λ q p. omega arith)))

between : (l x h u d : ℕ) → l ≤ x → x ≤ h → x * u + l * d ≤ h * u + x * d
between l x h u d p q = omega (arith, mul-le-mul_right d p, mul-le-mul_right u q)

module _ (n G : ℕ) (grp f hi lo u d φ : ℕ → ℕ)
    (own : (k : ℕ) → G ≤ grp k → (lo k ≤ φ k) × (φ k ≤ hi k))
    (grouped : (k : ℕ) → grp k < G → (lo k ≡ 0) × (φ k ≤ f k))
    (single : (j k : ℕ) → grp k < G → grp j ≡ grp k → 0 < φ j → 0 < φ k → j ≡ k) where
  case_bound : (k : ℕ) → φ k * u k + lo k * d k ≤ hi k * u k + sum G (λ g. added grp f u φ g k) + φ k * d k
  case_bound k =
      ltb_cases (grp k) G (λ _. φ k * u k + lo k * d k ≤ hi k * u k + sum G (λ g. added grp f u φ g k) + φ k * d k)
      (λ l. let z : lo k * d k ≡ 0 = none (lo k) (d k) (grouped k l).0 in omega (arith, at_group G (grp k) (φ k * u k) l))
      (λ l. omega (arith, between (lo k) (φ k) (hi k) (u k) (d k) (own k l).0 (own k l).1))
    where
      none : (x y : ℕ) → x ≡ 0 → x * y ≡ 0
      none x y e = rw e (omega arith)

  pub bound : sum n (λ k. φ k * u k) + sum n (λ k. lo k * d k)
      ≤ sum n (λ k. hi k * u k) + sum G (λ g. most n (worth grp f u g)) + sum n (λ k. φ k * d k)
  bound =
      omega (
        arith,
        sum_mono n (λ k. φ k * u k + lo k * d k) (λ k. hi k * u k + sum G (λ g. added grp f u φ g k) + φ k * d k) (λ k l. case_bound k),
        sum_plus n (λ k. φ k * u k) (λ k. lo k * d k),
        sum_plus n (λ k. hi k * u k + sum G (λ g. added grp f u φ g k)) (λ k. φ k * d k),
        sum_plus n (λ k. hi k * u k) (λ k. sum G (λ g. added grp f u φ g k)),
        sum_swap n G (λ k g. added grp f u φ g k),
        sum_mono G (λ g. sum n (added grp f u φ g)) (λ g. most n (worth grp f u g))
            (λ g l. one_bound grp f u φ g (λ k e. (grouped k (subst (λ (x : ℕ). x < G) (sym e) l)).1)
            (λ j k p q. single j k (subst (λ (x : ℕ). x < G) (sym q) l) (p ∙ sym q)) n),
      )
