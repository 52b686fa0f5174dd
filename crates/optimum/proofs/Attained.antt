-- Factors φ that take the greatest factor of each positive effect, the least of each negative one and the case that leads each
-- group give exactly the bound.
-- Assumes nothing.
use Prim.Native.Nat.{ℕ, zero, suc, ◌+◌, ◌*◌, ◌<◌, ◌≤◌}
use native.Mathlib.Omega.{arith}
use mathlib.Core.Path.{◌≡◌, refl, sym, ap, ◌∙◌}
use mathlib.Core.Bool.{Bool, true, false, ◌&&◌}
use lib.Dec.{eqb, ltb}
use borrow.Author.Tests.{lt-ltb}
use Rattle.integers.specs.Sums.{when, sum, most}
use Rattle.integers.proofs.Sums.{eqb_cases, ltb_cases, sum_same, sum_plus, sum_none, sum_only, sum_swap, most_ge, most_at_lem}
use Rattle.optimum.specs.Factors.{worth, leads}

-- the case that leads a group is the only one that adds to it
module _ (n : ℕ) (grp f u : ℕ → ℕ) (g : ℕ) where
  abbrev led : ℕ → ℕ
  led k = when (eqb (leads n grp f u g) k) (worth grp f u g k)

  pub lead_adds : sum n led ≡ most n (worth grp f u g)
  lead_adds =
      ltb_cases 0 (most n (worth grp f u g)) (λ _. sum n led ≡ most n (worth grp f u g))
      (λ h. let p : (leads n grp f u g < n) × (worth grp f u g (leads n grp f u g) ≡ most n (worth grp f u g)) = most_at_lem n (worth grp f u g) h in
      sum_only n (leads n grp f u g) led p.0
      (λ j ne. eqb_cases (leads n grp f u g) j (λ t. when t (worth grp f u g j) ≡ 0) (λ e. absurd (ne (sym e))) (λ _. refl))
      ∙ eqb_cases (leads n grp f u g) (leads n grp f u g) (λ t. when t (worth grp f u g (leads n grp f u g)) ≡ most n (worth grp f u g))
      (λ _. p.1) (λ ne. absurd (ne refl)))
      (λ h. sum_none n led (λ k l. eqb_cases (leads n grp f u g) k (λ t. when t (worth grp f u g k) ≡ 0)
      (λ _. omega (arith, most_ge n k (worth grp f u g) l)) (λ _. refl))
      ∙ none (most n (worth grp f u g)) h)
    where
      none : (x : ℕ) → x ≤ 0 → 0 ≡ x
      none x h = omega arith

when_none : (b : Bool) → when b 0 ≡ 0
when_none true = refl
when_none false = refl

module _ (n G : ℕ) (grp f hi lo u d φ : ℕ → ℕ)
    (one_sided : (k : ℕ) → 0 < u k → d k ≡ 0)
    (grouped : (k : ℕ) → grp k < G → (hi k ≡ 0) × (lo k ≡ 0))
    (own_up : (k : ℕ) → G ≤ grp k → 0 < u k → φ k ≡ hi k)
    (own_down : (k : ℕ) → G ≤ grp k → 0 < d k → φ k ≡ lo k)
    (leader : (k : ℕ) → grp k < G → φ k ≡ when (eqb (leads n grp f u (grp k)) k && ltb 0 (u k)) (f k)) where
  zero_left : (x y : ℕ) → x ≡ 0 → x * y ≡ 0
  zero_left x y e = rw e (omega arith)

  zero_right : (x y : ℕ) → y ≡ 0 → x * y ≡ 0
  zero_right x y e = rw e (omega arith)

  -- a product with an effect's part, which may be 0
  by_part : (x y z : ℕ) → (0 < z → x ≡ y) → x * z ≡ y * z
  by_part x y zero e = omega arith
  by_part x y (suc z) e = ap (λ (a : ℕ). a * suc z) (e (omega arith))

  -- a case adds to its own group alone, where it leads
  elsewhere : (k g : ℕ) → (g ≡ grp k → ⊥) → led n grp f u g k ≡ 0
  elsewhere k g ne =
      eqb_cases (grp k) g (λ t. when (eqb (leads n grp f u g) k) (when t (f k * u k)) ≡ 0)
      (λ e. absurd (ne (sym e))) (λ _. when_none (eqb (leads n grp f u g) k))

  led_own : (k : ℕ) → grp k < G → sum G (λ g. led n grp f u g k) ≡ when (eqb (leads n grp f u (grp k)) k) (f k * u k)
  led_own k l =
      sum_only G (grp k) (λ g. led n grp f u g k) l (elsewhere k)
      ∙ eqb_cases (grp k) (grp k) (λ t. when (eqb (leads n grp f u (grp k)) k) (when t (f k * u k)) ≡ when (eqb (leads n grp f u (grp k)) k) (f k * u k))
      (λ _. refl) (λ ne. absurd (ne refl))

  led_none : (k : ℕ) → G ≤ grp k → sum G (λ g. led n grp f u g k) ≡ 0
  led_none k l = sum_none G (λ g. led n grp f u g k) (λ g m. elsewhere k g (λ e. omega arith))

  leader_up : (b : Bool) (k : ℕ) → when (b && ltb 0 (u k)) (f k) * u k ≡ when b (f k * u k)
  leader_up true k = by_part (when (ltb 0 (u k)) (f k)) (f k) (u k) (λ h. rw (lt-ltb 0 (u k) h))
  leader_up false k = omega arith

  leader_down : (b : Bool) (k : ℕ) → when (b && ltb 0 (u k)) (f k) * d k ≡ 0
  leader_down true k = ltb_cases 0 (u k) (λ c. when c (f k) * d k ≡ 0) (λ h. zero_right (f k) (d k) (one_sided k h)) (λ _. omega arith)
  leader_down false k = omega arith

  case_up : (k : ℕ) → φ k * u k ≡ hi k * u k + sum G (λ g. led n grp f u g k)
  case_up k =
      ltb_cases (grp k) G (λ _. φ k * u k ≡ hi k * u k + sum G (λ g. led n grp f u g k))
      (λ l. omega (arith, ap (λ (x : ℕ). x * u k) (leader k l), leader_up (eqb (leads n grp f u (grp k)) k) k, led_own k l, zero_left (hi k) (u k) (grouped k l).0))
      (λ l. omega (arith, by_part (φ k) (hi k) (u k) (own_up k l), led_none k l))

  case_down : (k : ℕ) → φ k * d k ≡ lo k * d k
  case_down k =
      ltb_cases (grp k) G (λ _. φ k * d k ≡ lo k * d k)
      (λ l. ap (λ (x : ℕ). x * d k) (leader k l) ∙ leader_down (eqb (leads n grp f u (grp k)) k) k ∙ sym (zero_left (lo k) (d k) (grouped k l).1))
      (λ l. by_part (φ k) (lo k) (d k) (own_down k l))

  pub attained_up : sum n (λ k. φ k * u k) ≡ sum n (λ k. hi k * u k) + sum G (λ g. most n (worth grp f u g))
  attained_up =
      omega (
        arith,
        sum_same n (λ k. φ k * u k) (λ k. hi k * u k + sum G (λ g. led n grp f u g k)) (λ k l. case_up k),
        sum_plus n (λ k. hi k * u k) (λ k. sum G (λ g. led n grp f u g k)),
        sum_swap n G (λ k g. led n grp f u g k),
        sum_same G (λ g. sum n (led n grp f u g)) (λ g. most n (worth grp f u g)) (λ g l. lead_adds n grp f u g),
      )

  pub attained_down : sum n (λ k. φ k * d k) ≡ sum n (λ k. lo k * d k)
  attained_down = sum_same n (λ k. φ k * d k) (λ k. lo k * d k) (λ k l. case_down k)
