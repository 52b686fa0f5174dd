-- A row's value from the terms is the sum over the kinds of what the factors give.
-- Assumes nothing.
use Prim.Native.Nat.{ℕ, ◌+◌, ◌*◌, ◌<◌, ◌≤◌, max}
use native.Mathlib.Nat.{mul-le-mul_left}
use native.Mathlib.Omega.{arith}
use mathlib.Core.Bool.{Bool}
use mathlib.Core.Path.{◌≡◌, refl, sym, ap, ◌∙◌}
use borrow.Author.Tests.{eq-eqb, ne_eqb}
use lib.Dec.{eqb}
use lib.IntN.{ℤ, pos, neg_ℤ, ◌+ℤ◌, ◌-ℤ◌, ◌*ℤ◌}
use Rattle.integers.specs.Sums.{when, sum, most, up, down}
use Rattle.integers.proofs.Signs.{eq_in, add_parts, neg_up, neg_down, mul_up, mul_down}
use Rattle.integers.proofs.Sums.{ltb_cases, most_same, most_only}
use Rattle.standard.proofs.Table.{tabulate, same_at}
use Rattle.standard.specs.declared.Settings.{Settings}
use Rattle.standard.specs.Kinds.{class_of, kind_count, group_count}
use Rattle.standard.specs.Rows.{factor_of}
use Rattle.optimum.specs.Row.{lower_of, greatest_of, least_of, group_of, joint_of}
use Rattle.terms.specs.Value.{terms_by, own_of, singles_of, value_of}

-- over the kinds, from what is held of each above zero and below
abbrev pub by_group : Settings → ℕ → (ℕ → ℕ) → ℕ → ℕ → ℕ
by_group s row u g j = when (eqb (group_of j) g) (factor_of s row j * u j)

-- what is above zero less what is below
abbrev pub excess : (above below : ℕ → ℕ) → ℕ → ℤ
excess u d j = pos (u j) +ℤ neg_ℤ (pos (d j))

abbrev pub gain_by : Settings → ℕ → (above below : ℕ → ℕ) → ℕ
gain_by s row u d =
    sum kind_count (λ j. greatest_of s row j * u j) + sum group_count (λ g. most kind_count (by_group s row u g))
    + sum kind_count (λ j. joint_of s row j * up (excess u d j))

abbrev pub loss_by : Settings → ℕ → (ℕ → ℕ) → ℕ
loss_by s row d = sum kind_count (λ j. least_of s row j * d j)

-- z is g less l
record Is (z : ℤ) (g l : ℕ) : Type 0 where
  parts : up z + l ≡ g + down z

with_term_lem : {z x : ℤ} {g l a b : ℕ} (f : ℕ) → Is z g l → Is x a b → Is (z +ℤ pos f *ℤ x) (g + f * a) (l + f * b)
with_term_lem {z} {x} f h k =
    record { parts = omega (arith, h.parts, add_parts z (pos f *ℤ x), mul_up f x, mul_down f x, ap (λ (n : ℕ). f * n) k.parts) }

with_pos : {z : ℤ} {g l : ℕ} (m : ℕ) → Is z g l → Is (z +ℤ pos m) (g + m) l
with_pos {z} m h = record { parts = omega (arith, h.parts, add_parts z (pos m)) }

less : (a b : ℕ) → Is (pos a +ℤ neg_ℤ (pos b)) a b
less a b = record { parts = omega (arith, add_parts (pos a) (neg_ℤ (pos b)), neg_up (pos b), neg_down (pos b)) }

none_less : (b : ℕ) → Is (neg_ℤ (pos b)) 0 b
none_less b = record { parts = omega (arith, neg_up (pos b), neg_down (pos b)) }

just : (a : ℕ) → Is (pos a) a 0
just a = record { parts = omega arith }

is_less : {z : ℤ} {g l : ℕ} → Is z g l → z ≡ pos g -ℤ pos l
is_less {z} {g} {l} h = eq_in z (pos g -ℤ pos l) (omega (arith, h.parts, add_parts (pos g) (neg_ℤ (pos l)), neg_up (pos l), neg_down (pos l)))

times_max : (f a b : ℕ) → f * max a b ≡ max (f * a) (f * b)
times_max f a b = ltb_cases a b (λ _. f * max a b ≡ max (f * a) (f * b)) (λ l. up_to a b (omega arith)) (λ l. down_to a b l)
  where
    up_to : (a b : ℕ) → a ≤ b → f * max a b ≡ max (f * a) (f * b)
    up_to a b l = let m : max a b ≡ b = omega arith in let k : f * a ≤ f * b = mul-le-mul_left f l in rw m (omega arith)

    down_to : (a b : ℕ) → b ≤ a → f * max a b ≡ max (f * a) (f * b)
    down_to a b l = let m : max a b ≡ a = omega arith in let k : f * b ≤ f * a = mul-le-mul_left f l in rw m (omega arith)

joined : (own line groups joint m a b c d e : ℕ) → own + joint ≡ line → groups ≡ m + a + b + c + d + e → own + groups + joint ≡ line + m + a + b + c + d + e
joined own line groups joint m a b c d e h k = omega (arith, h, k)

-- three among kinds that give nothing
amid : (z a b c : ℕ) → z ≡ 0 → max (max (max (max (max (max (max (max (max z a) b) c) 0) 0) 0) 0) 0) 0 ≡ max (max a b) c
amid z a b c e = after (max (max (max z a) b) c) ∙ ap (λ (x : ℕ). max (max x b) c) before
  where
    before : max z a ≡ a
    before = omega arith

    after : (x : ℕ) → max (max (max (max (max (max x 0) 0) 0) 0) 0) 0 ≡ x
    after x = omega arith

module _ (s : Settings) (row : ℕ) (u d : ℕ → ℕ) where
  abbrev f : ℕ → ℕ
  f j = factor_of s row j

  -- Hp and Hv have one factor, and so have Lr and R
  earth_one : f 4 ≡ f 3
  unfolding factor_of
  earth_one = refl

  roof_one : f 8 ≡ f 6
  unfolding factor_of
  roof_one = refl

  loss_is : loss_by s row d ≡ 0 + f 1 * d 1 + f 2 * 0 + f 3 * 0 + lower_of s row 3 * d 3 + f 5 * 0 + f 14 * 0 + f 9 * 0 + f 10 * 0 + f 11 * 0 + f 12 * 0 + f 13 * 0
  unfolding sum least_of lower_of class_of
  loss_is = omega arith

  own_is : sum kind_count (λ j. greatest_of s row j * u j) ≡ f 1 * u 1 + f 3 * u 3 + f 4 * u 4 + f 5 * u 5 + f 14 * u 14
  unfolding sum greatest_of class_of
  own_is = omega arith

  -- F alone acts together
  joint_is : sum kind_count (λ j. joint_of s row j * up (excess u d j)) ≡ f 2 * up (excess u d 2)
  unfolding sum joint_of class_of
  joint_is = omega arith

  roof_first : most 6 (by_group s row u 0) ≡ 0
  unfolding most group_of class_of
  roof_first = omega arith

  roof_is : most kind_count (by_group s row u 0) ≡ max (max (f 6 * u 6) (f 7 * u 7)) (f 8 * u 8)
  unfolding most group_of class_of
  roof_is = amid (most 6 (by_group s row u 0)) (f 6 * u 6) (f 7 * u 7) (f 8 * u 8) roof_first

  -- a group that is one kind
  one_kind : (g j : ℕ) → j < kind_count → tabulate (λ i. eqb (group_of i) g) 0 kind_count ≡ tabulate (λ i. eqb i j) 0 kind_count → most kind_count (by_group s row u g) ≡ f j * u j
  one_kind g j l e =
      most_same kind_count (by_group s row u g) (λ i. when (eqb i j) (f i * u i))
      (λ i h. ap (λ (t : Bool). when t (f i * u i)) (same_at (λ k. eqb (group_of k) g) (λ k. eqb k j) 0 kind_count i e (omega arith) (omega arith)))
      ∙ most_only kind_count j (λ i. when (eqb i j) (f i * u i)) l (λ i ne. ap (λ (t : Bool). when t (f i * u i)) (ne_eqb i j ne))
      ∙ ap (λ (t : Bool). when t (f j * u j)) (eq-eqb j j refl)

  wind_is : most kind_count (by_group s row u 1) ≡ f 9 * u 9
  unfolding group_of class_of
  wind_is = one_kind 1 9 (omega arith) refl

  quake_is : most kind_count (by_group s row u 2) ≡ f 10 * u 10
  unfolding group_of class_of
  quake_is = one_kind 2 10 (omega arith) refl

  flood_is : most kind_count (by_group s row u 3) ≡ f 11 * u 11
  unfolding group_of class_of
  flood_is = one_kind 3 11 (omega arith) refl

  ice_is : most kind_count (by_group s row u 4) ≡ f 12 * u 12
  unfolding group_of class_of
  ice_is = one_kind 4 12 (omega arith) refl

  icewind_is : most kind_count (by_group s row u 5) ≡ f 13 * u 13
  unfolding group_of class_of
  icewind_is = one_kind 5 13 (omega arith) refl

  groups_are : sum group_count (λ g. most kind_count (by_group s row u g))
      ≡ most kind_count (by_group s row u 0) + most kind_count (by_group s row u 1) + most kind_count (by_group s row u 2) + most kind_count (by_group s row u 3)
      + most kind_count (by_group s row u 4) + most kind_count (by_group s row u 5)
  unfolding sum
  groups_are = omega arith

  own_line : sum kind_count (λ j. greatest_of s row j * u j) + sum kind_count (λ j. joint_of s row j * up (excess u d j))
      ≡ 0 + f 1 * u 1 + f 2 * up (excess u d 2) + f 3 * (u 3 + u 4) + lower_of s row 3 * 0 + f 5 * u 5 + f 14 * u 14
  own_line = omega (arith, own_is, joint_is, ap (λ (x : ℕ). x * u 4) earth_one)

  roof_line : most kind_count (by_group s row u 0) ≡ max (0 + f 6 * max (u 6) (u 8)) (0 + f 7 * u 7)
  roof_line = omega (arith, roof_is, times_max (f 6) (u 6) (u 8), ap (λ (x : ℕ). x * u 8) roof_one)

  gain_is : gain_by s row u d ≡
      0 + f 1 * u 1 + f 2 * up (excess u d 2) + f 3 * (u 3 + u 4) + lower_of s row 3 * 0 + f 5 * u 5 + f 14 * u 14 + max (0 + f 6 * max (u 6) (u 8)) (0 + f 7 * u 7)
      + f 9 * u 9 + f 10 * u 10 + f 11 * u 11 + f 12 * u 12 + f 13 * u 13
  gain_is =
      joined _ _ _ _ (max (0 + f 6 * max (u 6) (u 8)) (0 + f 7 * u 7)) (f 9 * u 9) (f 10 * u 10) (f 11 * u 11) (f 12 * u 12) (f 13 * u 13) own_line (groups_are ∙ (λ i. roof_line i + wind_is i + quake_is i + flood_is i + ice_is i + icewind_is i))

  -- the line, term by term
  pub by_terms : value_of s row (terms_by u d) ≡ pos (gain_by s row u d) -ℤ pos (loss_by s row d)
  unfolding value_of own_of singles_of terms_by
  by_terms =
      let dead = with_term_lem (f 1) (just 0) (less (u 1) (d 1)) in
      let fluid = with_term_lem (f 2) dead (just (up (excess u d 2))) in
      let earth = with_term_lem (f 3) fluid (just (u 3 + u 4)) in
      let lowered = with_term_lem (lower_of s row 3) earth (none_less (d 3)) in
      let live = with_term_lem (f 5) lowered (just (u 5)) in
      let straining = with_term_lem (f 14) live (just (u 14)) in
      let roof = with_pos (max (0 + f 6 * max (u 6) (u 8)) (0 + f 7 * u 7)) straining in
      let wind = with_term_lem (f 9) roof (just (u 9)) in
      let quake = with_term_lem (f 10) wind (just (u 10)) in
      let flood = with_term_lem (f 11) quake (just (u 11)) in
      let ice = with_term_lem (f 12) flood (just (u 12)) in
      let icewind = with_term_lem (f 13) ice (just (u 13)) in
      is_less icewind ∙ sym (λ i. pos (gain_is i) -ℤ pos (loss_is i))
