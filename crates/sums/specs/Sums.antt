-- What one pass over the cases holds of each kind, for the effects and for the effects negated alike. Nothing here needs to be
-- believed.
use Rattle.std.specs.Prelude.{ℕ, zero, suc, ◌+◌, ◌*◌, ◌<◌, ◌≤◌, ◌^◌, max, Bool, true, false, cond, List, [], ◌≡◌, eqb, ltb, ℤ, pos, neg_ℤ, nat_abs, length, get_or}
use Rattle.integers.specs.Sums.{when, sum, most, up, down}
use Rattle.integers.specs.Sets.{has}
use Rattle.standard.specs.declared.Class.{Class}
use Rattle.standard.specs.declared.Class.TheVariants.{Always, Together, Subset, OneOf, Unknown}
use Rattle.standard.specs.Kinds.{class_of, kind_count, fluid}
use Rattle.standard.specs.Combination.{case_count}
use Rattle.optimum.specs.Row.{total_of}
use Rattle.envelope.specs.declared.Sign.{Sign}
use Rattle.envelope.specs.declared.StationSums.{StationSums}
use Rattle.envelope.specs.Range.{kind_of, effect_of, total_at, component_count, effect_most}
use Rattle.envelope.specs.Signs.{over, under}
use Rattle.sums.specs.declared.Sides.{Sides}

-- the parts of an effect: 0 above zero, 1 below
abbrev pub part_of : ℕ → ℤ → ℕ
part_of zero x = up x
part_of (suc t) x = down x

-- at most one case of a group acts: of its kinds the greatest case is held, of the others the sum
abbrev pub alone : Class → Bool
alone Always = false
alone Together = false
alone Subset = false
alone (OneOf g) = true
alone Unknown = false

unfoldable pub joined_by : Bool → ℕ → ℕ → ℕ
joined_by compared a b = cond compared (max a b) (a + b)

unfoldable pub held_by : Bool → ℕ → (ℕ → ℕ) → ℕ
held_by compared n g = cond compared (most n g) (sum n g)

-- of the cases of kind j
abbrev pub held_of : ℕ → ℕ → (ℕ → ℕ) → ℕ
held_of j = held_by (alone (class_of j))

-- the members of a set
abbrev pub among : (ℕ → Bool) → (ℕ → ℕ) → ℕ → ℕ
among p g k = when (p k) (g k)

-- the cases of kind j
abbrev pub of_kind : (ℕ → ℕ) → (ℕ → ℕ) → ℕ → ℕ → ℕ
of_kind kind part j = among (λ k. eqb (kind k) j) part

-- what the members below n make
abbrev pub sides_by : ℕ → ℕ → Sides
sides_by above below = record { above = pos above; below = neg_ℤ (pos below) }

abbrev pub sides_in : Bool → (ℕ → Bool) → (ℕ → ℤ) → ℕ → Sides
sides_in compared p e n = sides_by (held_by compared n (among p (λ k. up (e k)))) (held_by compared n (among p (λ k. down (e k))))

-- the sides of a total
abbrev pub split_of : ℤ → Sides
split_of total = sides_by (up total) (down total)

-- the kinds whose totals are held: 1 and 2, D and F
abbrev pub total_count : ℕ
total_count = 2

-- where no case acts
abbrev pub nothing : Sides
nothing = sides_by 0 0

-- one case more
abbrev pub sides_with : Bool → Sides → ℤ → Sides
sides_with compared s x = sides_by (joined_by compared (up s.above) (up x)) (joined_by compared (down s.below) (down x))

-- each is on its side of zero
pub record SidesInRange (s : Sides) : Type 0 where
  pub above : s.above ≡ pos (up s.above)
  pub below : s.below ≡ neg_ℤ (pos (down s.below))
  pub above_fits : nat_abs s.above < 2 ^ 63
  pub below_fits : nat_abs s.below < 2 ^ 63

pub record SidesRoom (s : Sides) (x : ℤ) : Type 0 where
  pub range : SidesInRange s
  pub above : nat_abs s.above + nat_abs x < 2 ^ 63
  pub below : nat_abs s.below + nat_abs x < 2 ^ 63

-- the greatest sum: every case counts once
abbrev pub sum_most : ℕ
sum_most = case_count * effect_most

-- neither is above a bound
pub record SidesAtMost (s : Sides) (m : ℕ) : Type 0 where
  pub above : nat_abs s.above ≤ m
  pub below : nat_abs s.below ≤ m

-- of kind j on side t
abbrev pub held_at : List (List ℕ) → ℕ → ℕ → ℕ
held_at sums j t = get_or (get_or sums j []) t 0

-- sums of the weighed effects of all cases
pub record SumsInRange (sums : List (List ℕ)) : Type 0 where
  pub each : (j t : ℕ) → 0 < j → j < kind_count → t < 2 → held_at sums j t ≤ sum_most

-- the sides of kind j are put in place of what was held of it
pub record KindPut (before after : ℕ → ℕ → ℕ) (j : ℕ) (s : Sides) : Type 0 where
  pub above : after j 0 ≡ up s.above
  pub below : after j 1 ≡ down s.below
  pub others : (i t : ℕ) → (i ≡ j → ⊥) → after i t ≡ before i t

-- whether what the F cases make on one side is more than on another
abbrev pub fluid_between : (ℕ → ℕ → ℕ) → (above below : ℕ) → Bool
fluid_between held above below = ltb (held fluid below) (held fluid above)

-- on the side of a sign, more than on the other
abbrev pub fluid_acts : (ℕ → ℕ → ℕ) → Sign → Bool
fluid_acts held sign = fluid_between held (over sign) (under sign)

-- The sums of the kinds below m. Of D and F the sides of a total are held, since all their cases act or none; the total is given. Of the
-- others the sums come from the sets of the cases of each kind.
pub record SumsOf (held : ℕ → ℕ → ℕ) (totals : ℕ → ℤ) (places : List ℕ) (e : ℕ → ℤ) (m : ℕ) : Type 0 where
  pub total : (j t : ℕ) → j < total_count → t < 2 → held (suc j) t ≡ part_of t (totals j)
  pub others : (j t : ℕ) → total_count < j → j < m → t < 2 → held j t ≡ held_of j case_count (among (has (get_or places j 0)) (λ k. part_of t (e k)))

-- the same from the kinds of the cases
pub record Summed (held : ℕ → ℕ → ℕ) (kind : ℕ → ℕ) (e : ℕ → ℤ) : Type 0 where
  pub total : (j t : ℕ) → j < total_count → t < 2 → held (suc j) t ≡ part_of t (total_of kind e (suc j))
  pub others : (j t : ℕ) → total_count < j → j < kind_count → t < 2 → held j t ≡ held_of j case_count (of_kind kind (λ k. part_of t (e k)) j)

-- the totals that are held are those of the cases
pub record TotalsOf (totals : ℕ → ℤ) (kind : ℕ → ℕ) (e : ℕ → ℤ) : Type 0 where
  pub each : (j : ℕ) → j < total_count → totals j ≡ total_of kind e (suc j)

-- on each component
pub record AllTotalsOf (totals : ℕ → ℕ → ℤ) (kind : ℕ → ℕ) (effect : ℕ → ℕ → ℤ) : Type 0 where
  pub on : (c : ℕ) → c < component_count → TotalsOf (λ j. totals j c) kind (λ k. effect k c)

-- the totals of a station as they are held
pub record TotalsHeld (totals : StationSums) (kinds : List ℕ) (effects : List ℤ) : Type 0 where
  pub dead_long : length totals.dead ≡ component_count
  pub fluid_long : length totals.fluid ≡ component_count
  pub are : AllTotalsOf (total_at totals) (kind_of kinds) (effect_of effects)

-- the totals of D and F, each in some directions: of the one at j in direction d
abbrev pub total_in : List (List ℤ) → ℕ → ℕ → ℤ
total_in totals d j = get_or (get_or totals j []) d (pos 0)

-- each is a total of weighed effects
pub record TotalsFit (totals : List (List ℤ)) : Type 0 where
  pub each : (d j : ℕ) → nat_abs (total_in totals d j) ≤ sum_most
