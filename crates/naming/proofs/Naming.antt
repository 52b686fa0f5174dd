-- The cases gathered from some kinds, and the sets made of them: they fit.
-- Assumes nothing.
use Prim.Native.Nat.{ℕ, ◌+◌, ◌*◌, ◌<◌, ◌≤◌, ◌^◌}
use native.Mathlib.Numerals.{add-one}
use native.Mathlib.Omega.{arith}
use mathlib.Core.Bool.{Bool}
use mathlib.Core.List.{List}
use mathlib.Core.Path.{◌≡◌, refl, sym, ◌∙◌}
use lib.IntN.{ℤ}
use lib.ListN.{get_or}
use lib.Pow.{pow-lt, pow_pos}
use Rattle.integers.specs.Sums.{when, sum, most, most_at, up}
use Rattle.integers.specs.Sets.{has}
use Rattle.integers.proofs.Sums.{ltb_cases, most_at_lem, when_le, sum_most}
use Rattle.standard.specs.declared.Kind.{Kind}
use Rattle.standard.specs.declared.Kind.TheVariants.{Dead, Fluid, EarthPermanent, EarthOther, Live, RoofLive, Snow, Rain, Wind, Earthquake, Flood, Ice, WindOnIce, SelfStraining}
use Rattle.standard.specs.Kinds.{number_of, kind_count}
use Rattle.standard.specs.Combination.{case_count}
use Rattle.envelope.specs.Places.{PlacesInRange}
use Rattle.naming.specs.Sets.{lead_bit, lead_in, gathered_of}

-- ---- the cases of a run of kinds
-- there is room for each kind's cases
pub gathered_small : (places : List ℕ) (factored first count : ℕ) → PlacesInRange places → 0 < first → first + count ≤ kind_count →
    gathered_of places factored first count ≤ count * 2 ^ case_count
unfolding gathered_of
gathered_small places factored first count range h l =
    sum_most count (2 ^ case_count) (λ i. when (has factored (first + i)) (get_or places (first + i) 0))
    (λ i m. omega (arith, when_le (has factored (first + i)) (get_or places (first + i) 0), range.each (first + i) (omega arith) (omega arith)))

-- one kind more
pub gathered_more : (places : List ℕ) (factored first i set next : ℕ) → set ≡ gathered_of places factored first i → (t : Bool) → has factored (first + i) ≡ t →
    next ≡ set + when t (get_or places (first + i) 0) → next ≡ gathered_of places factored first (i + 1)
unfolding gathered_of sum
gathered_more places factored first i set next e t h n = rw add-one (n ∙ (λ j. e j + when (sym h j) (get_or places (first + i) 0)))

-- ---- the cases of some kinds
-- a kind has cases of its own
pub numbered : (kind : Kind) → (0 < number_of kind) × (number_of kind < kind_count)
numbered Dead = (omega arith, omega arith)
numbered Fluid = (omega arith, omega arith)
numbered EarthPermanent = (omega arith, omega arith)
numbered EarthOther = (omega arith, omega arith)
numbered Live = (omega arith, omega arith)
numbered RoofLive = (omega arith, omega arith)
numbered Snow = (omega arith, omega arith)
numbered Rain = (omega arith, omega arith)
numbered Wind = (omega arith, omega arith)
numbered Earthquake = (omega arith, omega arith)
numbered Flood = (omega arith, omega arith)
numbered Ice = (omega arith, omega arith)
numbered WindOnIce = (omega arith, omega arith)
numbered SelfStraining = (omega arith, omega arith)

-- those of the first n kinds of a list
abbrev pub gathered_to : List ℕ → ℕ → List Kind → ℕ → ℕ
gathered_to places factored kinds n =
    sum n (λ i. when (has factored (number_of (get_or kinds i Dead))) (get_or places (number_of (get_or kinds i Dead)) 0))

pub gathered_fit : (places : List ℕ) (factored : ℕ) (kinds : List Kind) (n : ℕ) → PlacesInRange places → gathered_to places factored kinds n ≤ n * 2 ^ case_count
gathered_fit places factored kinds n range =
    sum_most n (2 ^ case_count) (λ i. when (has factored (number_of (get_or kinds i Dead))) (get_or places (number_of (get_or kinds i Dead)) 0))
    (λ i m.
    let k = get_or kinds i Dead in
    omega (arith, when_le (has factored (number_of k)) (get_or places (number_of k) 0), range.each (number_of k) (numbered k).0 (numbered k).1))

-- one kind more
pub gathered_next : (places : List ℕ) (factored : ℕ) (kinds : List Kind) (n set next : ℕ) → set ≡ gathered_to places factored kinds n → (t : Bool) →
    has factored (number_of (get_or kinds n Dead)) ≡ t → next ≡ set + when t (get_or places (number_of (get_or kinds n Dead)) 0) → next ≡ gathered_to places factored kinds (n + 1)
unfolding sum
gathered_next places factored kinds n set next e t h m = rw add-one (m ∙ (λ j. e j + when (sym h j) (get_or places (number_of (get_or kinds n Dead)) 0)))

-- ---- the sets named
lead_below : (n : ℕ) (g : ℕ → ℕ) → lead_bit n g < 2 ^ n
unfolding lead_bit
lead_below n g =
    ltb_cases 0 (most n g) (λ t. when t (2 ^ most_at n g) < 2 ^ n) (λ h. pow-lt (most_at_lem n g h).0) (λ _. pow_pos n)

module _ (p : ℕ → Bool) (x : ℕ → ℤ) where
  pub lead_small : lead_in p x case_count < 2 ^ case_count
  unfolding lead_in
  lead_small = lead_below case_count (λ k. when (p k) (up (x k)))

-- the leads of some groups
unfoldable pub leads_of : List ℕ → (ℕ → ℤ) → ℕ → ℕ
leads_of groups x n = sum n (λ g. lead_in (has (get_or groups g 0)) x case_count)

pub leads_none : (groups : List ℕ) (x : ℕ → ℤ) → leads_of groups x 0 ≡ 0
unfolding leads_of sum
leads_none groups x = refl

pub leads_more : (groups : List ℕ) (x : ℕ → ℤ) (n : ℕ) → leads_of groups x n + lead_in (has (get_or groups n 0)) x case_count ≡ leads_of groups x (n + 1)
unfolding leads_of sum
leads_more groups x n = rw add-one refl

pub leads_small : (groups : List ℕ) (x : ℕ → ℤ) (n : ℕ) → leads_of groups x n ≤ n * 2 ^ case_count
unfolding leads_of
leads_small groups x n =
    sum_most n (2 ^ case_count) (λ g. lead_in (has (get_or groups g 0)) x case_count) (λ g _. omega (arith, lead_small (has (get_or groups g 0)) x))
