-- The sets of a row's best combination, as they are worked out from the cases of each kind.
use Rattle.std.specs.Prelude.{ℕ, ◌+◌, ◌*◌, ◌<◌, ◌^◌, Bool, ◌&&◌, List, [], ◌∷◌, ltb, length, ℤ, get_or}
use Rattle.integers.specs.Sums.{when, sum, most, most_at, mask_of, up}
use Rattle.integers.specs.Sets.{has}
use Rattle.standard.specs.Columns.{kinds_in}
use Rattle.standard.specs.declared.Kind.{Kind}
use Rattle.standard.specs.declared.Kind.TheVariants.{Dead}
use Rattle.standard.specs.Kinds.{number_of, group_count, fluid, self_straining}
use Rattle.standard.specs.Combination.{case_count}
use Rattle.envelope.specs.declared.Sign.{Sign}
use Rattle.envelope.specs.declared.Sign.TheVariants.{Minus}
use Rattle.envelope.specs.Signs.{signed}
use Rattle.naming.specs.declared.Chosen.{Chosen}
use Rattle.naming.specs.declared.Sets.{Sets}

-- the bit of the first number that has the greatest value, 0 where no value is above 0
unfoldable pub lead_bit : ℕ → (ℕ → ℕ) → ℕ
lead_bit n g = when (ltb 0 (most n g)) (2 ^ most_at n g)

-- effects with a sign
abbrev pub with_sign : Sign → (ℕ → ℤ) → ℕ → ℤ
with_sign s x k = signed s (x k)

-- of the members below n, those whose effect is above zero, and the first of those with the greatest effect above zero, as sets
unfoldable pub above_in : (ℕ → Bool) → (ℕ → ℤ) → ℕ → ℕ
above_in p x n = mask_of n (λ k. p k && ltb 0 (up (x k)))

unfoldable pub lead_in : (ℕ → Bool) → (ℕ → ℤ) → ℕ → ℕ
lead_in p x n = lead_bit n (λ k. when (p k) (up (x k)))

-- the cases of the kinds from `first` on, `count` of them, that are among the kinds of a set
unfoldable pub gathered_of : List ℕ → (factored first count : ℕ) → ℕ
gathered_of places factored first count = sum count (λ i. when (has factored (first + i)) (get_or places (first + i) 0))

-- the cases of some kinds that are among the kinds of a set
unfoldable pub gathered_in : List ℕ → (factored : ℕ) → List Kind → ℕ
gathered_in places factored kinds =
    sum (length kinds) (λ i. when (has factored (number_of (get_or kinds i Dead))) (get_or places (number_of (get_or kinds i Dead)) 0))

-- by group
abbrev pub group_sets : List ℕ → ℕ → List ℕ
group_sets places factored =
    gathered_of places factored 6 3
    ∷ gathered_of places factored 9 1 ∷ gathered_of places factored 10 1 ∷ gathered_of places factored 11 1
    ∷ gathered_of places factored 12 1 ∷ gathered_of places factored 13 1
    ∷ []

-- in a row; `joint` says that the F cases act
unfoldable pub chosen_of : ℕ → List ℕ → Bool → Chosen
chosen_of row places joint =
    record {
      always = gathered_of places (kinds_in row) 1 1 + gathered_of places (kinds_in row) 3 1 + when joint (gathered_of places (kinds_in row) fluid 1);
      earth = gathered_of places (kinds_in row) 3 1;
      free = gathered_of places (kinds_in row) 4 2 + gathered_of places (kinds_in row) self_straining 1;
      groups = group_sets places (kinds_in row);
    }

-- each is a set of cases, the first made up of three
pub record ChosenInRange (c : Chosen) : Type 0 where
  pub always : c.always < 3 * 2 ^ case_count
  pub earth : c.earth < 2 ^ case_count
  pub free : c.free < 2 ^ case_count
  pub groups : (g : ℕ) → g < group_count → get_or c.groups g 0 < 2 ^ case_count

-- the sets that the cases chosen make: of the groups the leads act
unfoldable pub named_of : Chosen → (ℕ → ℤ) → Sets
named_of c x =
    record {
      acting = c.always + above_in (has c.free) x case_count + sum group_count (λ g. lead_in (has (get_or c.groups g 0)) x case_count);
      low = above_in (has c.earth) (with_sign Minus x) case_count;
    }
