-- SCOPE 4.2 and 4.3: which sets of cases may act and be low in a row. Sets of cases are numbers, case k being bit k (SCOPE 6.2).
use Rattle.std.specs.Prelude.{ℕ, zero, suc, ◌-◌, ◌^◌, ◌≤◌, max, Bool, cond, not, ◌&&◌, ◌||◌, List, ◌==◌, bit_and, bit_or, nat_le, slice_index, map, unwrap_or}
use Rattle.recheck_combinations.specs.declared.Rules.{Rules}
use Rattle.recheck_combinations.specs.declared.Term.{Term}

-- the kinds of the places in a row (SCOPE 2.3), 0 for an empty place, and their full factors
abbrev pub kinds_of : List Term → List ℕ
kinds_of terms = map (λ t. unwrap_or t.case.kind 0) terms

abbrev pub factors_of : List Term → List ℕ
factors_of terms = map (λ t. t.factor) terms

-- whether a place has a factor and a case of kinds `first` to `last`
abbrev pub is_of : Term → ℕ → ℕ → Bool
is_of term first last = not (term.factor == 0) && nat_le first (unwrap_or term.case.kind 0) && nat_le (unwrap_or term.case.kind 0) last

-- those of so many places whose case is of kinds `first` to `last` and has a factor
unfoldable pub having : List ℕ → List ℕ → ℕ → ℕ → ℕ → ℕ
having kinds factors first last zero = 0
having kinds factors first last (suc n) =
    cond (not (slice_index factors n == 0) && nat_le first (slice_index kinds n) && nat_le (slice_index kinds n) last)
    (bit_or (having kinds factors first last n) (2 ^ n))
    (having kinds factors first last n)

-- the kinds under each rule of SCOPE 4.2; L, Hv and T are under none but `may`, so that any subset of them acts
unfoldable pub rules_of : List ℕ → List ℕ → Rules
rules_of kinds factors = record {
  always = bit_or (having kinds factors 1 1 32) (having kinds factors 3 3 32);
  fluid = having kinds factors 2 2 32;
  may = having kinds factors 1 14 32;
  roof = having kinds factors 6 8 32;
  wind = having kinds factors 9 9 32;
  earthquake = having kinds factors 10 10 32;
  flood = having kinds factors 11 11 32;
  ice_weight = having kinds factors 12 12 32;
  ice_wind = having kinds factors 13 13 32;
  hp = having kinds factors 3 3 32;
}

abbrev pub within : ℕ → ℕ → Bool
within set all = (bit_or set all) == all

-- `set` being the members of `all` that act
abbrev pub all_or_none : ℕ → ℕ → Bool
all_or_none set all = set == 0 || set == all

-- at most one bit: 1 less has only bits below it
abbrev pub at_most_one : ℕ → Bool
at_most_one set = (bit_and set (set - 1)) == 0

-- whether a set of cases may act (SCOPE 4.2)
unfoldable pub may_act : Rules → ℕ → Bool
may_act r acting =
    within acting r.may
    && within r.always acting
    && all_or_none (bit_and acting r.fluid) r.fluid
    && at_most_one (bit_and acting r.roof)
    && at_most_one (bit_and acting r.wind)
    && at_most_one (bit_and acting r.earthquake)
    && at_most_one (bit_and acting r.flood)
    && at_most_one (bit_and acting r.ice_weight)
    && at_most_one (bit_and acting r.ice_wind)

-- whether a set may be low: it holds acting Hp cases only (SCOPE 4.3)
abbrev pub may_be_low : Rules → ℕ → ℕ → Bool
may_be_low r acting low = within low (bit_and acting r.hp)

-- no factor is above both 2,000 and the sheet's factor for T
abbrev pub Factors : ℕ → List ℕ → Type 0
Factors straining factors = (k : ℕ) → slice_index factors k ≤ max 2000 straining
