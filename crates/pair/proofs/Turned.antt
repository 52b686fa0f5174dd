-- The sheet with the sign of every effect turned is in range, and some list of readings makes it.
-- Assumes nothing.
use Prim.Native.Nat.{ℕ, zero, suc}
use mathlib.Core.Path.{◌≡◌, refl, ap, ◌∙◌}
use mathlib.Core.List.{List, [], ◌∷◌, map}
use native.Mathlib.Omega.{arith}
use lib.IntN.{ℤ, pos, neg_ℤ, nat_abs}
use lib.ListN.{get_or, length-map}
use Rattle.integers.proofs.Signs.{abs_negated}
use Rattle.sheet.specs.declared.Sheet.{Sheet}
use Rattle.sheet.specs.Sheet.{effect_at, capacity_at, summed}
use Rattle.sheet.specs.Range.{InRange}
use Rattle.demands.proofs.Readings.{range_is_made}
use Rattle.pair.specs.Pair.{TurnedMade}

turned_at : (l : List ℤ) (i : ℕ) → get_or (map neg_ℤ l) i (pos 0) ≡ neg_ℤ (get_or l i (pos 0))
turned_at [] i = refl
turned_at (x ∷ l) zero = refl
turned_at (x ∷ l) (suc i) = turned_at l i

turned_sheet : Sheet → Sheet
turned_sheet s = summed s.settings s.kinds (map neg_ℤ s.effects) s.capacities

turned_effect : (s : Sheet) (k t j : ℕ) → effect_at (turned_sheet s) k t j ≡ neg_ℤ (effect_at s k t j)
unfolding turned_sheet effect_at
turned_effect s k t j = turned_at s.effects _

turned_in_range : {s : Sheet} → InRange s → InRange (turned_sheet s)
unfolding turned_sheet capacity_at
turned_in_range {s} h =
    record {
      settings = h.settings;
      kinds_long = h.kinds_long;
      effects_long = length-map s.effects neg_ℤ ∙ h.effects_long;
      capacities_long = h.capacities_long;
      kinds_range = h.kinds_range;
      effects_range = λ i. omega (arith, ap nat_abs (turned_at s.effects i), abs_negated (get_or s.effects i (pos 0)), h.effects_range i);
      empty_zero = λ k t j e a b c. turned_effect s k t j ∙ ap neg_ℤ (h.empty_zero k t j e a b c);
      sums_true = refl;
      capacities_whole = h.capacities_whole;
    }

pub turned_made : {s : Sheet} → InRange s → TurnedMade s
unfolding turned_sheet capacity_at
turned_made {s} h =
    let l = (range_is_made (turned_sheet s)).0 (turned_in_range h) in
    record {
      list = l.list;
      sheet = turned_sheet s;
      readings = l.readings;
      turned = record { settings = refl; kinds = λ k a. refl; effects = λ k t j a b c. turned_effect s k t j; capacities = λ t j a b. refl };
    }
