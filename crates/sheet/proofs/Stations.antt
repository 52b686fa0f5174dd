-- The station of a sheet in range is in the envelope's range, its effects are those that the accessor gives, and its sums are the totals.
-- Assumes nothing.
use Prim.Native.Nat.{ℕ, suc, ◌+◌, ◌*◌, ◌<◌, ◌≤◌}
use native.Mathlib.Omega.{arith}
use mathlib.Core.Bool.{false, cond}
use mathlib.Core.List.{List}
use mathlib.Core.Logic.{⊎_elim}
use mathlib.Core.Path.{◌≡◌, sym, ap, ◌∙◌}
use lib.ListN.{length, get_or, length-take, length-drop, get_or-eq_default}
use lib.Seq.{get_or-take, get_or-drop}
use lib.IntN.{ℤ, pos, nat_abs}
use Rattle.wire.proofs.Cases.{lt_or_ge}
use Rattle.standard.specs.Combination.{case_count}
use Rattle.optimum.specs.Row.{total_of}
use Rattle.envelope.specs.declared.StationSums.{StationSums}
use Rattle.envelope.specs.Range.{kind_of, effect_of, effect_limit, capacity_limit, station_count, component_count, StationInRange, CapacitiesInRange}
use Rattle.sums.specs.Sums.{total_count, TotalsHeld}
use Rattle.integers.proofs.Linear.{where_agrees}
use Rattle.effects.specs.Effects.{station_length, effect_in, place}
use Rattle.dead_sums.specs.DeadSums.{no_sums, sum_in, station_by, of_dead_kind}
use Rattle.dead_sums.proofs.Sums.{sums_long, station_is, three_long, sum_is}
use Rattle.sheet.specs.declared.Sheet.{Sheet}
use Rattle.sheet.specs.Sheet.{totals_in, effect_at, capacity_at}
use Rattle.refusals.specs.Refusals.{capacity_outside, due_extremes, due_utilisation_at}
use Rattle.sheet.specs.Range.{InRange}
use Rattle.sheet.specs.Looks.{station_effects, capacities_at}
use Rattle.refusals.proofs.Fits.{inside, extremes_range, utilisation_range}

-- a look that is not refused is at a station
pub looks_at_station : (t j : ℕ) → 0 ≡ due_extremes t j → t < station_count
looks_at_station t j e = (extremes_range t j (sym e)).0

pub looks_at_capacities : (held t : ℕ) → 0 ≡ due_utilisation_at held t → t < station_count
looks_at_capacities held t e = (utilisation_range held t (sym e)).0

module _ (s : Sheet) (t : ℕ) (h : InRange s) (l : t < station_count) where
  station_long : length (station_effects s t) ≡ station_length
  unfolding station_effects
  station_long = simp (length-take, length-drop) (omega (arith, h.effects_long))

  -- the i-th of its effects
  station_at : (i : ℕ) → i < station_length → get_or (station_effects s t) i (pos 0) ≡ get_or s.effects (t * station_length + i) (pos 0)
  unfolding station_effects
  station_at i m = rw (get_or-take, get_or-drop)

  station_small : (i : ℕ) → nat_abs (get_or (station_effects s t) i (pos 0)) ≤ effect_limit
  station_small i =
      ⊎_elim (λ m. rw (station_at i m) (h.effects_range (t * station_length + i)))
      (λ m. let e : get_or (station_effects s t) i (pos 0) ≡ pos 0 = get_or-eq_default (station_effects s t) (pos 0) (omega (arith, station_long)) in rw e (omega arith))
      (lt_or_ge i station_length)

  pub station_in_range : StationInRange s.kinds (station_effects s t)
  station_in_range = record { kinds_long = h.kinds_long; effects_long = station_long; kinds_range = h.kinds_range; effects_range = station_small }

  pub effect_seen : (k j : ℕ) → k < case_count → j < component_count → effect_of (station_effects s t) k j ≡ effect_at s k t j
  unfolding effect_at
  effect_seen k j m n =
      let e : t * station_length + (k * 3 + j) ≡ place k t + j = omega arith in
      station_at (k * 3 + j) (omega arith) ∙ ap (λ (i : ℕ). get_or s.effects i (pos 0)) e

  pub sums_long_at : length s.sums ≡ station_count
  sums_long_at = ap length h.sums_true ∙ sums_long (of_dead_kind s.kinds) s.effects

  -- the sums held for the station are the totals of its D and F cases
  pub totals_held : TotalsHeld (totals_in s.sums t) s.kinds (station_effects s t)
  unfolding total_of effect_at
  totals_held = record {
    dead_long = rw held (three_long (of_dead_kind s.kinds) s.effects t).0;
    fluid_long = rw held (three_long (of_dead_kind s.kinds) s.effects t).1;
    are = record { on = λ c b. record { each = λ j m. total c b j m } };
  }
    where
      held : totals_in s.sums t ≡ station_by (of_dead_kind s.kinds) s.effects t
      held = rw h.sums_true (station_is (of_dead_kind s.kinds) s.effects t no_sums l)

      total : (c : ℕ) → c < component_count → (j : ℕ) → j < total_count →
          sum_in s.sums j t c ≡ total_of (kind_of s.kinds) (λ k. effect_of (station_effects s t) k c) (suc j)
      total c b j m =
          ap (λ (x : List StationSums). sum_in x j t c) h.sums_true
          ∙ sum_is (of_dead_kind s.kinds) s.effects j t c m l b
          ∙ where_agrees case_count (of_dead_kind s.kinds j) (of_dead_kind s.kinds j) (λ k. effect_in s.effects k t c) (λ k. effect_of (station_effects s t) k c)
          (λ k n. ap (λ (x : ℤ). cond (of_dead_kind s.kinds j k) x (pos 0)) (sym (effect_seen k c n b)))

  pub capacities_in_range : 0 < capacity_at s t 0 → CapacitiesInRange (capacities_at s t)
  unfolding capacities_at
  capacities_in_range m = ⊎_elim (λ w. absurd (omega (arith, w.0))) (λ w. all_in w.0 w.1 w.2) (h.capacities_whole t l)
    where
      all_in : capacity_outside (capacity_at s t 0) ≡ false → capacity_outside (capacity_at s t 1) ≡ false → capacity_outside (capacity_at s t 2) ≡ false → CapacitiesInRange (capacities_at s t)
      all_in a b c =
          let x = inside (capacity_at s t 0) capacity_limit a in
          let y = inside (capacity_at s t 1) capacity_limit b in
          let z = inside (capacity_at s t 2) capacity_limit c in
          record { n_least = x.0; n_most = x.1; y_least = y.0; y_most = y.1; z_least = z.0; z_most = z.1 }
