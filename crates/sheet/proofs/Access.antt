-- What an accessor gives after each edit, at what was edited and elsewhere; and sheets that look the same are the same.
-- Assumes nothing.
use Prim.Native.Nat.{ℕ, zero, suc, ◌+◌, ◌/◌, ◌%◌, ◌<◌}
use mathlib.Core.Path.{◌≡◌, refl, sym, ap, ◌∙◌}
use mathlib.Core.List.{[], ◌∷◌}
use native.Mathlib.Omega.{arith}
use lib.ListN.{length, get_or, length-set, length-replicate}
use lib.Seq.{length-sets, ext_get_or, get_or-set_same, get_or-set_other}
use lib.IntN.{ℤ, pos}
use Rattle.standard.specs.declared.Settings.{Settings}
use Rattle.standard.specs.declared.Capacities.{Capacities}
use Rattle.standard.specs.Combination.{case_count}
use Rattle.envelope.specs.Range.{station_count, component_count}
use Rattle.wire.proofs.Stores.{replicate_all}
use Rattle.sheet.specs.declared.Sheet.{Sheet}
use Rattle.sheet.specs.Sheet.{kind_at, effect_at, no_capacities, capacity_on, capacity_at, fresh, with_kind, with_effects, with_capacities}
use Rattle.effects.specs.Effects.{effect_count, station_length, place, zeros}
use Rattle.effects.proofs.Stored.{effects_at_lem, effects_other, length_cleared, cleared_below, cleared_other}
use Rattle.dead_sums.specs.DeadSums.{sums_of}
use Rattle.dead_sums.proofs.Sums.{none_summed}
use Rattle.sheet.specs.Range.{InRange}

-- ---- the lengths of its lists, and its sums
pub record WellFormed (s : Sheet) : Type 0 where
  pub kinds : length s.kinds ≡ case_count
  pub effects : length s.effects ≡ effect_count
  pub capacities : length s.capacities ≡ station_count
  pub sums : s.sums ≡ sums_of s.kinds s.effects

pub well_formed : {s : Sheet} → InRange s → WellFormed s
well_formed h = record { kinds = h.kinds_long; effects = h.effects_long; capacities = h.capacities_long; sums = h.sums_true }

pub fresh_formed : (settings : Settings) → WellFormed (fresh settings)
unfolding fresh zeros
fresh_formed settings = record {
  kinds = length-replicate {A = ℕ} case_count 0;
  effects = length-replicate effect_count (pos 0);
  capacities = length-replicate station_count no_capacities;
  sums = none_summed (zeros effect_count);
}

pub kind_formed : (s : Sheet) (k v : ℕ) → WellFormed s → WellFormed (with_kind s k v)
unfolding with_kind
kind_formed s k v h = record {
  kinds = length-set s.kinds k v ∙ h.kinds;
  effects = length_cleared s.effects k station_count ∙ h.effects;
  capacities = h.capacities;
  sums = refl;
}

pub effects_formed : (s : Sheet) (k t : ℕ) (n y z : ℤ) → WellFormed s → WellFormed (with_effects s k t n y z)
unfolding with_effects
effects_formed s k t n y z h = record {
  kinds = h.kinds;
  effects = length-sets s.effects (place k t) (n ∷ y ∷ z ∷ []) ∙ h.effects;
  capacities = h.capacities;
  sums = refl;
}

pub capacities_formed : (s : Sheet) (t n y z : ℕ) → WellFormed s → WellFormed (with_capacities s t n y z)
unfolding with_capacities
capacities_formed s t n y z h = record {
  kinds = h.kinds;
  effects = h.effects;
  capacities = length-set s.capacities t (record { n = n; y = y; z = z }) ∙ h.capacities;
  sums = h.sums;
}

-- ---- a case that is filled or emptied
pub kind_filled : (s : Sheet) (k v : ℕ) → WellFormed s → k < case_count → kind_at (with_kind s k v) k ≡ v
unfolding with_kind
kind_filled s k v h a =
    let g : k < length s.kinds = rw h.kinds a in
    get_or-set_same s.kinds k v 0 g

pub kind_other : (s : Sheet) (k v k' : ℕ) → (k' ≡ k → ⊥) → kind_at (with_kind s k v) k' ≡ kind_at s k'
unfolding with_kind
kind_other s k v k' ne = get_or-set_other s.kinds k k' v 0 ne

pub effect_cleared : (s : Sheet) (k v t j : ℕ) → WellFormed s → k < case_count → t < station_count → j < component_count → effect_at (with_kind s k v) k t j ≡ pos 0
unfolding effect_at with_kind
effect_cleared s k v t j h a b g = cleared_below s.effects k station_count h.effects a (omega arith) t j b g

pub effect_kept : (s : Sheet) (k v k' t j : ℕ) → k < case_count → k' < case_count → j < component_count → (k' ≡ k → ⊥) → effect_at (with_kind s k v) k' t j ≡ effect_at s k' t j
unfolding effect_at with_kind
effect_kept s k v k' t j a b g ne = cleared_other s.effects k k' a b ne station_count t j g

pub kind_leaves_capacity : (s : Sheet) (k v t j : ℕ) → capacity_at (with_kind s k v) t j ≡ capacity_at s t j
unfolding capacity_at with_kind
kind_leaves_capacity s k v t j = refl

pub kind_leaves_settings : (s : Sheet) (k v : ℕ) → (with_kind s k v).settings ≡ s.settings
unfolding with_kind
kind_leaves_settings s k v = refl

-- ---- effects that are replaced
pub effect_replaced : (s : Sheet) (k t : ℕ) (n y z : ℤ) (j : ℕ) → WellFormed s → k < case_count → t < station_count → j < component_count →
    effect_at (with_effects s k t n y z) k t j ≡ get_or (n ∷ y ∷ z ∷ []) j (pos 0)
unfolding effect_at with_effects
effect_replaced s k t n y z j h a b g =
    effects_at_lem s.effects k t (n ∷ y ∷ z ∷ []) refl j h.effects a b g

pub effect_other : (s : Sheet) (k t : ℕ) (n y z : ℤ) (k' t' j : ℕ) → k < case_count → k' < case_count → j < component_count → ((k' ≡ k) × (t' ≡ t) → ⊥) →
    effect_at (with_effects s k t n y z) k' t' j ≡ effect_at s k' t' j
unfolding effect_at with_effects
effect_other s k t n y z k' t' j a b g ne = effects_other s.effects k t (n ∷ y ∷ z ∷ []) refl k' t' j a b ne g

pub effects_leave_kind : (s : Sheet) (k t : ℕ) (n y z : ℤ) (k' : ℕ) → kind_at (with_effects s k t n y z) k' ≡ kind_at s k'
unfolding with_effects
effects_leave_kind s k t n y z k' = refl

pub effects_leave_capacity : (s : Sheet) (k t : ℕ) (n y z : ℤ) (t' j : ℕ) → capacity_at (with_effects s k t n y z) t' j ≡ capacity_at s t' j
unfolding capacity_at with_effects
effects_leave_capacity s k t n y z t' j = refl

pub effects_leave_settings : (s : Sheet) (k t : ℕ) (n y z : ℤ) → (with_effects s k t n y z).settings ≡ s.settings
unfolding with_effects
effects_leave_settings s k t n y z = refl

-- ---- capacities that are replaced
capacity_of_three : (n y z j : ℕ) → capacity_on (record { n = n; y = y; z = z }) j ≡ get_or (n ∷ y ∷ z ∷ []) j 0
capacity_of_three n y z zero = refl
capacity_of_three n y z (suc zero) = refl
capacity_of_three n y z (suc (suc zero)) = refl
capacity_of_three n y z (suc (suc (suc j))) = refl

pub capacity_replaced : (s : Sheet) (t n y z j : ℕ) → WellFormed s → t < station_count → j < component_count → capacity_at (with_capacities s t n y z) t j ≡ get_or (n ∷ y ∷ z ∷ []) j 0
unfolding capacity_at with_capacities
capacity_replaced s t n y z j h a g =
    let w : t < length s.capacities = rw h.capacities a in
    ap (λ (c : Capacities). capacity_on c j) (get_or-set_same s.capacities t (record { n = n; y = y; z = z }) no_capacities w) ∙ capacity_of_three n y z j

pub capacity_other : (s : Sheet) (t n y z t' j : ℕ) → j < component_count → (t' ≡ t → ⊥) → capacity_at (with_capacities s t n y z) t' j ≡ capacity_at s t' j
unfolding capacity_at with_capacities
capacity_other s t n y z t' j g ne = ap (λ (c : Capacities). capacity_on c j) (get_or-set_other s.capacities t t' (record { n = n; y = y; z = z }) no_capacities ne)

pub capacities_leave_kind : (s : Sheet) (t n y z k : ℕ) → kind_at (with_capacities s t n y z) k ≡ kind_at s k
unfolding with_capacities
capacities_leave_kind s t n y z k = refl

pub capacities_leave_effect : (s : Sheet) (t n y z k t' j : ℕ) → effect_at (with_capacities s t n y z) k t' j ≡ effect_at s k t' j
unfolding effect_at with_capacities
capacities_leave_effect s t n y z k t' j = refl

pub capacities_leave_settings : (s : Sheet) (t n y z : ℕ) → (with_capacities s t n y z).settings ≡ s.settings
unfolding with_capacities
capacities_leave_settings s t n y z = refl

-- ---- a fresh sheet
pub fresh_settings_lem : (settings : Settings) → (fresh settings).settings ≡ settings
unfolding fresh
fresh_settings_lem settings = refl

pub fresh_kind : (settings : Settings) (k : ℕ) → kind_at (fresh settings) k ≡ 0
unfolding fresh
fresh_kind settings k = replicate_all (λ (n : ℕ). n ≡ 0) 0 0 refl refl case_count k

pub fresh_stored : (settings : Settings) (i : ℕ) → get_or (fresh settings).effects i (pos 0) ≡ pos 0
unfolding fresh zeros
fresh_stored settings i = replicate_all (λ (e : ℤ). e ≡ pos 0) (pos 0) (pos 0) refl refl effect_count i

pub fresh_effect : (settings : Settings) (k t j : ℕ) → effect_at (fresh settings) k t j ≡ pos 0
unfolding effect_at
fresh_effect settings k t j = fresh_stored settings (place k t + j)

pub fresh_capacity : (settings : Settings) (t j : ℕ) → capacity_at (fresh settings) t j ≡ 0
unfolding capacity_at fresh
fresh_capacity settings t j = replicate_all (λ (c : Capacities). capacity_on c j ≡ 0) no_capacities no_capacities (none j) (none j) station_count t
  where
    none : (i : ℕ) → capacity_on no_capacities i ≡ 0
    none zero = refl
    none (suc zero) = refl
    none (suc (suc zero)) = refl
    none (suc (suc (suc i))) = refl

-- ---- sheets that look the same are the same: by what they hold beside their sums, which follow
pub same_sheet : (a b : Sheet) → WellFormed a → WellFormed b → a.settings ≡ b.settings →
    ((k : ℕ) → k < case_count → kind_at a k ≡ kind_at b k) →
    ((k t j : ℕ) → k < case_count → t < station_count → j < component_count → effect_at a k t j ≡ effect_at b k t j) →
    ((t j : ℕ) → t < station_count → j < component_count → capacity_at a t j ≡ capacity_at b t j) → a ≡ b
unfolding effect_at capacity_at
same_sheet a b p q s kinds effects capacities =
    let k : a.kinds ≡ b.kinds = ext_get_or 0 a.kinds b.kinds (p.kinds ∙ sym q.kinds) (λ i h. kinds i (rw p.kinds at h)) in
    let e : a.effects ≡ b.effects = ext_get_or (pos 0) a.effects b.effects (p.effects ∙ sym q.effects) (λ i h.
    let l : i < effect_count = rw p.effects at h in
    let f : place (i % station_length / 3) (i / station_length) + i % 3 ≡ i = omega arith in
    let u : i % station_length / 3 < case_count = omega arith in
    let v : i / station_length < station_count = omega arith in
    let w : i % 3 < component_count = omega arith in
    rw f at (effects (i % station_length / 3) (i / station_length) (i % 3) u v w)) in
    let c : a.capacities ≡ b.capacities = ext_get_or no_capacities a.capacities b.capacities (p.capacities ∙ sym q.capacities) (λ t h.
    let l : t < station_count = rw p.capacities at h in
    λ i. record { n = capacities t 0 l (omega arith) i; y = capacities t 1 l (omega arith) i; z = capacities t 2 l (omega arith) i }) in
    let u : a.sums ≡ b.sums = p.sums ∙ (λ i. sums_of (k i) (e i)) ∙ sym q.sums in
    λ i. record { settings = s i; kinds = k i; effects = e i; sums = u i; capacities = c i }
