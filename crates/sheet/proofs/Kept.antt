-- A fresh sheet is in range, and each field keeps a sheet so.
-- Assumes nothing.
use Prim.Native.Nat.{ℕ, zero, suc, ◌<◌, zero-le}
use mathlib.Core.Path.{◌≡◌, refl, sym, ◌∙◌}
use mathlib.Core.List.{List, [], ◌∷◌}
use mathlib.Core.Bool.{true, false}
use mathlib.Core.Logic.{⊎_elim, inl, inr}
use native.Mathlib.Omega.{arith}
use lib.Dec.{eqb}
use lib.ListN.{length, get_or}
use lib.IntN.{pos}
use borrow.Author.Tests.{eqb-true}
use Rattle.standard.specs.declared.Settings.{Settings}
use Rattle.standard.specs.declared.Capacities.{Capacities}
use Rattle.standard.specs.Range.{SettingsInRange}
use Rattle.standard.specs.Rows.{settings_of, switched, strained, fresh_settings}
use Rattle.standard.specs.Kinds.{kind_count}
use Rattle.standard.specs.Combination.{case_count}
use Rattle.envelope.specs.Range.{station_count}
use Rattle.wire.specs.Bytes.{signed16}
use Rattle.wire.proofs.Cases.{either, eq_or_ne}
use Rattle.wire.proofs.Stores.{set_keep, sets_keep}
use Rattle.sheet.specs.declared.Sheet.{Sheet}
use Rattle.sheet.specs.Sheet.{kind_at, effect_at, capacity_in, capacity_at, fresh, fresh_sheet, with_kind, with_effects, with_capacities, with_settings, with_switch, with_straining}
use Rattle.effects.specs.Effects.{place}
use Rattle.effects.proofs.Stored.{Within, cleared_within}
use Rattle.refusals.specs.Refusals.{due_settings, due_capacities, due_switch}
use Rattle.sheet.specs.Edits.{due_fill, due_effects, due_empty, due_factor, unless_refused}
use Rattle.sheet.specs.Range.{InRange, AllOrNone}
use Rattle.refusals.proofs.Fits.{settings_range, switch_range, straining_range, fill_range, effects_range, empty_range, capacities_range}
use Rattle.sheet.proofs.Access.{well_formed, fresh_formed, kind_formed, effects_formed, capacities_formed, kind_other, effect_cleared, effect_kept, effect_other, capacity_replaced, capacity_other, fresh_kind, fresh_settings_lem, fresh_stored, fresh_effect, fresh_capacity}

pub fresh_in_range : (settings : Settings) → SettingsInRange settings → InRange (fresh settings)
fresh_in_range settings e =
    let l = fresh_formed settings in
    record {
      settings = rw (fresh_settings_lem settings) e;
      kinds_long = l.kinds;
      effects_long = l.effects;
      capacities_long = l.capacities;
      kinds_range = λ k. rw (fresh_kind settings k) (omega arith);
      effects_range = λ i. rw (fresh_stored settings i) zero-le;
      empty_zero = λ k t j _ _ _ _. fresh_effect settings k t j;
      sums_true = l.sums;
      capacities_whole = λ t _. inl (fresh_capacity settings t 0, fresh_capacity settings t 1, fresh_capacity settings t 2);
    }

pub fresh_kept : InRange fresh_sheet
fresh_kept = fresh_in_range fresh_settings (record { method = refl; live = refl; zone = refl; ice = refl; straining = refl })

-- a place that is filled or emptied
kind_kept : (s : Sheet) (k v : ℕ) → InRange s → k < case_count → v < kind_count → InRange (with_kind s k v)
unfolding with_kind capacity_at
kind_kept s k v h a b =
    let l = kind_formed s k v (well_formed h) in
    record {
      settings = h.settings;
      kinds_long = l.kinds;
      effects_long = l.effects;
      capacities_long = l.capacities;
      kinds_range = λ q. set_keep (λ (n : ℕ). n < kind_count) 0 s.kinds k v q (h.kinds_range q) b;
      effects_range = λ i. cleared_within s.effects k station_count i (h.effects_range i);
      empty_zero = λ q t j e c d f. ⊎_elim
          (λ (r : q ≡ k). rw r (effect_cleared s k v t j (well_formed h) a d f))
          (λ (ne : q ≡ k → ⊥). effect_kept s k v q t j a c f ne ∙ h.empty_zero q t j (sym (kind_other s k v q ne) ∙ e) c d f)
          (eq_or_ne q k);
      sums_true = l.sums;
      capacities_whole = h.capacities_whole;
    }

pub fill_kept : (s : Sheet) (k v : ℕ) → InRange s → due_fill s k v ≡ 0 → InRange (with_kind s k v)
fill_kept s k v h e = let f = fill_range (kind_at s k) k v e in kind_kept s k v h f.case f.kind

pub emptied_kept : (s : Sheet) (k : ℕ) → InRange s → due_empty s k ≡ 0 → InRange (with_kind s k 0)
emptied_kept s k h e = kind_kept s k 0 h (empty_range (kind_at s k) k e).case (omega arith)

pub three : {A : Type 0} (P : A → Type 0) {a b c d : A} → P a → P b → P c → P d → (i : ℕ) → P (get_or (a ∷ b ∷ c ∷ []) i d)
three P pa pb pc pd zero = pa
three P pa pb pc pd (suc zero) = pb
three P pa pb pc pd (suc (suc zero)) = pc
three P pa pb pc pd (suc (suc (suc i))) = pd

pub effects_kept : (s : Sheet) (k t n y z : ℕ) → InRange s → due_effects s k t n y z ≡ 0 → InRange (with_effects s k t (signed16 n) (signed16 y) (signed16 z))
unfolding with_effects capacity_at
effects_kept s k t n y z h e =
    let f = effects_range (kind_at s k) k t n y z e in
    let l = effects_formed s k t (signed16 n) (signed16 y) (signed16 z) (well_formed h) in
    record {
      settings = h.settings;
      kinds_long = l.kinds;
      effects_long = l.effects;
      capacities_long = l.capacities;
      kinds_range = h.kinds_range;
      effects_range = λ i. sets_keep Within (pos 0) (signed16 n ∷ signed16 y ∷ signed16 z ∷ []) s.effects (place k t) i (h.effects_range i)
          (three Within f.n f.y f.z zero-le);
      empty_zero = λ q u j o a b c. ⊎_elim
          (λ (r : q ≡ k). absurd (f.filled (rw r at o)))
          (λ (ne : q ≡ k → ⊥). effect_other s k t (signed16 n) (signed16 y) (signed16 z) q u j f.case a c (λ g. ne g.0) ∙ h.empty_zero q u j o a b c)
          (eq_or_ne q k);
      sums_true = l.sums;
      capacities_whole = h.capacities_whole;
    }

-- three capacities that are equal to others
same_capacities : {f g : ℕ → ℕ} → ((j : ℕ) → j < 3 → f j ≡ g j) → AllOrNone (g 0) (g 1) (g 2) → AllOrNone (f 0) (f 1) (f 2)
same_capacities e w = rw (e 0 (omega arith), e 1 (omega arith), e 2 (omega arith)) w

-- the cases and their effects stay: other settings, other capacities
cases_stay : (s : Sheet) (settings : Settings) (capacities : List Capacities) → InRange s → SettingsInRange settings → length capacities ≡ station_count →
    ((t : ℕ) → t < station_count → AllOrNone (capacity_in capacities t 0) (capacity_in capacities t 1) (capacity_in capacities t 2)) →
    InRange (record { settings = settings; kinds = s.kinds; effects = s.effects; sums = s.sums; capacities = capacities })
unfolding effect_at capacity_at
cases_stay s settings capacities h range long whole =
    record {
      settings = range;
      kinds_long = h.kinds_long;
      effects_long = h.effects_long;
      capacities_long = long;
      kinds_range = h.kinds_range;
      effects_range = h.effects_range;
      empty_zero = h.empty_zero;
      sums_true = h.sums_true;
      capacities_whole = whole;
    }

pub capacities_kept : (s : Sheet) (t n y z : ℕ) → InRange s → due_capacities t n y z ≡ 0 → InRange (with_capacities s t n y z)
unfolding with_capacities capacity_at
capacities_kept s t n y z h e =
    let f = capacities_range t n y z e in
    let l = capacities_formed s t n y z (well_formed h) in
    cases_stay s s.settings _ h h.settings l.capacities (λ u c. ⊎_elim
    (λ (r : u ≡ t). rw r (same_capacities (λ j g. capacity_replaced s t n y z j (well_formed h) f.station g) (inr (f.n, f.y, f.z))))
    (λ (ne : u ≡ t → ⊥). same_capacities (λ j g. capacity_other s t n y z u j g ne) (h.capacities_whole u c))
    (eq_or_ne u t))

-- an edit as its refusals allow it
pub tried_kept : (d : ℕ) (s s' : Sheet) → InRange s → (d ≡ 0 → InRange s') → InRange (unless_refused d s s').sheet
unfolding unless_refused
tried_kept d s s' h g = ⊎_elim
    (λ (e : eqb d 0 ≡ true). rw e (g (eqb-true d 0 e)))
    (λ (e : eqb d 0 ≡ false). rw e h)
    (either (eqb d 0))

pub restarted : (s : Sheet) (method live zone : ℕ) → InRange s →
    InRange (unless_refused (due_settings method live zone) s (fresh (settings_of method live zone))).sheet
restarted s method live zone h =
    tried_kept (due_settings method live zone) s (fresh (settings_of method live zone)) h
    (λ e. fresh_in_range (settings_of method live zone) (settings_range method live zone e))

settings_kept : (s : Sheet) (settings : Settings) → InRange s → SettingsInRange settings → InRange (with_settings s settings)
unfolding with_settings capacity_at
settings_kept s settings h range = cases_stay s settings s.capacities h range h.capacities_long h.capacities_whole

pub switch_kept : (s : Sheet) (byte : ℕ) → InRange s → due_switch byte ≡ 0 → InRange (with_switch s byte)
switch_kept s byte h e =
    let r = h.settings in
    settings_kept s (switched byte s.settings) h
    (record { method = r.method; live = r.live; zone = r.zone; ice = switch_range byte e; straining = r.straining })

pub straining_kept : (s : Sheet) (factor : ℕ) → InRange s → due_factor s factor ≡ 0 → InRange (with_straining s factor)
straining_kept s factor h e =
    let r = h.settings in
    settings_kept s (strained factor s.settings) h
    (record { method = r.method; live = r.live; zone = r.zone; ice = r.ice; straining = straining_range s.settings.method factor e })
