-- A sheet in range has true sums, and readings keep it in range; a drop is the edit of tag 04, and the demands speak of the sheet after it.
-- Assumes nothing.
use Prim.Native.Nat.{ℕ, ◌<◌}
use native.Mathlib.Omega.{arith}
use mathlib.Core.Path.{◌≡◌, refl, sym, ap, ◌∙◌, subst}
use mathlib.Core.List.{List}
use lib.ListN.{length}
use Rattle.integers.specs.Sums.{sum_where}
use Rattle.envelope.specs.declared.StationSums.{StationSums}
use Rattle.envelope.specs.Range.{station_count, component_count}
use Rattle.standard.specs.Combination.{case_count}
use Rattle.dead_sums.specs.DeadSums.{of_dead_kind, sum_in}
use Rattle.dead_sums.proofs.Sums.{sum_is}
use Rattle.refusals.specs.Refusals.{due_empty_at}
use Rattle.refusals.proofs.Fits.{empty_range}
use Rattle.sheet.specs.declared.Sheet.{Sheet}
use Rattle.sheet.specs.Sheet.{kind_at, effect_at, capacity_at, with_kind}
use Rattle.sheet.specs.Range.{InRange}
use Rattle.sheet.proofs.Kept.{fresh_kept}
use Rattle.sheet.proofs.Access.{well_formed, kind_filled, kind_other, effect_kept, kind_leaves_capacity, kind_leaves_settings}
use Rattle.fields.specs.Field.{due}
use Rattle.saved_fields.specs.Saved.{saved_bytes}
use Rattle.demands.specs.Readings.{worked_out}
use Rattle.demands.specs.Demands.{Demand3}
use Rattle.demands.proofs.Due.{none_own, none_after, accepted_due}
use Rattle.restoring.proofs.RoundTrip.{round_trip}
use Rattle.demands.proofs.Readings.{read_in_range, worked_in_range, readings_in_range, range_is_made, restores, restores_unique}
use Rattle.demands.proofs.Demands.{demands}
use Rattle.held_sums.specs.Sums.{SumsTrue, SumsKeptTrue, drop_field, Without, DropAndLook}

sums_true : {s : Sheet} → InRange s → SumsTrue s
unfolding effect_at
sums_true {s} h = record { dead = λ t j a b. at 0 (omega arith) t j a b; fluid = λ t j a b. at 1 (omega arith) t j a b }
  where
    at : (which : ℕ) → which < 2 → (t j : ℕ) → t < station_count → j < component_count → sum_in s.sums which t j ≡ sum_where case_count (of_dead_kind s.kinds which) (λ k. effect_at s k t j)
    at which c t j a b = ap (λ (l : List StationSums). sum_in l which t j) h.sums_true ∙ sum_is (of_dead_kind s.kinds) s.effects which t j c a b

saved_alike : (s : Sheet) (sums : List StationSums) → saved_bytes (record s { sums = sums }) ≡ saved_bytes s
unfolding saved_bytes effect_at capacity_at
saved_alike s sums = refl

pub sums_kept_true : SumsKeptTrue
sums_kept_true =
    record {
      fresh = sums_true fresh_kept;
      field = λ s h m r. sums_true (read_in_range h r);
      list = λ ms s r. sums_true (readings_in_range r);
      refused = λ ms s r m n read e. let d = demands ms s r in ap (λ (x : Sheet). x.sums) (d.0.unchanged m n read e ∙ sym d.1.held);
      unsaved = λ s sums. saved_alike s sums;
      restored = λ ms s r s₀ s₁ back. sums_true (subst InRange (sym (restores_unique back (restores (round_trip s s₀ (readings_in_range r))))) (readings_in_range r));
    }

-- ---- a case dropped
is_case : (w : Sheet) (case room : ℕ) (rest : List ℕ) → due (drop_field case rest) room w ≡ 0 → case < case_count
unfolding due_empty_at
is_case w case room rest none = (empty_range (kind_at w case) case (none_own (drop_field case rest) room w none).1).case

without : (w : Sheet) (case : ℕ) → InRange w → case < case_count → Without case w (with_kind w case 0)
without w case h l =
    record {
      settings = kind_leaves_settings w case 0;
      empty = kind_filled w case 0 (well_formed h) l;
      kinds = λ k ne. kind_other w case 0 k ne;
      effects = λ k t j a b ne. effect_kept w case 0 k t j l a b ne;
      capacities = λ t j. kind_leaves_capacity w case 0 t j;
    }

-- the looks at a sheet in range are of it
looked : {s : Sheet} → InRange s → Demand3 s s
looked {s} h =
    let l = (range_is_made s).0 h in
    let d = demands l.list s l.readings in
    subst (λ (w : Sheet). Demand3 w s) (sym d.1.held) d.2

pub drop_and_look : DropAndLook
drop_and_look ms s r case m rest is read accepted =
    let w = worked_out ms in
    let room = length m.out in
    let reading = (demands ms s r).1.answered m read in
    let none : due (drop_field case rest) room w ≡ 0 = rw is at (accepted_due m.input room w (ap (λ x. x.answer) (sym reading) ∙ accepted)) in
    let now : m.result.sheet ≡ with_kind w case 0 = ap (λ x. x.sheet) reading ∙ rw is (none_after (drop_field case rest) room w none) in
    let range = read_in_range (readings_in_range r) read in
    record {
      dropped = without w case (worked_in_range ms) (is_case w case room rest none);
      sums = sums_true range;
      looks = subst (λ (x : Sheet). Demand3 x m.result.sheet) now (looked range);
    }
