-- The loop over a state: the sheet that it gives, and its first refusal.
-- Assumes nothing.
use Prim.Native.Nat.{ℕ}
use mathlib.Core.Path.{◌≡◌, refl, sym, ◌∙◌, ap}
use mathlib.Core.List.{List, [], ◌∷◌}
use lib.ListN.{length}
use Rattle.std.specs.Prelude.{Option, None}
use Rattle.std.specs.Option.{option_or}
use Rattle.sheet.specs.declared.Sheet.{Sheet}
use Rattle.sheet.specs.declared.Answer.{Answer}
use Rattle.sheet.specs.Range.{InRange}
use Rattle.fields.specs.declared.Reading.{Reading}
use Rattle.fields.specs.Field.{read_field}
use Rattle.fields.specs.Readings.{FieldRead}
use Rattle.fields.proofs.Kept.{read_kept}
use Rattle.answers.specs.Answers.{answer_room}
use Rattle.lists.specs.Lists.{fields_of, sheet_after, answers_to}
use Rattle.loading.specs.Loaded.{refusal_of, first_refusal}
use Rattle.loading.proofs.Refusals.{or_assoc, or_none}

-- the fields left lead where those of the state lead from the sheet at the start; an earlier refusal comes before theirs
pub record Going (state : List ℕ) (start : Sheet) (left : List (List ℕ)) (s : Sheet) (earlier : Option ℕ) : Type 0 where
  pub sheet : sheet_after left s ≡ sheet_after (fields_of state) start
  pub refusal : option_or earlier (first_refusal (answers_to left s)) ≡ first_refusal (answers_to (fields_of state) start)
  pub in_range : InRange s

pub going_start : (state : List ℕ) {s : Sheet} → InRange s → Going state s (fields_of state) s None
going_start state x = record { sheet = refl; refusal = refl; in_range = x }

module _ {state : List ℕ} {left : List (List ℕ)} {start s : Sheet} {earlier : Option ℕ} (h : Going state start left s earlier) where
  -- after one more field, by its answer and the sheet after it
  pub going_on : {field : List ℕ} {rest : List (List ℕ)} → left ≡ field ∷ rest → {a : Answer} {t : Sheet} {later : Option ℕ} →
      a ≡ (read_field field answer_room s).answer → t ≡ (read_field field answer_room s).sheet → later ≡ option_or earlier (refusal_of a) → Going state start rest t later
  unfolding sheet_after answers_to first_refusal
  going_on {field} {rest} e a t l =
      record {
        sheet = rw t (rw e at h.sheet);
        refusal = rw (t, l, a) (or_assoc earlier (refusal_of (read_field field answer_room s).answer) (first_refusal (answers_to rest (read_field field answer_room s).sheet)) ∙ (rw e at h.refusal));
        in_range = rw t (read_kept field answer_room s h.in_range);
      }

  pub going_next : {field : List ℕ} {rest : List (List ℕ)} → left ≡ field ∷ rest → {o o' : List ℕ} {r : Reading} {later : Option ℕ} →
      length o ≡ answer_room → FieldRead field o s r o' → later ≡ option_or earlier (refusal_of r.answer) → Going state start rest r.sheet later
  going_next {field} e {r = r} n x l =
      let y : r ≡ read_field field answer_room s = rw n at x.reading in
      going_on e (ap (λ (z : Reading). z.answer) y) (ap (λ (z : Reading). z.sheet) y) l

  pub going_end : left ≡ [] → (s ≡ sheet_after (fields_of state) start) × (earlier ≡ first_refusal (answers_to (fields_of state) start))
  unfolding sheet_after answers_to first_refusal
  going_end n = (rw n at h.sheet, sym (or_none earlier) ∙ (rw n at h.refusal))
