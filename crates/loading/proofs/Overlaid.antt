-- The loop over a list of fields whose answers are written one over the other: the sheet, the first refusal, and the output.
-- Assumes nothing.
use Prim.Native.Nat.{ℕ, ◌≤◌}
use mathlib.Core.Path.{◌≡◌, refl}
use mathlib.Core.List.{List, [], ◌∷◌}
use lib.ListN.{length}
use Rattle.std.specs.Prelude.{Option, None}
use Rattle.std.specs.Option.{option_or}
use Rattle.sheet.specs.declared.Sheet.{Sheet}
use Rattle.sheet.specs.Range.{InRange}
use Rattle.fields.specs.declared.Reading.{Reading}
use Rattle.fields.specs.Readings.{FieldRead}
use Rattle.headers.proofs.Whole.{part_from}
use Rattle.lists.proofs.Placed.{read_put}
use Rattle.answers.specs.Answers.{answer_room}
use Rattle.lists.specs.Lists.{fields_of, sheet_after, answers_to}
use Rattle.loading.specs.Loaded.{refusal_of, first_refusal, overlaid}
use Rattle.loading.proofs.States as states

-- the fields left lead where those of the input lead from the sheet and the output at the start; an earlier refusal comes before theirs
pub record Going (input : List ℕ) (start : Sheet) (o₀ : List ℕ) (left : List (List ℕ)) (s : Sheet) (o : List ℕ) (earlier : Option ℕ) : Type 0 where
  pub sheet : sheet_after left s ≡ sheet_after (fields_of input) start
  pub refusal : option_or earlier (first_refusal (answers_to left s)) ≡ first_refusal (answers_to (fields_of input) start)
  pub output : overlaid (answers_to left s) o ≡ overlaid (answers_to (fields_of input) start) o₀
  pub in_range : InRange s
  pub room : answer_room ≤ length o

pub going_start : (input : List ℕ) {s : Sheet} {o : List ℕ} → InRange s → answer_room ≤ length o → Going input s o (fields_of input) s o None
going_start input x r = record { sheet = refl; refusal = refl; output = refl; in_range = x; room = r }

module _ {input : List ℕ} {left : List (List ℕ)} {start s : Sheet} {o₀ o : List ℕ} {earlier : Option ℕ} (h : Going input start o₀ left s o earlier) where
  -- the sheet and the first refusal go as over a state
  as_state : states.Going input start left s earlier
  as_state = record { sheet = h.sheet; refusal = h.refusal; in_range = h.in_range }

  pub going_next : {field : List ℕ} {rest : List (List ℕ)} → left ≡ field ∷ rest → {o' : List ℕ} {r : Reading} {later : Option ℕ} →
      FieldRead field o s r o' → length o' ≡ length o → later ≡ option_or earlier (refusal_of r.answer) → Going input start o₀ rest r.sheet o' later
  unfolding answers_to overlaid
  going_next {field} e {o'} {r = r} x n l =
      let p = read_put field o 0 s {r = r} {part = o'} h.room (rw (part_from o 0) x) in
      let k = states.going_on as_state e p.answer p.sheet l in
      record { sheet = k.sheet; refusal = k.refusal; output = rw (p.sheet, x.output, p.answer) (rw e at h.output); in_range = k.in_range; room = rw n h.room }

  -- at the end of the input
  pub record Ended : Type 0 where
    pub sheet : s ≡ sheet_after (fields_of input) start
    pub refusal : earlier ≡ first_refusal (answers_to (fields_of input) start)
    pub output : o ≡ overlaid (answers_to (fields_of input) start) o₀

  pub going_end : left ≡ [] → Ended
  unfolding answers_to overlaid
  going_end n =
      let k = states.going_end as_state n in
      record { sheet = k.0; refusal = k.1; output = rw n at h.output }
