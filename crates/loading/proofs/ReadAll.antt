-- The loop over a list of fields whose answers are kept one after the other, with the first refusal.
-- Assumes nothing.
use Prim.Native.Nat.{ℕ, ◌+◌, ◌*◌, ◌≤◌, ◌<◌}
use mathlib.Core.Path.{◌≡◌, refl, sym, ◌∙◌}
use mathlib.Core.List.{List}
use lib.ListN.{length, drop}
use Rattle.std.specs.Prelude.{Option, None}
use Rattle.std.specs.Option.{option_or}
use Rattle.wire.specs.Bytes.{over}
use Rattle.sheet.specs.declared.Sheet.{Sheet}
use Rattle.sheet.specs.Range.{InRange}
use Rattle.headers.specs.Headers.{consumed_by}
use Rattle.fields.specs.declared.Reading.{Reading}
use Rattle.fields.specs.Field.{read_field}
use Rattle.answers.specs.Answers.{answer_room}
use Rattle.lists.specs.Lists.{fields_of, sheet_after, answers_to, bytes_of}
use Rattle.lists.proofs.Left.{no_bytes, first_field}
use Rattle.lists.proofs.Placed.{ReadAt}
use Rattle.loading.specs.Loaded.{refusal_of, first_refusal}
use Rattle.loading.proofs.Refusals.{or_assoc, or_none}
use Rattle.loading.proofs.Lists as lists

-- an earlier refusal comes before those of the bytes left
pub record Going (input left : List ℕ) (s₀ s : Sheet) (o₀ o : List ℕ) (written : ℕ) (earlier : Option ℕ) : Type 0 where
  pub answers : lists.Going input left s₀ s o₀ o written
  pub refusal : option_or earlier (first_refusal (answers_to (fields_of left) s)) ≡ first_refusal (answers_to (fields_of input) s₀)

pub going_start : (input : List ℕ) (s : Sheet) (o : List ℕ) → InRange s → answer_room * length (fields_of input) ≤ length o → Going input input s s o o 0 None
going_start input s o h r = record { answers = lists.going_start input s o h r; refusal = refl }

module _ {input left : List ℕ} {s₀ s : Sheet} {o₀ o : List ℕ} {written : ℕ} {earlier : Option ℕ} (h : Going input left s₀ s o₀ o written earlier) where
  module _ (g : 0 < length left) where
    -- the next answer has room
    pub going_room : written + answer_room ≤ length o
    going_room = lists.going_room h.answers g

    pub going_next : {r : Reading} {o' : List ℕ} {later : Option ℕ} → ReadAt left s written o r o' → later ≡ option_or earlier (refusal_of r.answer) →
        Going input (drop r.consumed left) s₀ r.sheet o₀ o' (written + r.written) later
    unfolding answers_to first_refusal
    going_next x y =
        let next = read_field left answer_room s in
        let rest = fields_of (drop (consumed_by left) left) in
        let e = first_field left g in
        record {
          answers = lists.going_next h.answers g x;
          refusal = rw (x.consumed, x.sheet, y, x.answer) (or_assoc earlier (refusal_of next.answer) (first_refusal (answers_to rest next.sheet)) ∙ (rw e at h.refusal));
        }

  -- at the end of the input
  pub record Ended : Type 0 where
    pub sheet : s ≡ sheet_after (fields_of input) s₀
    pub count : written ≡ length (bytes_of (answers_to (fields_of input) s₀))
    pub refusal : earlier ≡ first_refusal (answers_to (fields_of input) s₀)
    pub output : o ≡ over (bytes_of (answers_to (fields_of input) s₀)) o₀

  pub going_end : answer_room * length (fields_of input) ≤ length o₀ → length left ≡ 0 → Ended
  unfolding answers_to first_refusal
  going_end r e =
      let n = no_bytes left e in
      let k = lists.going_end h.answers r e in
      record { sheet = k.sheet; count = k.count; refusal = sym (or_none earlier) ∙ (rw n at h.refusal); output = k.output }
