-- The loop over a list of fields whose answers are kept one after the other.
-- Assumes nothing.
use Prim.Native.Nat.{ℕ, ◌+◌, ◌*◌, ◌≤◌, ◌<◌}
use mathlib.Core.Path.{◌≡◌, refl, ◌∙◌, ap}
use mathlib.Core.List.{List, ◌∷◌, ◌++◌}
use native.Mathlib.Nat.{mul-suc}
use native.Mathlib.Omega.{arith}
use lib.ListN.{length, drop, length-append}
use lib.Seq.{sets, length-sets}
use Rattle.wire.specs.Bytes.{over}
use Rattle.wire.proofs.Stores.{sets_append, front}
use Rattle.sheet.specs.declared.Sheet.{Sheet}
use Rattle.sheet.specs.Range.{InRange}
use Rattle.headers.specs.Headers.{consumed_by}
use Rattle.fields.specs.declared.Reading.{Reading}
use Rattle.fields.specs.Field.{read_field}
use Rattle.fields.proofs.Kept.{read_kept}
use Rattle.answers.specs.Answers.{answer_bytes, answer_room}
use Rattle.answers.proofs.Room.{answer_fits}
use Rattle.lists.specs.Lists.{fields_of, sheet_after, answers_to, bytes_of}
use Rattle.lists.proofs.Left.{no_bytes, first_field}
use Rattle.lists.proofs.Joins.{answers_long}
use Rattle.lists.proofs.Placed.{ReadAt}

-- the fields of the bytes left lead where those of the input lead, with answers that have room
pub record Going (input left : List ℕ) (s₀ s : Sheet) (o₀ o : List ℕ) (written : ℕ) : Type 0 where
  pub sheet : sheet_after (fields_of left) s ≡ sheet_after (fields_of input) s₀
  pub count : written + length (bytes_of (answers_to (fields_of left) s)) ≡ length (bytes_of (answers_to (fields_of input) s₀))
  pub output : sets o written (bytes_of (answers_to (fields_of left) s)) ≡ sets o₀ 0 (bytes_of (answers_to (fields_of input) s₀))
  pub in_range : InRange s
  pub room : written + answer_room * length (fields_of left) ≤ length o
  pub long : length o ≡ length o₀

pub going_start : (input : List ℕ) (s : Sheet) (o : List ℕ) → InRange s → answer_room * length (fields_of input) ≤ length o → Going input input s s o o 0
going_start input s o h r = record {
  sheet = refl;
  count = omega arith;
  output = refl;
  in_range = h;
  room = omega arith;
  long = refl;
}

module _ {input left : List ℕ} {s₀ s : Sheet} {o₀ o : List ℕ} {written : ℕ} (h : Going input left s₀ s o₀ o written) where
  module _ (g : 0 < length left) where
    -- the next answer has room
    pub going_room : written + answer_room ≤ length o
    going_room =
        let e : length (fields_of left) ≡ length (left ∷ fields_of (drop (consumed_by left) left)) = ap length (first_field left g) in
        let m = mul-suc answer_room (length (fields_of (drop (consumed_by left) left))) in
        let r = h.room in
        let k : answer_room * length (fields_of left) ≡ answer_room * length (left ∷ fields_of (drop (consumed_by left) left)) = ap (λ (n : ℕ). answer_room * n) e in
        omega arith

    pub going_next : {r : Reading} {o' : List ℕ} → ReadAt left s written o r o' → Going input (drop r.consumed left) s₀ r.sheet o₀ o' (written + r.written)
    unfolding sheet_after answers_to bytes_of
    going_next {r} {o'} x =
        let a = (read_field left answer_room s).answer in
        let next = (read_field left answer_room s).sheet in
        let rest = fields_of (drop (consumed_by left) left) in
        let e = first_field left g in
        let v = answer_bytes a in
        let w = bytes_of (answers_to rest next) in
        let count : written + length (v ++ w) ≡ length (bytes_of (answers_to (fields_of input) s₀)) = rw e at h.count in
        let output : sets o written (v ++ w) ≡ sets o₀ 0 (bytes_of (answers_to (fields_of input) s₀)) = rw e at h.output in
        let room : written + answer_room * length (left ∷ rest) ≤ length o = rw e at h.room in
        let m = mul-suc answer_room (length rest) in
        let f = answer_fits a in
        let l : length o' ≡ length o = ap length x.output ∙ length-sets o written v in
        let n = x.written in
        let k = length-append v w in
        record {
          sheet = rw (x.consumed, x.sheet) (rw e at h.sheet);
          count = rw (x.consumed, x.sheet) (omega arith);
          output = rw (x.consumed, x.sheet, x.written, x.output) (sets_append v w o written ∙ output);
          in_range = rw x.sheet (read_kept left answer_room s h.in_range);
          room = rw x.consumed (omega arith);
          long = l ∙ h.long;
        }

  -- at the end of the input
  pub record Ended : Type 0 where
    pub sheet : s ≡ sheet_after (fields_of input) s₀
    pub count : written ≡ length (bytes_of (answers_to (fields_of input) s₀))
    pub output : o ≡ over (bytes_of (answers_to (fields_of input) s₀)) o₀

  pub going_end : answer_room * length (fields_of input) ≤ length o₀ → length left ≡ 0 → Ended
  unfolding sheet_after answers_to bytes_of
  going_end r e =
      let n = no_bytes left e in
      let l = answers_long (fields_of input) s₀ in
      let c : written + 0 ≡ length (bytes_of (answers_to (fields_of input) s₀)) = rw n at h.count in
      let b : length (bytes_of (answers_to (fields_of input) s₀)) ≤ length o₀ = omega arith in
      record {
        sheet = rw n at h.sheet;
        count = omega arith;
        output = (rw n at h.output) ∙ front (bytes_of (answers_to (fields_of input) s₀)) o₀ b;
      }
