-- One field read at its place in the input, with its answer put at its own in the output.
-- Assumes nothing.
use Prim.Native.Nat.{ℕ, ◌+◌, ◌-◌, ◌≤◌}
use mathlib.Core.Path.{◌≡◌, sym, ◌∙◌, ap}
use mathlib.Core.List.{List, [], append-nil, append_assoc}
use native.Mathlib.Omega.{arith}
use lib.ListN.{length, take, drop, length-drop, drop_of_length-le}
use lib.Seq.{sets, sets-eq, drop-drop}
use borrow.Rule.Slice.PartMut.{put_mid}
use Rattle.wire.specs.Bytes.{over}
use Rattle.sheet.specs.declared.Sheet.{Sheet}
use Rattle.fields.specs.declared.Reading.{Reading}
use Rattle.headers.specs.Headers.{consumed_by}
use Rattle.headers.proofs.Whole.{part_from}
use Rattle.fields.specs.Field.{read_field}
use Rattle.answers.specs.Answers.{answer_bytes, answer_room}
use Rattle.fields.specs.Readings.{FieldRead}
use Rattle.fields.proofs.Consumed.{same_with_room, read_consumed, read_written}
use Rattle.answers.proofs.Room.{answer_fits}

-- a part that starts within a list ends where the list does
pub part_long : (w : List ℕ) (i : ℕ) → i ≤ length w → i + length (take (length w - i) (drop i w)) ≡ length w
part_long w i h = rw (part_from w i, length-drop) (omega arith)

-- bytes put over the front of the part from place i on
put_part : (o w : List ℕ) (i : ℕ) → i + length w ≤ length o → put_mid i (length o - i) o (over w (take (length o - i) (drop i o))) ≡ sets o i w
unfolding over
put_part o w i h =
    let g : length (drop i o) ≤ length o - i = rw length-drop (omega arith) in
    let e : drop (length o - i) (drop i o) ≡ [] = drop_of_length-le (drop i o) g in
    rw (part_from o i, e, append-nil, drop-drop) (sym (sets-eq w o i h ∙ append_assoc (take i o) w (drop (i + length w) o)))

-- the reading r of a field f on a sheet s, and the output with its answer at place `to`
pub record ReadAt (f : List ℕ) (s : Sheet) (to : ℕ) (o : List ℕ) (r : Reading) (o' : List ℕ) : Type 0 where
  pub answer : r.answer ≡ (read_field f answer_room s).answer
  pub sheet : r.sheet ≡ (read_field f answer_room s).sheet
  pub consumed : r.consumed ≡ consumed_by f
  pub written : r.written ≡ length (answer_bytes (read_field f answer_room s).answer)
  pub output : o' ≡ sets o to (answer_bytes (read_field f answer_room s).answer)

pub read_put : (field output : List ℕ) (to : ℕ) (s : Sheet) {r : Reading} {part : List ℕ} → to + answer_room ≤ length output →
    FieldRead field (take (length output - to) (drop to output)) s r part → ReadAt field s to output r (put_mid to (length output - to) output part)
read_put field output to s {r} h f =
    let place = take (length output - to) (drop to output) in
    let g : answer_room ≤ length place = rw (part_from output to, length-drop) (omega arith) in
    let e : r ≡ read_field field answer_room s = f.reading ∙ same_with_room field s (length place) g in
    let a : r.answer ≡ (read_field field answer_room s).answer = ap (λ (x : Reading). x.answer) e in
    let l = answer_fits (read_field field answer_room s).answer in
    record {
      answer = a;
      sheet = ap (λ (x : Reading). x.sheet) e;
      consumed = ap (λ (x : Reading). x.consumed) e ∙ read_consumed field s;
      written = ap (λ (x : Reading). x.written) e ∙ read_written field s;
      output = rw (f.output, a) (put_part output (answer_bytes (read_field field answer_room s).answer) to (omega arith));
    }

-- the same for the field at a place of the input
pub read_at : (input output : List ℕ) (at to : ℕ) (s : Sheet) {r : Reading} {part : List ℕ} → to + answer_room ≤ length output →
    FieldRead (take (length input - at) (drop at input)) (take (length output - to) (drop to output)) s r part →
    ReadAt (drop at input) s to output r (put_mid to (length output - to) output part)
read_at input output at to s h f = read_put (drop at input) output to s h (rw part_from at f)
