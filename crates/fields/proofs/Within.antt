-- A reading stays within the input and the output, and keeps the sheet in range.
-- Assumes nothing.
use Prim.Native.Nat.{ℕ, ◌≤◌}
use mathlib.Core.Path.{◌≡◌, refl, sym, ◌∙◌, ap, subst}
use mathlib.Core.List.{List}
use mathlib.Core.Bool.{Bool, cond}
use mathlib.Core.Logic.{⊎_elim}
use native.Mathlib.Omega.{arith}
use borrow.Author.Tests.{lt-ltb, le-ltb}
use lib.ListN.{length}
use Rattle.wire.specs.Bytes.{over}
use Rattle.wire.proofs.Cases.{lt_or_ge}
use Rattle.wire.proofs.Stores.{put_long, front}
use Rattle.sheet.specs.declared.Sheet.{Sheet}
use Rattle.sheet.specs.declared.Answer.TheVariants as answer
use Rattle.sheet.specs.Range.{InRange}
use Rattle.std.specs.Prelude.{Option, Some, None}
use Rattle.fields.specs.declared.Reading.{Reading}
use Rattle.headers.specs.Headers.{Header, header_of}
use Rattle.fields.specs.Field.{read_field}
use Rattle.fields.specs.Order.{reading, refused_with, read_header, read_in_order}
use Rattle.fields.proofs.InOrder.{read_is}
use Rattle.answers.proofs.Room.{answer_fits}
use Rattle.answers.specs.Answers.{answer_bytes, answer_room}
use Rattle.fields.specs.Readings.{FieldRead, ReadWithin}
use Rattle.headers.proofs.Whole.{header_fits}
use Rattle.fields.proofs.Kept.{read_kept}

record Fits (input : List ℕ) (room : ℕ) (r : Reading) : Type 0 where
  consumed : r.consumed ≤ length input
  written : r.written ≡ length (answer_bytes r.answer)
  answer : length (answer_bytes r.answer) ≤ room

header_room : (h : Option Header) (input : List ℕ) (room : ℕ) (s : Sheet) → answer_room ≤ room → h ≡ header_of input → Fits input room (read_header h input s)
unfolding read_header
header_room None input room s g e = record { consumed = omega arith; written = refl; answer = omega (arith, answer_fits (answer.Refused 3)) }
header_room (Some h) input room s g e = record {
  consumed = header_fits input h e refl;
  written = refl;
  answer = let a : length (answer_bytes (read_header (Some h) input s).answer) ≤ answer_room = answer_fits (read_header (Some h) input s).answer in omega arith;
}

order_room : (input : List ℕ) (room : ℕ) (s : Sheet) → Fits input room (read_in_order input room s)
unfolding read_in_order answer_bytes
order_room input room s =
    ⊎_elim (λ l. subst outcome (sym (lt-ltb room answer_room l)) (record { consumed = omega arith; written = refl; answer = omega arith }))
    (λ g. subst outcome (sym (le-ltb room answer_room g)) (header_room (header_of input) input room s g refl)) (lt_or_ge room answer_room)
  where
    outcome : Bool → Type 0
    outcome b = Fits input room (cond b (reading 0 (refused_with 14 s)) (read_header (header_of input) input s))

read_room : (input : List ℕ) (room : ℕ) (s : Sheet) → Fits input room (read_field input room s)
read_room input room s = subst (Fits input room) (sym (read_is input room s)) (order_room input room s)

over_long : (w o : List ℕ) → length w ≤ length o → length (over w o) ≡ length o
over_long w o h = ap length (sym (front w o h)) ∙ put_long w o 0 (refl, refl)

pub within : (input out : List ℕ) (s : Sheet) {r : Reading} {out' : List ℕ} → InRange s → FieldRead input out s r out' → ReadWithin input out r out'
within input out s {r} h f =
    let m = read_room input (length out) s in
    let a : length (answer_bytes r.answer) ≤ length out = rw f.reading m.answer in
    record {
      in_range = rw f.reading (read_kept input (length out) s h);
      consumed = rw f.reading m.consumed;
      written = rw f.reading (rw m.written m.answer);
      same = ap length f.output ∙ over_long _ out a;
    }

-- so a reading by the definition is one that a caller can go on from
pub read_on : {input out : List ℕ} {s : Sheet} {r : Reading} {out' : List ℕ} → InRange s → FieldRead input out s r out' →
    FieldRead input out s r out' × ReadWithin input out r out'
read_on h f = (f, within _ _ _ h f)
