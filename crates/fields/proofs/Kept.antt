-- Every field keeps a sheet in range, and so does every reading.
-- Assumes nothing.
use Prim.Native.Nat.{ℕ}
use mathlib.Core.List.{List}
use mathlib.Core.Path.{sym, subst}
use lib.ListN.{length, take, drop}
use lib.Dec.{eqb, ltb}
use Rattle.sheet.specs.declared.Sheet.{Sheet}
use Rattle.sheet.specs.declared.Answered.{Answered}
use Rattle.sheet.specs.Looks.{looked_extremes, looked_utilisation}
use Rattle.sheet.specs.Range.{InRange}
use Rattle.sheet.proofs.Kept.{tried_kept, restarted, fill_kept, effects_kept, emptied_kept, capacities_kept, switch_kept, straining_kept}
use Rattle.std.specs.Prelude.{Option, Some, None}
use Rattle.fields.specs.declared.Reading.{Reading}
use Rattle.headers.specs.Headers.{Header, header_of, due_header}
use Rattle.fields.specs.Field.{read_field}
use Rattle.tags.specs.Run.{run_of}
use Rattle.fields.specs.Order.{field_of, read_header, read_in_order}
use Rattle.fields.proofs.InOrder.{read_is}
use Rattle.wire.proofs.Cases.{both}
use Rattle.tags.proofs.Laws.{run_by}
use Rattle.answers.specs.Answers.{answer_room}

abbrev AnsweredInRange : Answered → Type 0
AnsweredInRange a = InRange a.sheet

run_kept : (s : Sheet) (tag : ℕ) (b : List ℕ) → InRange s → InRange (run_of s tag b).sheet
unfolding looked_extremes looked_utilisation
run_kept s tag b h =
    run_by AnsweredInRange s tag b (restarted s _ _ _ h) (tried_kept _ s _ h (fill_kept s _ _ h)) (tried_kept _ s _ h (effects_kept s _ _ _ _ _ h))
    (tried_kept _ s _ h (emptied_kept s _ h)) (tried_kept _ s _ h (capacities_kept s _ _ _ _ h)) h h (tried_kept _ s _ h (switch_kept s _ h))
    (tried_kept _ s _ h (straining_kept s _ h)) (tried_kept _ s s h (λ _. h))

pub field_kept : (s : Sheet) (tag : ℕ) (b : List ℕ) → InRange s → InRange (field_of s tag b).sheet
unfolding field_of
field_kept s tag b h = both AnsweredInRange (eqb (due_header tag (length b)) 0) (run_kept s tag b h) h

header_kept : (h : Option Header) (input : List ℕ) (s : Sheet) → InRange s → InRange (read_header h input s).sheet
unfolding read_header
header_kept None input s h = h
header_kept (Some field) input s h = field_kept s field.tag (take field.len (drop 3 input)) h

order_kept : (input : List ℕ) (room : ℕ) (s : Sheet) → InRange s → InRange (read_in_order input room s).sheet
unfolding read_in_order
order_kept input room s h = both (λ (r : Reading). InRange r.sheet) (ltb room answer_room) h (header_kept (header_of input) input s h)

pub read_kept : (input : List ℕ) (room : ℕ) (s : Sheet) → InRange s → InRange (read_field input room s).sheet
read_kept input room s h = subst (λ (r : Reading). InRange r.sheet) (sym (read_is input room s)) (order_kept input room s h)
