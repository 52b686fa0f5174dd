-- No field but one that is cut, or longer than any may be, is answered with 3, the last answer of a service: such a field takes all
-- the bytes, whatever follows it.
-- Assumes nothing.
use Prim.Native.Nat.{ℕ}
use mathlib.Core.Path.{◌≡◌, refl, sym, ◌∙◌, ap}
use mathlib.Core.List.{List, ◌++◌}
use mathlib.Core.Bool.{true, false}
use native.Mathlib.Omega.{arith}
use lib.ListN.{length, take, drop}
use lib.Dec.{ltb, eqb}
use Rattle.sheet.specs.declared.Sheet.{Sheet}
use Rattle.sheet.specs.declared.Answer.{Answer}
use Rattle.sheet.specs.declared.Answered.{Answered}
use Rattle.refusals.specs.Refusals.{first_due}
use Rattle.std.specs.Prelude.{Option, Some, None}
use Rattle.headers.specs.Headers.{Header, header_of, length_of, last_tag, name_number, name_length, due_header, consumed_by, consumed_of, ready_of}
use Rattle.fields.specs.Field.{read_field}
use Rattle.tags.specs.Run.{run_of}
use Rattle.fields.specs.Order.{field_of, read_header, read_in_order}
use Rattle.fields.proofs.InOrder.{read_is}
use Rattle.answers.specs.Answers.{last_of, answer_room}
use Rattle.wire.proofs.Cases.{both}
use Rattle.fields.specs.declared.Reading.{Reading}
use Rattle.tags.specs.Tags.{tag_at}
use Rattle.tags.proofs.Laws.{by_tags}
use Rattle.tags.proofs.Numbers.{tag_due_own}
use Rattle.fields.proofs.Ready.{header_same}

abbrev NotLast : Answer → Type 0
NotLast a = last_of a ≡ false

-- no refusal of a whole field is 3
header_not_3 : (tag len : ℕ) → eqb (due_header tag len) 3 ≡ false
unfolding due_header
header_not_3 tag len =
    both Not3 (eqb tag name_number) (both Not3 (name_length len) refl refl)
    (both Not3 (eqb tag 0) refl (both Not3 (ltb last_tag tag) refl (both Not3 (eqb len (length_of tag)) refl refl)))
  where
    Not3 : ℕ → Type 0
    Not3 n = eqb n 3 ≡ false

abbrev NotLastAnswer : Answered → Type 0
NotLastAnswer a = NotLast a.answer

run_not_last : (s : Sheet) (tag : ℕ) (b : List ℕ) → NotLastAnswer (run_of s tag b)
unfolding run_of
run_not_last s tag b =
    both NotLast (eqb (first_due ((tag_at tag).refusals s b)) 0) (by_tags (λ t. NotLast (t.answer s b)) refl refl refl refl refl refl refl refl refl refl tag)
    (tag_due_own s b tag).not_3

field_not_last : (s : Sheet) (tag : ℕ) (b : List ℕ) → NotLastAnswer (field_of s tag b)
unfolding field_of
field_not_last s tag b = both NotLastAnswer (eqb (due_header tag (length b)) 0) (run_not_last s tag b) (header_not_3 tag (length b))

header_last : (h : Option Header) (input : List ℕ) (s : Sheet) → last_of (read_header h input s).answer ≡ true → h ≡ None
unfolding read_header
header_last None input s e = refl
header_last (Some h) input s e =
    let n = sym (field_not_last s h.tag (take h.len (drop 3 input))) ∙ e in
    absurd (let z : ◌≡◌ {A = ℕ} 0 1 = cc in omega arith)

order_last : (input : List ℕ) (s : Sheet) → last_of (read_in_order input answer_room s).answer ≡ true → header_of input ≡ None
unfolding read_in_order
order_last input s e = header_last (header_of input) input s e

last_short : (input : List ℕ) (s : Sheet) → last_of (read_field input answer_room s).answer ≡ true → header_of input ≡ None
last_short input s e = order_last input s (ap (λ (r : Reading). last_of r.answer) (sym (read_is input answer_room s)) ∙ e)

pub last_all : (input t : List ℕ) (s : Sheet) → ready_of input ≡ true → last_of (read_field input answer_room s).answer ≡ true →
    consumed_by (input ++ t) ≡ length (input ++ t)
last_all input t s r e = ap (λ (h : Option Header). consumed_of h (input ++ t)) (header_same input t r ∙ last_short input s e)
