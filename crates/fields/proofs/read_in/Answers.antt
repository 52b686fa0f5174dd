-- `fields::read_in` meets its contract: refusals 14 and 3, and then the field's own answer.
use Prim.Native.Nat.{ℕ, ◌+◌}
use mathlib.Core.List.{List}
use lib.ListN.{length}
use mathlib.Core.Path.{◌≡◌, refl, sym, ◌∙◌, ap}
use borrow.Author.Tests.{lt-ltb, le-ltb}
use Rattle.wire.specs.Bytes.{over}
use Rattle.sheet.specs.declared.Sheet.{Sheet}
use Rattle.sheet.specs.declared.Answered.{Answered}
use Rattle.fields.specs.declared.Reading.{Reading}
use Rattle.fields.specs.Field.{read_field}
use Rattle.fields.specs.Order.{read_in_order, read_header, reading}
use Rattle.answers.specs.Answers.{answer_room, answer_bytes}
use Rattle.fields.proofs.InOrder.{read_is}
use Rattle.fields.proofs.Within.{read_on}
use Rattle.fields.proofs.Named.{refused_fits, field_fits}
use borrow.Author.Rules.{rules}
use Rattle.fields.proofs.read_in.Goals as goal

by_order : (input : List ℕ) (room : ℕ) (s : Sheet) {r : Reading} → r ≡ read_in_order input room s → r ≡ read_field input room s
by_order input room s e = e ∙ sym (read_is input room s)

pub returns-then-out-lt-ANSWER_ROOM : goal.returns-then-out-lt-ANSWER_ROOM
unfolding read_in_order over answer_bytes
returns-then-out-lt-ANSWER_ROOM c =
    rw c.from.ensures (read_on c.requires (record { reading = by_order _ _ _ (rw (lt-ltb _ answer_room c.if-out-lt-ANSWER_ROOM.true)); output = refl }))

pub put_answer-written-requires : goal.put_answer-written-requires
put_answer-written-requires c = (search rules, rw c.from-answer.ensures (refused_fits 3))

pub returns-in_default : goal.returns-in_default
unfolding read_in_order read_header
returns-in_default c =
    let e = rw c.in_default.is at c.field_of.ensures.field in
    let p = rw c.from-answer.ensures at c.put_answer-written.ensures in
    rw c.from-answer.ensures (read_on c.requires (record { reading = by_order _ _ _ (rw (le-ltb _ _ c.if-out-lt-ANSWER_ROOM.false, e, p.0)); output = p.1 }))

pub put_answer-written-requires-2 : goal.put_answer-written-requires-2
put_answer-written-requires-2 c =
    (search rules, rw c.from-answer-2.ensures (rw (ap (λ (a : Answered). a.answer) c.field_in.ensures) (field_fits _ _ _)))

pub returns : goal.returns
unfolding read_in_order read_header
returns c =
    let f = rw c.in-Some.is at c.field_of.ensures.field in
    let l = length c.in-Some.field-0.body.now in
    let p = rw c.from-answer-2.ensures at c.put_answer-written-2.ensures in
    rw c.from-answer-2.ensures
    (read_on c.requires
    (record { reading = by_order _ _ _ (rw (le-ltb _ _ c.if-out-lt-ANSWER_ROOM.false, f.0, p.0) (ap (reading (3 + l)) (rw f.1 at c.field_in.ensures))); output = p.1 }))
