-- The fields of the state, the refusals that are due, and the fields of the input.
use Rattle.std.proofs.Common.{◌∙◌, ◌*◌, sym, length}
use borrow.Author.Tests.{ltb-false}
use Rattle.answers.specs.Answers.{answer_room}
use Rattle.sheet.proofs.Kept.{fresh_kept}
use Rattle.lists.specs.Lists.{fields_of}
use Rattle.frames_c.proofs.Calls.{short_refused, state_refused, all_answered}
use Rattle.frames_c.proofs.answered.Goals as goal

pub load-refusal-requires : goal.load-refusal-requires
load-refusal-requires c = rw c.requires fresh_kept

pub returns-then-is_short : goal.returns-then-is_short
returns-then-is_short c =
    let a = c.args in
    rw c.from.ensures (short_refused a.state.now a.input.now a.output.now (sym c.is_short.ensures ∙ c.if-is_short.true))

pub returns-in-Some : goal.returns-in-Some
returns-in-Some c =
    let a = c.args in
    let l = rw c.requires at c.load-refusal.ensures.refusal in
    state_refused a.state.now a.input.now a.output.now (sym c.is_short.ensures ∙ c.if-is_short.false) _ (sym l ∙ c.in-Some.is)

pub read_all-requires-clause-room : goal.read_all-requires-clause-room
read_all-requires-clause-room c =
    let a = c.args in
    ltb-false (length a.output.now) (answer_room * length (fields_of a.input.now)) (sym c.is_short.ensures ∙ c.if-is_short.false)

pub returns : goal.returns
returns c =
    let a = c.args in
    let l = rw c.requires at c.load-refusal.ensures.refusal in
    let s = rw c.requires at c.load-refusal.ensures.sheet in
    let r = c.read_all.ensures in
    all_answered a.state.now a.input.now a.output.now (sym c.is_short.ensures ∙ c.if-is_short.false) (sym l ∙ c.in_default.is)
    (rw s at r.sheet) (rw s at r.written) (rw s at r.output)
