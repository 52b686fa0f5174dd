-- Each field is read on the sheet that the one before left, its answer is put after the others, and the first refusal is kept.
use Rattle.std.proofs.Common.{rules, arith, ◌∙◌, ◌<◌, ap, length, length-drop, ℕ, Option}
use Rattle.std.specs.Option.{option_or}
use Rattle.headers.proofs.Whole.{part_from, consumed_some}
use Rattle.lists.proofs.Placed.{read_put}
use Rattle.loading.proofs.ReadAll.{going_room, going_next, going_end}
use Rattle.loading.proofs.read_all.Goals as goal

pub loop-left-smaller : goal.loop-left-smaller
loop-left-smaller c =
    let l = c.loop-left in
    let g : 0 < length l.left.now = search rules in
    let x = read_put l.left.now l.output l.written l.sheet (going_room l.invariant g) c.read_in-r.ensures.0 in
    let k = x.consumed in
    let s = consumed_some l.left.now g in
    rw (part_from, length-drop) (omega arith)

pub loop-left-preserved : goal.loop-left-preserved
loop-left-preserved c =
    let l = c.loop-left in
    let g : 0 < length l.left.now = search rules in
    let x = read_put l.left.now l.output l.written l.sheet (going_room l.invariant g) c.read_in-r.ensures.0 in
    let e = c.or-first.ensures ∙ ap (λ (n : Option ℕ). option_or l.first n) c.refusal_of.ensures in
    rw part_from (going_next l.invariant g x e)

pub returns-clause-sheet : goal.returns-clause-sheet
returns-clause-sheet c = (going_end c.loop-left.invariant c.requires.room (search rules)).sheet

pub returns-clause-written : goal.returns-clause-written
returns-clause-written c = (going_end c.loop-left.invariant c.requires.room (search rules)).count

pub returns-clause-refusal : goal.returns-clause-refusal
returns-clause-refusal c = (going_end c.loop-left.invariant c.requires.room (search rules)).refusal

pub returns-clause-output : goal.returns-clause-output
returns-clause-output c = (going_end c.loop-left.invariant c.requires.room (search rules)).output
