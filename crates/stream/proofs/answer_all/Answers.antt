-- The loop answers the fields that are answered now.
use Rattle.std.proofs.Common.{arith, rules, ◌≡◌}
use Rattle.stream.specs.Answering.{begun}
use Rattle.stream.proofs.Going.{going_start, going_room, going_next, going_fewer, going_end}
use Rattle.stream.proofs.answer_all.Goals as goal

pub loop-sheet-init : goal.loop-sheet-init
loop-sheet-init c =
    let same : c.default-p.result ≡ begun = search rules in
    rw same (going_start _ _ _ _ c.requires.0 c.requires.1)

pub goes_on-requires : goal.goes_on-requires
goes_on-requires c =
    let w = c.loop-sheet.invariant.within in
    (w.consumed, omega (arith, w.same, w.written))

pub answer-p-requires : goal.answer-p-requires
answer-p-requires c = going_room c.loop-sheet.invariant c.goes_on.ensures c.loop-sheet-test.true

pub loop-sheet-smaller : goal.loop-sheet-smaller
loop-sheet-smaller c = going_fewer c.loop-sheet.invariant c.goes_on.ensures c.loop-sheet-test.true c.answer-p.ensures

pub loop-sheet-preserved : goal.loop-sheet-preserved
loop-sheet-preserved c = going_next c.loop-sheet.invariant c.goes_on.ensures c.loop-sheet-test.true c.answer-p.ensures

pub returns-clause-progressed : goal.returns-clause-progressed
returns-clause-progressed c = going_end c.loop-sheet.invariant c.goes_on.ensures c.loop-sheet-test.false
