-- The answers to the fields at hand are handed on, and what those fields leave of the bytes is held.
use Rattle.transfers.specs.Filled.{is_ended, is_failed}
use Rattle.turns.proofs.Turns.{turned}
use Rattle.turns.proofs.turn.Goals as goal

pub returns-clause-turned : goal.returns-clause-turned
returns-clause-turned g c =
    let a = c.args in
    let m = c.read_some-m in
    let p = c.answer_all-p.ensures in
    let x = rw c.is_ended.ensures at p.progressed in
    rw c.goes_on.ensures
    (turned a.s.held a.sheet.now a.input.now a.output.now (is_ended m.result.source) (is_failed m.result.source) c.requires.2 m.ensures x p.within.written
    c.write_all-sent.ensures c.shift.ensures)
