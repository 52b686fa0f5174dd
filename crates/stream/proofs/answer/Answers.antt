-- It answers the field at its place, after the answers that wait.
use Rattle.stream.proofs.Fields.{progressed_one}
use Rattle.stream.proofs.answer.Goals as goal

pub returns : goal.returns
returns c =
    let a = c.args in
    progressed_one a.p a.sheet.now a.input.now a.output.now c.requires.1 c.read_in-r.ensures.0 (rw c.requires.2 c.is_last.ensures)
