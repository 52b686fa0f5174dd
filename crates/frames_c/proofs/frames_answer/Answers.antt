-- What is answered is written, unless a refusal is due.
use Rattle.frames_c.proofs.Calls.{answer_given}
use Rattle.frames_c.proofs.frames_answer.Goals as goal

pub returns : goal.returns
returns c =
    let a = c.args in
    rw c.from.ensures (answer_given a.state.now a.input.now a.output.now c.answered.result c.answered.ensures)
