-- The tag and the length, and then the utilisation.
use Rattle.wire.specs.Bytes.{bytes4, bytes8}
use Rattle.answers.specs.Answers.{utilised_bytes, answer_bytes}
use Rattle.answers.proofs.utilisation_answer.Goals as goal

pub returns : goal.returns
unfolding answer_bytes utilised_bytes bytes8 bytes4
returns c = rw (c.copy_from_slice.ensures.after, c.copy_from_slice-2.ensures.after, c.utilised_bytes.ensures)
