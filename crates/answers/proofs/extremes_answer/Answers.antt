-- The tag and the length, and then the two extremes.
use Rattle.wire.specs.Bytes.{bytes4, bytes8}
use Rattle.answers.specs.Answers.{extreme_bytes, answer_bytes}
use Rattle.answers.proofs.extremes_answer.Goals as goal

pub returns : goal.returns
unfolding answer_bytes extreme_bytes bytes8 bytes4
returns c =
    rw (c.copy_from_slice.ensures.after, c.copy_from_slice-2.ensures.after, c.copy_from_slice-3.ensures.after, c.extreme_bytes.ensures, c.extreme_bytes-2.ensures)
